-- A run of the C entries on octets that no valid state has, of any length: every call gets 8, a faulty plan its fault, and no octet
-- changes, until a call makes a state.
use mathlib.Core.Path.{◌≡◌, refl}
use mathlib.Core.Bool.{Bool, true, false, cond, not, ◌&&◌, true≢false}
use mathlib.Core.List.{List, [], ◌∷◌, ◌++◌, map}
use Prim.Native.Nat.{ℕ, ◌*◌, ◌≤◌, ◌^◌}
use lib.Dec.{eqb}
use lib.ListN.{length}
use borrow.Author.Tests.{not-true}
use Rattle.octets.specs.Lists.{every}
use Rattle.octets.proofs.Same.{both_true}
use Rattle.plan.specs.Plan.{Plan}
use Rattle.plan.specs.PlanText.{Reading, fault, planned, plan_in}
use Rattle.state.specs.Image.{state_of, ok_image}
use Rattle.state.proofs.OwedRow.{by_test}
use Rattle.calls.specs.declared.Answer.TheVariants.{Refused}
use Rattle.calls.specs.Answer.{leaves, number_of}
use Rattle.calls.specs.Calls.{Call, make, frame, tick, allow, prohibit, notice, restart, refusal, make_served, served}
use Rattle.calls.specs.Calls.{Entered, lent, handed, call, makes, keeps_image, stored, enter}
use Rattle.tmavolice.specs.Outcome.{Outcome}
use Rattle.demands.specs.World.{fresh}
use Rattle.demands.specs.Runs.{Seen, done_seen, world_run, EntriesRun, ended, entered, AllTyped}
use Rattle.demands.specs.Unmade.{is_plan, makes_state, none_makes, made_of, unmade, seen_unmade}
use Rattle.demands.proofs.DemandTwo.{seen_is, demand_two_made}

-- ---- one call

module _ (l : List ℕ) (bad : ok_image l ≡ false) where
  -- nothing is written, and no octet changes
  abbrev kept : Call → Entered
  kept c = record { number = number_of (unmade (length l) c); image = l; out = lent c }

  make_kept : (text : List ℕ) (clock : ℕ) → makes_state (length l) (make text clock) ≡ false
      → enter l (make text clock) ≡ kept (make text clock)
  unfolding makes_state is_plan unmade made_of enter makes call refusal served make_served handed leaves lent stored keeps_image
  make_kept text clock h = go (eqb (length l) 4096) (plan_in text) h
    where
      go : (long : Bool) (r : Reading) → (long && is_plan r) ≡ false
          → cond (long && true) (stored l (handed (make text clock) (make_served (state_of l) clock r)))
          (record { number = number_of (Refused 8); image = l; out = [] })
          ≡ record { number = number_of (cond long (made_of r) (Refused 8)); image = l; out = [] }
      go true (fault line reason) e = refl
      go true (planned plan) e = absurd (true≢false e)
      go false r e = refl

  other_kept : (c : Call) → makes c ≡ false → unmade (length l) c ≡ Refused 8 → enter l c ≡ kept c
  unfolding enter
  other_kept c m e = rw (m, bad, e) (by_test (eqb (length l) 4096) (λ t. rw t) (λ t. rw t))

  call_kept : (c : Call) → makes_state (length l) c ≡ false → enter l c ≡ kept c
  unfolding makes unmade
  call_kept (make text clock) h = make_kept text clock h
  call_kept (frame port side octets out) h = other_kept (frame port side octets out) refl refl
  call_kept (tick clock) h = other_kept (tick clock) refl refl
  call_kept (allow flow) h = other_kept (allow flow) refl refl
  call_kept (prohibit flow) h = other_kept (prohibit flow) refl refl
  call_kept (notice out) h = other_kept (notice out) refl refl
  call_kept (restart clock) h = other_kept (restart clock) refl refl

  -- what its promise says was seen, and the octets after it
  module _ (c : Call) (none : makes_state (length l) c ≡ false) where
    seen_kept : {left : List ℕ} (x : Seen) → Outcome (enter l c) x.number left x.out
        → (x ≡ seen_unmade (length l) c) × (left ≡ l)
    unfolding seen_unmade
    seen_kept x o =
        let e : _ = call_kept c none in
        (seen_is x (rw e at o.answered) (rw e at o.written), rw e at o.stored)

-- ---- a run

pub unmade_run : {l : List ℕ} {cs : List Call} {xs : List Seen} {ls : List (List ℕ)} → EntriesRun l cs xs ls → ok_image l ≡ false
    → none_makes (length l) cs ≡ true
    → (xs ≡ map (seen_unmade (length l)) cs) × (ls ≡ map (λ c. l) cs)
unfolding every
unmade_run ended bad none = (refl, refl)
unmade_run (entered {l = l} {left = left} {c = c} {cs = cs} {x = x} o more) bad none =
    let n : _ = both_true (not (makes_state (length l) c)) (none_makes (length l) cs) none in
    let k : _ = seen_kept l bad c (not-true (makes_state (length l) c) n.0) x o in
    let rest : _ = unmade_run more (rw k.1 bad) (rw k.1 n.1) in
    let seen_rest : _ = rw k.1 at rest.0 in
    let left_rest : _ = rw k.1 at rest.1 in
    (rw (k.0, seen_rest), rw (k.1, left_rest))

-- Once a call makes one of 4,096 octets, the world answers.
module _ (keys : ℕ) (big : 33 * 2 ^ 48 ≤ keys) (text : List ℕ) (clock : ℕ) (plan : Plan) (reads : plan_in text ≡ planned plan)
    (after : List Call) (typed : AllTyped (make text clock ∷ after)) where
  pub unmade_then_made : (before : List Call) {l : List ℕ} {xs : List Seen} {ls : List (List ℕ)} → ok_image l ≡ false
      → length l ≡ 4096
      → none_makes (length l) before ≡ true
      → EntriesRun l (before ++ (make text clock ∷ after)) xs ls
      → xs ≡ map (seen_unmade (length l)) before ++ (done_seen ∷ world_run keys (fresh plan clock) after)
  unfolding every
  unmade_then_made [] bad long none run = demand_two_made keys big long reads typed run
  unmade_then_made (c ∷ before) {l = l} bad long none (entered {left = left} {x = x} o more) =
      let n : _ = both_true (not (makes_state (length l) c)) (none_makes (length l) before) none in
      let k : _ = seen_kept l bad c (not-true (makes_state (length l) c) n.0) x o in
      let rest : _ = unmade_then_made before (rw k.1 bad) (rw k.1 long) (rw k.1 n.1) more in
      let seen_rest : _ = rw k.1 at rest in
      rw (k.0, seen_rest)
