-- Demand 2: over any sequence of calls the unit answers as the world does, octets of every output included.
use mathlib.Core.Path.{◌≡◌, sym}
use mathlib.Core.Bool.{true}
use mathlib.Core.List.{List, [], ◌∷◌}
use Prim.Native.Nat.{ℕ, ◌*◌, ◌≤◌, ◌^◌, ◌<◌}
use lib.ListN.{length}
use borrow.Author.Tests.{eq-eqb}
use Rattle.plan.specs.Plan.{Plan}
use Rattle.plan.specs.PlanText.{planned, plan_in}
use Rattle.plan.proofs.ReadKeeps.{read_keeps}
use Rattle.state.specs.State.{State, valid, made}
use Rattle.state.specs.Image.{image, state_of, ok_image}
use Rattle.state.proofs.ImageLaws.{state_image, image_ok}
use Rattle.calls.specs.declared.Answer.TheVariants.{Done}
use Rattle.calls.specs.Answer.{leaves, number_of}
use Rattle.calls.specs.Calls.{Call, make, refusal, make_served, served}
use Rattle.calls.specs.Calls.{lent, handed, call, makes, keeps_image, stored, enter}
use Rattle.calls.proofs.CallValid.{made_valid}
use Rattle.tmavolice.specs.Outcome.{Outcome}
use Rattle.demands.specs.World.{fresh}
use Rattle.demands.specs.Runs.{Seen, done_seen, world_run, EntriesRun, entered, octets_after, AllTyped}
use Rattle.demands.specs.Shown.{world_of}
use Rattle.demands.proofs.Shows.{Shows}
use Rattle.demands.proofs.EntryShown.{state_shows}
use Rattle.demands.proofs.RunShown.{RunShown, run_shown}
use Rattle.demands.proofs.RestartShown.{fresh_shown}

-- ---- a state made anew, from any text that reads as a plan, on any 4,096 octets

pub record MakeShown (plan : Plan) (clock : ℕ) (x : Seen) (left : List ℕ) : Type 0 where
  pub ok : ok_image left ≡ true
  pub shows : Shows (state_of left) (fresh plan clock)
  pub told : x ≡ done_seen

pub seen_is : (x : Seen) {n : ℕ} {out : List ℕ} → x.number ≡ n → x.out ≡ out → x ≡ record { number = n; out = out }
seen_is x p q = rw (sym p, sym q)

module _ (l text : List ℕ) (clock : ℕ) (plan : Plan) (long : length l ≡ 4096) (reads : plan_in text ≡ planned plan) where
  make_enter : enter l (make text clock) ≡ record { number = number_of Done; image = image (made plan clock); out = [] }
  unfolding enter makes stored call refusal served make_served handed leaves lent keeps_image
  make_enter = rw (eq-eqb (length l) 4096 long, reads)

  pub make_shown : {left : List ℕ} (x : Seen) → Outcome (enter l (make text clock)) x.number left x.out → clock < 2 ^ 32
      → MakeShown plan clock x left
  make_shown {left = left} x o small =
      let s : State = made plan clock in
      let v : valid s ≡ true = made_valid plan clock small (read_keeps text plan reads) in
      let e : left ≡ image s = rw make_enter at o.stored in
      record {
        ok = rw e (image_ok s v);
        shows = rw (e, state_image s v) (fresh_shown plan clock);
        told = seen_is x (rw make_enter at o.answered) (rw make_enter at o.written);
      }

-- ---- a run

module _ (keys : ℕ) (big : 33 * 2 ^ 48 ≤ keys) where
  -- On any valid state's image, whatever the calls that made it.
  module _ {l : List ℕ} {cs : List Call} {xs : List Seen} {ls : List (List ℕ)} where
    -- after each call the octets are a valid state's image, and the last ones' state shows the world after the calls
    pub run_shows : ok_image l ≡ true → AllTyped cs → EntriesRun l cs xs ls
        → RunShown keys (world_of (state_of l)) cs xs (octets_after l ls) ls
    run_shows ok typed run = run_shown keys big run ok typed (world_of (state_of l)) (state_shows (state_of l))

    pub demand_two : ok_image l ≡ true → AllTyped cs → EntriesRun l cs xs ls → xs ≡ world_run keys (world_of (state_of l)) cs
    demand_two ok typed run = (run_shows ok typed run).seen_are

  -- So from any text that reads as a plan, any 4,096 octets before it, and any calls.
  pub demand_two_made : {l : List ℕ} {text : List ℕ} {clock : ℕ} {plan : Plan} {cs : List Call} {xs : List Seen}
      {ls : List (List ℕ)}
      → length l ≡ 4096
      → plan_in text ≡ planned plan
      → AllTyped (make text clock ∷ cs)
      → EntriesRun l (make text clock ∷ cs) xs ls
      → xs ≡ done_seen ∷ world_run keys (fresh plan clock) cs
  demand_two_made {l = l} {text = text} {clock = clock} {plan = plan} long reads typed (entered {x = x} o more) =
      let m : _ = make_shown l text clock plan long reads x o typed.0 in
      rw (m.told, (run_shown keys big more m.ok typed.1 (fresh plan clock) m.shows).seen_are)
