-- How each way through the checks of a call makes what they tell.
use mathlib.Core.Path.{◌≡◌, refl, sym, ◌∙◌}
use mathlib.Core.Bool.{Bool, true, false, not}
use mathlib.Core.List.{List}
use Prim.Native.Nat.{ℕ, ◌≤◌, ◌<◌}
use native.Mathlib.Omega.{arith}
use lib.ListN.{length}
use borrow.Author.Tests.{lt-ltb, le-ltb, not-false}
use Rattle.std.specs.Prelude.{cond, Option, is_some, Result, IsErrAnd}
use Rattle.std.proofs.lemmas.Result.{err_from_is_err_and}
use Rattle.octets.specs.Lists.{within}
use Rattle.octets.proofs.ListLaws.{within_low, within_high}
use Rattle.machine.specs.Time.{jumped}
use Rattle.plan.specs.Plan.{flow_numbered, in_plan}
use Rattle.state.specs.State.{notice_due}
use Rattle.state.specs.Image.{state_of, ok_image}
use Rattle.octets.proofs.Cases.{by_eq}
use Rattle.state.specs.Rows.{row_found, numbered_at}
use Rattle.state.proofs.ImageLaws.{ok_length}
use Rattle.state.proofs.PlaceLaws.{numbered_none, numbered_within, ok_places, ok_numbers}
use Rattle.calls.specs.Calls.{Call, tick, allow, prohibit, notice, restart, refusal, short_output, no_such_flow}
use Rattle.calls_serving.specs.Preconditions.{ImageKnown, FlowKnown, NoticeKnown}
use Rattle.tmavolice.specs.declared.refusals.Refusal.{Refusal}
use Rattle.tmavolice.specs.Checks.{refusal_number, checked_number, image_checked, quiet_checked, checked, Checked}

pub numbered : (e : Refusal) → 1 ≤ refusal_number e
numbered e = grind arith

pub refused_alone : {l : List ℕ} {c : Call} {Known : Type 0} (e : Refusal) → (1 ≤ refusal_number e → refusal_number e ≡ checked l c)
    → Checked l c Known (refusal_number e)
refused_alone e right =
    let some : 1 ≤ refusal_number e = numbered e in
    record { right = right some; known = λ z. absurd (omega arith) }

-- a check left by a `?`
pub stopped : {l : List ℕ} {c : Call} {Known : Type 0} (e : Refusal) (r : Result (Unit {0}) Refusal) → IsErrAnd r (λ d. d ≡ e)
    → (1 ≤ refusal_number e → refusal_number e ≡ checked l c) → Checked l c Known (checked_number r)
stopped e r told right =
    let p : _ = err_from_is_err_and r told in
    rw (p.1, p.2) (refused_alone e right)

-- what the check of the image says where it passes, and of a call that it stops
pub image_passes : (l : List ℕ) → 0 ≡ image_checked l → ok_image l ≡ true
image_passes l e = go (ok_image l) refl
  where
    go : (t : Bool) → ok_image l ≡ t → t ≡ true
    go true f = refl
    go false f = let z : ◌≡◌ {A = ℕ} 0 8 = rw f at e in absurd (omega arith)

pub image_stops : (l : List ℕ) (c : Call) (n : ℕ) → n ≡ image_checked l → 1 ≤ n → n ≡ checked l c
unfolding checked
image_stops l c n e h = go (ok_image l) refl
  where
    go : (t : Bool) → ok_image l ≡ t → n ≡ checked l c
    go true f = let z : n ≡ 0 = rw f at e in absurd (omega arith)
    go false f = rw f at e ∙ rw f

-- the same of that check and the one of a notice that is due
pub quiet_passes : (l : List ℕ) → 0 ≡ quiet_checked l → (ok_image l ≡ true) × (notice_due (state_of l) ≡ false)
quiet_passes l e = go (ok_image l) (notice_due (state_of l)) refl refl
  where
    go : (t d : Bool) → ok_image l ≡ t → notice_due (state_of l) ≡ d → (ok_image l ≡ true) × (notice_due (state_of l) ≡ false)
    go true true f g = let z : ◌≡◌ {A = ℕ} 0 4 = rw (f, g) at e in absurd (omega arith)
    go true false f g = (f, g)
    go false d f g = let z : ◌≡◌ {A = ℕ} 0 8 = rw f at e in absurd (omega arith)

pub quiet_stops : (l : List ℕ) (c : Call) (n rest : ℕ) → refusal (state_of l) c ≡ cond (notice_due (state_of l)) 4 rest
    → n ≡ quiet_checked l → 1 ≤ n → n ≡ checked l c
unfolding checked
quiet_stops l c n rest is e h = go (ok_image l) (notice_due (state_of l)) refl refl
  where
    go : (t d : Bool) → ok_image l ≡ t → notice_due (state_of l) ≡ d → n ≡ checked l c
    go true true f g = rw (f, g) at e ∙ rw (f, is, g)
    go true false f g = let z : n ≡ 0 = rw (f, g) at e in absurd (omega arith)
    go false d f g = rw f at e ∙ rw f

module _ {l : List ℕ} {c : Call} {Known : Type 0} (ok : ok_image l ≡ true) where
  pub refused : (n : ℕ) → 1 ≤ n → n ≡ refusal (state_of l) c → Checked l c Known n
  unfolding checked
  refused n h e = record { right = rw ok e; known = λ z. absurd (omega arith) }

  pub passed : 0 ≡ refusal (state_of l) c → Known → Checked l c Known 0
  unfolding checked
  passed e k = record { right = rw ok e; known = λ z. k }

-- ---- a tick and a restart

module _ {l : List ℕ} (ok : ok_image l ≡ true) where
  module _ (quiet : notice_due (state_of l) ≡ false) {clock last : ℕ} {far : Bool} (read : last ≡ (state_of l).clock)
      (moved : far ≡ jumped clock last) where
    pub tick_far : far ≡ true → Checked l (tick clock) (ImageKnown l) 5
    unfolding refusal
    tick_far f = refused ok 5 (omega arith) (rw (quiet, ← read, sym moved ∙ f))

    pub tick_passes : far ≡ false → Checked l (tick clock) (ImageKnown l) 0
    unfolding refusal
    tick_passes f =
        passed ok (rw (quiet, ← read, sym moved ∙ f)) (record { ok = ok; long = ok_length l ok })

pub tick_stops : (l : List ℕ) (clock n : ℕ) → n ≡ quiet_checked l → 1 ≤ n → n ≡ checked l (tick clock)
unfolding refusal
tick_stops l clock n = quiet_stops l (tick clock) n _ refl

pub restart_checks : {l : List ℕ} {clock : ℕ} (n : ℕ) → n ≡ image_checked l → Checked l (restart clock) (ImageKnown l) n
unfolding checked refusal
restart_checks {l} n e =
    record {
      right = e;
      known = λ z. let ok : ok_image l ≡ true = image_passes l (sym z ∙ e) in record { ok = ok; long = ok_length l ok };
    }

-- ---- a flow allowed or prohibited

flow_there : (l : List ℕ) (flow : ℕ) {row : Option ℕ} → ok_image l ≡ true → row ≡ row_found (numbered_at flow l)
    → not (is_some row) ≡ no_such_flow (state_of l) flow
unfolding no_such_flow
flow_there l flow ok found =
    rw (found, ← numbered_none l (ok_places l ok) (ok_numbers l ok) flow)
    (by_eq (numbered_at flow l) 0 (λ e z. simp e) (λ e z. simp e))

flow_known : (l : List ℕ) (flow : ℕ) → ok_image l ≡ true → no_such_flow (state_of l) flow ≡ false → FlowKnown l flow
unfolding no_such_flow
flow_known l flow ok e =
    let there : in_plan (flow_numbered flow (state_of l).plan).number ≡ true = not-false _ e in
    let w : within 1 32 flow ≡ true = numbered_within l (ok_places l ok) (ok_numbers l ok) flow there in
    record { ok = ok; long = ok_length l ok; low = within_low 1 32 flow w; high = within_high 1 32 flow w }

pub flow_stops : (l : List ℕ) (flow n : ℕ) → n ≡ quiet_checked l → 1 ≤ n → n ≡ checked l (allow flow)
unfolding refusal
flow_stops l flow n = quiet_stops l (allow flow) n _ refl

module _ {l : List ℕ} {flow : ℕ} {row : Option ℕ} (ok : ok_image l ≡ true) (quiet : notice_due (state_of l) ≡ false)
    (found : row ≡ row_found (numbered_at flow l)) where
  pub flow_missing : is_some row ≡ false → Checked l (allow flow) (FlowKnown l flow) 6
  unfolding refusal
  flow_missing z = refused ok 6 (omega arith) (rw (quiet, ← flow_there l flow ok found, z))

  pub flow_passes : is_some row ≡ true → Checked l (allow flow) (FlowKnown l flow) 0
  unfolding refusal
  flow_passes z =
      let e : no_such_flow (state_of l) flow ≡ false = sym (flow_there l flow ok found) ∙ rw z in
      passed ok (rw (quiet, e)) (flow_known l flow ok e)

-- both calls make the same checks
pub prohibit_checks : {l : List ℕ} {flow number : ℕ} {Known : Type 0} → Checked l (allow flow) Known number
    → Checked l (prohibit flow) Known number
unfolding checked refusal
prohibit_checks k = record { right = k.right; known = k.known }

-- ---- a notice taken

module _ {l : List ℕ} {out : List ℕ} (ok : ok_image l ≡ true) where
  pub notice_short : length out < 2008 → Checked l (notice out) (NoticeKnown l out) 3
  unfolding refusal short_output
  notice_short h = refused ok 3 (omega arith) (rw (lt-ltb (length out) 2008 h))

  module _ (room : 2008 ≤ length out) {due : Bool} (asked : due ≡ notice_due (state_of l)) where
    pub notice_none : due ≡ false → Checked l (notice out) (NoticeKnown l out) 7
    unfolding refusal short_output
    notice_none d = refused ok 7 (omega arith) (rw (le-ltb (length out) 2008 room, sym asked ∙ d))

    pub notice_passes : due ≡ true → Checked l (notice out) (NoticeKnown l out) 0
    unfolding refusal short_output
    notice_passes d =
        passed ok (rw (le-ltb (length out) 2008 room, sym asked ∙ d))
        (record { ok = ok; long = ok_length l ok; due = sym asked ∙ d; room = room })
