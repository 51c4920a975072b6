-- Every call on a valid state leaves a valid state.
use mathlib.Core.Path.{◌≡◌, refl}
use mathlib.Core.Bool.{Bool, true, false, cond}
use mathlib.Core.List.{List}
use Prim.Native.Nat.{ℕ, suc, zero, ◌+◌, ◌<◌, ◌^◌}
use native.Mathlib.Omega.{arith}
use lib.Dec.{eqb}
use lib.ListN.{length, replicate}
use borrow.Author.Tests.{not-false, eqb-true}
use Rattle.octets.specs.Lists.{within, every, ascends}
use Rattle.octets.proofs.ListLaws.{within_low}
use Rattle.octets.proofs.Laws.{Octets}
use Rattle.plan.specs.Plan.{Plan, flow_numbered, in_plan, keeps_rules}
use Rattle.plan.specs.PlanText.{Reading, fault, planned, plan_in}
use Rattle.plan.proofs.ReadKeeps.{read_keeps}
use Rattle.state.specs.State.{State, only_flows, notice_due, valid, with_sessions, with_clock, made}
use Rattle.state.proofs.Rules.{Valid, valid_parts}
use Rattle.calls.specs.declared.Answer.TheVariants.{Refused}
use Rattle.calls.specs.Answer.{leaves, sends}
use Rattle.calls.specs.Notice.{noticed, notice_served}
use Rattle.calls.specs.Calls.{Call, make, frame, tick, allow, prohibit, notice, restart}
use Rattle.calls.specs.Calls.{no_such_place, bad_length, short_output, no_such_flow, refusal}
use Rattle.calls.specs.Calls.{make_served, restarted_at, served, handed, call}
use Rattle.calls.proofs.Standing.{valid_whole}
use Rattle.calls.proofs.TickValid.{tick_valid}
use Rattle.calls.proofs.ManageValid.{allow_valid, prohibit_valid}
use Rattle.calls.proofs.ChangeValid.{without_valid}
use Rattle.calls.proofs.RequestValid.{Leaves}
use Rattle.calls.proofs.FrameValid.{frame_valid}

-- what the types of a host's arguments give: clock readings of 32 bits, and a frame of octets
abbrev pub FairCall : Call → Type 0
FairCall (make text clock) = clock < 2 ^ 32
FairCall (frame port side octets out) = Octets octets
FairCall (tick clock) = clock < 2 ^ 32
FairCall (allow flow) = Unit {0}
FairCall (prohibit flow) = Unit {0}
FairCall (notice out) = Unit {0}
FairCall (restart clock) = clock < 2 ^ 32

-- ---- a state that was just made, and one that starts again

none_allowed : (plan : Plan) (n k : ℕ) → only_flows plan n (replicate k false) ≡ true
unfolding only_flows
none_allowed plan n zero = refl
none_allowed plan n (suc k) = none_allowed plan (n + 1) k

pub made_valid : (plan : Plan) (clock : ℕ) → clock < 2 ^ 32 → keeps_rules plan ≡ true → valid (made plan clock) ≡ true
unfolding made ascends every
made_valid plan clock small kept =
    valid_whole (made plan clock)
    (record {
      plan_kept = kept;
      clock_fits = small;
      allowed_length = refl;
      flows_only = none_allowed plan 1 32;
      sessions_few = omega arith;
      sessions_ascend = refl;
      sessions_good = refl;
    })

restart_valid : (s : State) (clock : ℕ) → clock < 2 ^ 32 → valid s ≡ true → valid (restarted_at clock s) ≡ true
unfolding restarted_at ascends every with_clock with_sessions
restart_valid s clock small h =
    let v : Valid s = valid_parts s h in
    valid_whole (restarted_at clock s)
    (record {
      plan_kept = v.plan_kept;
      clock_fits = small;
      allowed_length = v.allowed_length;
      flows_only = v.flows_only;
      sessions_few = omega arith;
      sessions_ascend = refl;
      sessions_good = refl;
    })

-- ---- what a call that is not refused knows

-- a check that was passed
pub passed : (t : Bool) (n : ℕ) (rest : ℕ) → eqb (cond t (suc n) rest) 0 ≡ true → (t ≡ false) × (eqb rest 0 ≡ true)
passed true n rest e = absurd (omega (arith, eqb-true (suc n) 0 e))
passed false n rest e = (refl, e)

module _ (s : State) (h : valid s ≡ true) where
  read_valid : (text : List ℕ) (clock : ℕ) → clock < 2 ^ 32 → Leaves (make_served s clock (plan_in text))
  unfolding make_served leaves
  read_valid text clock small = go (plan_in text) refl
    where
      go : (r : Reading) → plan_in text ≡ r → Leaves (make_served s clock r)
      go (fault line reason) e = h
      go (planned plan) e = made_valid plan clock small (read_keeps text plan e)

  served_valid : (c : Call) → FairCall c → eqb (refusal s c) 0 ≡ true → Leaves (served s c)
  unfolding served refusal leaves sends notice_served noticed no_such_flow bad_length
  served_valid (make text clock) f r = read_valid text clock f
  served_valid (frame port side octets out) f r =
      let a : _ = passed (no_such_place s port side) 0 _ r in
      let b : _ = passed (bad_length octets) 1 _ a.1 in
      let c : _ = passed (short_output out) 2 _ b.1 in
      let d : _ = passed (notice_due s) 3 0 c.1 in
      frame_valid s h d.0 port side octets f
      (within_low 14 2000 (length octets) (not-false (within 14 2000 (length octets)) b.0))
  served_valid (tick clock) f r = tick_valid s clock f h
  served_valid (allow flow) f r =
      let a : _ = passed (notice_due s) 3 _ r in
      let b : _ = passed (no_such_flow s flow) 5 0 a.1 in
      allow_valid s flow h (not-false (in_plan (flow_numbered flow s.plan).number) b.0) a.0
  served_valid (prohibit flow) f r =
      let a : _ = passed (notice_due s) 3 _ r in
      let b : _ = passed (no_such_flow s flow) 5 0 a.1 in
      prohibit_valid s flow h (not-false (in_plan (flow_numbered flow s.plan).number) b.0) a.0
  served_valid (notice out) f r = without_valid s h _
  served_valid (restart clock) f r = restart_valid s clock f h

pub call_valid : (s : State) (c : Call) → FairCall c → valid s ≡ true → valid (call s c).state ≡ true
unfolding call handed leaves
call_valid s c f h = go (eqb (refusal s c) 0) refl
  where
    go : (b : Bool) → eqb (refusal s c) 0 ≡ b → Leaves (cond b (served s c) (leaves (Refused (refusal s c)) s))
    go true e = served_valid s h c f e
    go false e = h
