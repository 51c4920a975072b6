-- Any call: the unit and the world that it shows refuse it alike and serve it alike.
use mathlib.Core.Path.{◌≡◌, refl}
use mathlib.Core.Bool.{Bool, true, false, cond}
use Prim.Native.Nat.{ℕ, ◌*◌, ◌≤◌, ◌^◌}
use lib.Dec.{eqb}
use borrow.Author.Tests.{not-false}
use Rattle.plan.specs.Plan.{flow_numbered, in_plan}
use Rattle.plan.specs.PlanText.{Reading, fault, planned, plan_in}
use Rattle.state.specs.State.{State, notice_due, valid, made}
use Rattle.calls.specs.declared.Answer.TheVariants.{Refused, Done, Faulty}
use Rattle.calls.specs.Answer.{Sent, leaves}
use Rattle.calls.specs.Calls.{Call, make, frame, tick, allow, prohibit, notice, restart}
use Rattle.calls.specs.Calls.{no_such_place, bad_length, short_output, no_such_flow, refusal, make_served, served}
use Rattle.calls.proofs.CallValid.{FairCall, passed}
use Rattle.demands.specs.World.{World, fresh, notice_due as noticeShown}
use Rattle.demands.specs.Frame.{leaves as tells}
use Rattle.demands.specs.Calls.{no_such_place as noPlaceShown, no_such_flow as noFlowShown, refusal as refusalShown}
use Rattle.demands.specs.Calls.{make_served as makeShown, served as servedShown, call as callShown}
use Rattle.demands.proofs.Shows.{Shows, Alike, leaves_alike}
use Rattle.demands.proofs.Limit.{full_same, due_same}
use Rattle.demands.proofs.Notices.{notice_alike}
use Rattle.demands.proofs.FrameAlike.{frame_alike}
use Rattle.demands.proofs.TickShown.{tick_shown}
use Rattle.demands.proofs.RestartShown.{restart_shown, fresh_shown}
use Rattle.demands.proofs.ManageShown.{allow_shown, prohibit_shown}

-- a call on a state, before its output is lent
unfoldable pub sent : State → Call → Sent
sent s c = cond (eqb (refusal s c) 0) (served s c) (leaves (Refused (refusal s c)) s)

module _ (keys : ℕ) (big : 33 * 2 ^ 48 ≤ keys) (s : State) (w : World) (ok : valid s ≡ true) (shows : Shows s w) where
  due : noticeShown keys w ≡ notice_due s
  due = due_same keys s w big ok shows

  refusal_same : (c : Call) → refusalShown keys w c ≡ refusal s c
  unfolding refusal refusalShown no_such_place noPlaceShown no_such_flow noFlowShown
  refusal_same (make text clock) = refl
  refusal_same (frame port side octets out) = rw (due, shows.plan_same)
  refusal_same (tick clock) = rw (due, shows.clock_same)
  refusal_same (allow flow) = rw (due, shows.plan_same)
  refusal_same (prohibit flow) = rw (due, shows.plan_same)
  refusal_same (notice out) = rw due
  refusal_same (restart clock) = refl

  make_alike : (clock : ℕ) (r : Reading) → Alike (make_served s clock r) (makeShown w clock r)
  unfolding make_served makeShown
  make_alike clock (fault line reason) = leaves_alike s w shows (Faulty line reason)
  make_alike clock (planned plan) = leaves_alike (made plan clock) (fresh plan clock) (fresh_shown plan clock) Done

  served_alike : (c : Call) → FairCall c → eqb (refusal s c) 0 ≡ true → Alike (served s c) (servedShown keys w c)
  unfolding served servedShown refusal no_such_flow
  served_alike (make text clock) f r = make_alike clock (plan_in text)
  served_alike (frame port side octets out) f r =
      let a : _ = passed (no_such_place s port side) 0 _ r in
      let b : _ = passed (bad_length octets) 1 _ a.1 in
      let c : _ = passed (short_output out) 2 _ b.1 in
      let d : _ = passed (notice_due s) 3 0 c.1 in
      frame_alike keys s w ok shows d.0 (full_same keys s w big ok shows) port side octets f a.0 b.0
  served_alike (tick clock) f r =
      leaves_alike _ _ (tick_shown s w clock ok (passed (notice_due s) 3 _ r).0 shows) Done
  served_alike (allow flow) f r =
      let a : _ = passed (notice_due s) 3 _ r in
      let b : _ = passed (no_such_flow s flow) 5 0 a.1 in
      let there : _ = not-false (in_plan (flow_numbered flow s.plan).number) b.0 in
      leaves_alike _ _ (allow_shown s w flow ok shows there a.0) Done
  served_alike (prohibit flow) f r =
      let a : _ = passed (notice_due s) 3 _ r in
      let b : _ = passed (no_such_flow s flow) 5 0 a.1 in
      let there : _ = not-false (in_plan (flow_numbered flow s.plan).number) b.0 in
      leaves_alike _ _ (prohibit_shown s w flow ok shows there a.0) Done
  served_alike (notice out) f r = notice_alike keys s w big ok shows (due_there (short_output out) (notice_due s) r)
    where
      due_there : (a b : Bool) → eqb (cond a 3 (cond b 0 7)) 0 ≡ true → b ≡ true
      due_there true true h = refl
      due_there true false h = h
      due_there false true h = refl
      due_there false false h = h
  served_alike (restart clock) f r = leaves_alike _ _ (restart_shown s w clock ok shows) Done

  pub call_alike : (c : Call) → FairCall c → Alike (sent s c) (callShown keys w c)
  unfolding sent callShown
  call_alike c f = rw (refusal_same c) (go (eqb (refusal s c) 0) refl)
    where
      go : (b : Bool) → eqb (refusal s c) 0 ≡ b
          → Alike (cond b (served s c) (leaves (Refused (refusal s c)) s))
          (cond b (servedShown keys w c) (tells (Refused (refusal s c)) w))
      go true e = served_alike c f e
      go false e = leaves_alike s w shows (Refused (refusal s c))
