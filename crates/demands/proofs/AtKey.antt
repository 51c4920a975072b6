-- The machine of a world that a flow and a source as one number tell: as the sessions of the state that shows it say.
use mathlib.Core.Path.{◌≡◌, ◌∙◌}
use mathlib.Core.Bool.{Bool, true, false}
use Prim.Native.Nat.{ℕ, ◌/◌, ◌%◌, ◌^◌, ◌<◌}
use native.Mathlib.Omega.{arith}
use Rattle.codec.specs.FrameSet.{set_of}
use Rattle.machine.specs.declared.Session.{Session}
use Rattle.machine.specs.Machine.{key_of}
use Rattle.plan.specs.declared.Flow.{Flow}
use Rattle.plan.specs.Plan.{Plan, no_flow, flow_numbered, in_plan}
use Rattle.state.specs.State.{State, is_allowed, valid}
use Rattle.plan.proofs.Found.{flow_found}
use Rattle.state.proofs.Rules.{Valid, valid_parts}
use Rattle.demands.specs.Machine.{Machine, nothing, prohibited}
use Rattle.demands.specs.World.{World, at_flow, flow_of, source_of, at}
use Rattle.demands.specs.Shown.{resting, machine_by, machine_in, machine_on, machine_at}
use Rattle.demands.proofs.Shows.{SmallSet, Shows}
use Rattle.state.proofs.OwedRow.{by_test}
use Rattle.demands.proofs.Lists.{look_absent, look_told}
use Rattle.demands.proofs.Passers.{passes_at}
use Rattle.demands.proofs.Flows.{flow_set, set_small, numbered_again, no_number, no_set}
use Rattle.demands.proofs.Keys.{key_whole, no_session_lem}
use Rattle.demands.proofs.SessionsShown.{machine_looked}

module _ (s : State) (ok : valid s ≡ true) (w : World) (shows : Shows s w) where
  v : Valid s
  v = valid_parts s ok

  -- that of a flow of the plan
  pub at_flow_lem : (n source : ℕ) → in_plan (flow_numbered n s.plan).number ≡ true → source < 2 ^ 48
      → at_flow (flow_numbered n s.plan) source w ≡ machine_on s n source
  unfolding at_flow machine_at
  at_flow_lem n source there small =
      let plan : Plan = s.plan in
      let f : Flow = flow_numbered n plan in
      shows.machines f.port (flow_set f) source (set_small plan v.plan_kept n there) small
      ∙ rw (numbered_again plan v.plan_kept n there, there, flow_found plan n there)

  pub at_there : (k : ℕ) → in_plan (flow_numbered (k / 2 ^ 48) s.plan).number ≡ true
      → at k w ≡ machine_in (is_allowed (k / 2 ^ 48) s) k s.sessions
  unfolding at at_flow flow_of source_of machine_on
  at_there k there =
      rw shows.plan_same (at_flow_lem (k / 2 ^ 48) (k % 2 ^ 48) there (omega arith) ∙ rw (key_whole k))

  pub at_gone : (k : ℕ) → in_plan (flow_numbered (k / 2 ^ 48) s.plan).number ≡ false → at k w ≡ prohibited nothing
  unfolding at at_flow flow_of source_of machine_at set_of no_flow in_plan
  at_gone k gone =
      let plan : Plan = s.plan in
      let small : SmallSet (flow_set no_flow) = record { kind_small = omega arith; vid_small = omega arith } in
      let shown : _ = shows.machines no_flow.port (flow_set no_flow) (k % 2 ^ 48) small (omega arith) in
      rw (shows.plan_same, no_number plan v.plan_kept (k / 2 ^ 48) gone)
      (shown ∙ rw (no_set plan v.plan_kept))

  -- what a question finds that a machine answers as its session does
  pub at_passes : (ask : Machine → Bool) (test : Session → Bool) → ((a : Bool) → ask (resting a nothing) ≡ false)
      → ((a : Bool) (x : Session) → ask (machine_by a x) ≡ test x)
      → (k : ℕ) → ask (at k w) ≡ passes_at key_of test k s.sessions
  unfolding resting
  at_passes ask test rests told k =
      let a : Bool = is_allowed (k / 2 ^ 48) s in
      by_test (in_plan (flow_numbered (k / 2 ^ 48) s.plan).number)
      (λ there.
      rw (at_there k there, machine_looked a k s.sessions)
      (look_told key_of (machine_by a) (resting a nothing) ask test false (rests a) (told a) k s.sessions))
      (λ gone. rw (at_gone k gone, look_absent key_of test false k s.sessions (no_session_lem s ok k gone)) (rests false))
