-- A tick touches every machine.
use mathlib.Core.Path.{◌≡◌, refl}
use mathlib.Core.Bool.{Bool, true, false, cond}
use Prim.Native.Nat.{ℕ, ◌<◌, ◌^◌}
use Rattle.octets.proofs.Cases.{by_le}
use Rattle.codec.specs.declared.FrameSet.{FrameSet}
use Rattle.machine.specs.declared.Session.{Session}
use Rattle.machine.specs.Table.{action_of}
use Rattle.machine.specs.Machine.{is_open, lasting, owed}
use Rattle.machine.specs.Management.{closed_by}
use Rattle.machine.specs.Time.{elapsed, ticked}
use Rattle.plan.specs.Plan.{flow_of_set, in_plan}
use Rattle.state.specs.State.{State, is_allowed, notice_due, valid, with_sessions, with_clock}
use Rattle.calls.specs.Calls.{ticked_to}
use Rattle.calls.proofs.TickValid.{ticked_key}
use Rattle.demands.specs.Machine.{nothing, prohibited, ticked as passed}
use Rattle.demands.specs.World.{World, all}
use Rattle.demands.specs.Shown.{resting, tag_in, machine_by, machine_on, machine_at}
use Rattle.demands.proofs.Shows.{Shows}
use Rattle.demands.proofs.SessionsShown.{open_map}

passed_resting : (e : ℕ) (a : Bool) → passed e (resting a nothing) ≡ resting a nothing
unfolding passed resting
passed_resting e true = refl
passed_resting e false = refl

passed_by : (e : ℕ) (x : Session) → is_open x ≡ true → machine_by true (ticked e x) ≡ passed e (machine_by true x)
unfolding machine_by resting passed ticked closed_by action_of owed lasting is_open tag_in
passed_by e x o = by_le x.left e (λ l less. rw (o, l)) (λ l more. rw (o, l, o))

module _ (s : State) (w : World) (clock : ℕ) (ok : valid s ≡ true) (quiet : notice_due s ≡ false) (shows : Shows s w) where
  abbrev e : ℕ
  e = elapsed clock s.clock

  tick_on : (n source : ℕ) → source < 2 ^ 48 → machine_on (ticked_to clock s) n source ≡ passed e (machine_on s n source)
  unfolding machine_on ticked_to is_allowed with_clock with_sessions
  tick_on n source small =
      open_map s ok quiet n source small (is_allowed n s) (ticked e) (passed e) (ticked_key e) (passed_resting e (is_allowed n s))
      (λ x o here may. rw may (passed_by e x o))

  tick_at : (port : ℕ) (set : FrameSet) (source : ℕ) → source < 2 ^ 48
      → passed e (machine_at s port set source) ≡ machine_at (ticked_to clock s) port set source
  unfolding machine_at ticked_to passed with_clock with_sessions
  tick_at port set source small = go (in_plan (flow_of_set port set s.plan).number)
    where
      go : (b : Bool) → passed e (cond b (machine_on s (flow_of_set port set s.plan).number source) (prohibited nothing))
          ≡ cond b (machine_on (ticked_to clock s) (flow_of_set port set s.plan).number source) (prohibited nothing)
      go true = rw (tick_on (flow_of_set port set s.plan).number source small)
      go false = refl

  pub tick_shown : Shows (ticked_to clock s) (all clock (passed (elapsed clock w.clock)) w)
  unfolding ticked_to all with_clock with_sessions
  tick_shown =
      record {
        plan_same = shows.plan_same;
        clock_same = refl;
        machines =
            λ port set source set_small small.
            rw (shows.clock_same, shows.machines port set source set_small small) (tick_at port set source small);
      }
