-- The machine of a frame that came, in the world and in the unit.
use mathlib.Core.Path.{◌≡◌}
use mathlib.Core.Bool.{true, false}
use Prim.Native.Nat.{◌<◌, ◌^◌}
use lib.ListN.{drop}
use Rattle.octets.specs.Octets.{number, octets}
use Rattle.codec.specs.declared.FrameSet.{FrameSet}
use Rattle.codec.specs.FrameSet.{source}
use Rattle.codec_replies.specs.Reply.{tag_of}
use Rattle.machine.specs.declared.Session.{Session}
use Rattle.machine.specs.declared.Machine.TheVariants.{Active}
use Rattle.machine.specs.Machine.{is_open}
use Rattle.plan.specs.Plan.{Plan, flow_of_set, in_plan}
use Rattle.state.specs.State.{State, is_allowed, good_session, notice_due, valid}
use Rattle.octets.proofs.ListLaws.{none_fails}
use Rattle.state.proofs.Rules.{Valid, valid_parts}
use Rattle.state.proofs.TableLaws.{each}
use Rattle.calls.specs.Frame.{Arrived, own_key, own}
use Rattle.calls_requests.proofs.Own.{Had, machine_had}
use Rattle.demands.specs.World.{World}
use Rattle.demands.specs.Frame.{own as ownIn}
use Rattle.demands.specs.Shown.{machine_in, machine_on, machine_at}
use Rattle.demands.proofs.Shows.{SmallSet, Shows}
use Rattle.demands.proofs.Keys.{open_allowed}
use Rattle.demands.proofs.MachineShown.{shown, open_shown}

-- a frame of a set of the plan
pub record OfFlow (plan : Plan) (set : FrameSet) (a : Arrived) : Type 0 where
  pub flow_same : a.flow ≡ flow_of_set a.port.number set plan
  pub there : in_plan a.flow.number ≡ true
  pub small : SmallSet set
  pub source_fits : source a.frame < 2 ^ 48
  pub tag_same : octets a.taglen (number a.taglen (drop 12 a.frame)) ≡ tag_of a.taglen a.frame

module _ (s : State) (set : FrameSet) (a : Arrived) (f : OfFlow s.plan set a) where
  pub own_at : (w : World) → Shows s w
      → ownIn w set a ≡ machine_in (is_allowed a.flow.number s) (own_key a) s.sessions
  unfolding ownIn own_key machine_at machine_on
  own_at w k =
      rw (← f.flow_same, f.there) at (k.machines a.port.number set (source a.frame) f.small f.source_fits)

  pub own_shown : notice_due s ≡ false → (w : World) → Shows s w → ownIn w set a ≡ shown (is_allowed a.flow.number s) (own s a)
  unfolding own notice_due
  own_shown settled w k =
      rw (own_at w k)
      (open_shown (is_allowed a.flow.number s) (own_key a) s.sessions (none_fails is_open s.sessions settled))

  -- an active machine's flow is allowed
  pub active_may : valid s ≡ true → (x : Session) → own s a ≡ Active x → is_allowed a.flow.number s ≡ true
  unfolding own own_key
  active_may h x e =
      let v : Valid s = valid_parts s h in
      let Good : Session → Type 0 = λ y. good_session s y ≡ true in
      let had : Had (own_key a) Good s.sessions x
      = machine_had (own_key a) Good s.sessions x (each Good (good_session s) (λ y g. g) s.sessions v.sessions_good) e in
      open_allowed s h x had.each_has a.flow.number (source a.frame) f.source_fits had.keyed had.running
