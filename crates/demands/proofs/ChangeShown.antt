-- What a request changes: the session of the frame's own key, and so the machine of its own port, frame set and source.
use mathlib.Core.Path.{◌≡◌}
use mathlib.Core.Bool.{Bool, true, false, cond}
use mathlib.Core.List.{List}
use Prim.Native.Nat.{ℕ}
use lib.Dec.{eqb}
use Rattle.octets.specs.Lists.{put, without}
use Rattle.octets.proofs.Cases.{by_eq}
use Rattle.codec.specs.declared.FrameSet.{FrameSet}
use Rattle.codec.specs.FrameSet.{source}
use Rattle.machine.specs.declared.Session.{Session}
use Rattle.machine.specs.declared.Change.{Change}
use Rattle.machine.specs.declared.Change.TheVariants.{Same, Opened, Restarted, Closed}
use Rattle.machine.specs.Machine.{key_of, is_open, after}
use Rattle.state.specs.State.{State, with_sessions, is_allowed, notice_due, valid}
use Rattle.calls.specs.Frame.{Arrived, own_key, own, changed}
use Rattle.octets.proofs.ListLaws.{none_fails}
use Rattle.calls_requests.proofs.Changes.{Fitting, Puts}
use Rattle.demands.specs.Machine.{Machine, nothing}
use Rattle.demands.specs.World.{World, become}
use Rattle.demands.specs.Shown.{resting, machine_by, machine_in}
use Rattle.demands.proofs.Shows.{Shows}
use Rattle.demands.proofs.SessionsShown.{machine_put, machine_without}
use Rattle.demands.proofs.MachineShown.{shown, open_shown}
use Rattle.demands.proofs.Become.{become_shown}
use Rattle.demands.proofs.OwnShown.{OfFlow}

module _ (s : State) (w : World) (k : Shows s w) (h : valid s ≡ true) (set : FrameSet) (a : Arrived)
    (f : OfFlow s.plan set a) (may : is_allowed a.flow.number s ≡ true) where
  -- sessions `xs` that differ at the frame's key alone
  becomes : (m : Bool → Machine) (xs : List Session)
      → ((b : Bool) (j : ℕ) → machine_in b j xs ≡ cond (eqb (own_key a) j) (m b) (machine_in b j s.sessions))
      → Shows (with_sessions xs s) (become a.port.number set (source a.frame) (m true) w)
  unfolding own_key
  becomes m xs told =
      rw may at
      (become_shown s w h k a.port.number set (source a.frame) a.flow.number f.small f.source_fits
      (rw (← f.flow_same)) f.there m xs told)

  put_shown : (y : Session) → Fitting s a y
      → Shows (with_sessions (put key_of y s.sessions) s)
      (become a.port.number set (source a.frame) (machine_by true y) w)
  put_shown y p =
      becomes (λ b. machine_by b y) (put key_of y s.sessions) (λ b j. rw (← p.keyed) (machine_put b j y s.sessions))

  -- what a change leaves, it shows
  pub change_shown : notice_due s ≡ false → (c : Change) → Puts s a c
      → Shows (changed (own_key a) c s)
      (become a.port.number set (source a.frame) (shown true (after c (own s a))) w)
  unfolding changed after own with_sessions machine_by notice_due
  change_shown settled Same p =
      rw (open_shown true (own_key a) s.sessions (none_fails is_open s.sessions settled)) at
      (becomes (λ b. machine_in b (own_key a) s.sessions) s.sessions
      (λ b j. by_eq (own_key a) j (λ e same. rw (e, same)) (λ e other. rw e)))
  change_shown settled (Opened y) p = rw p.running at (put_shown y p)
  change_shown settled (Restarted y) p = rw p.running at (put_shown y p)
  change_shown settled Closed p =
      becomes (λ b. resting b nothing) (without key_of (own_key a) s.sessions)
      (λ b j. machine_without b j (own_key a) s.sessions)
