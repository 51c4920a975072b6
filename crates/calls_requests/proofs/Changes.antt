-- What a request's decision puts into the sessions has room there, and the machine after it is the one that the table has.
use mathlib.Core.Path.{◌≡◌, refl}
use mathlib.Core.Bool.{Bool, true, false, cond}
use Prim.Native.Nat.{ℕ, ◌*◌, ◌^◌, ◌<◌, ◌≤◌}
use native.Mathlib.Omega.{arith}
use lib.Dec.{eqb, ltb}
use lib.ListN.{length}
use borrow.Author.Tests.{eqb-true, ltb-true}
use Rattle.octets.specs.Lists.{count, put}
use Rattle.octets.proofs.PutLaws.{put_length, put_again}
use Rattle.codec.specs.FrameSet.{source}
use Rattle.machine.specs.declared.Session.{Session}
use Rattle.machine.specs.declared.Machine.{Machine}
use Rattle.machine.specs.declared.Machine.TheVariants.{Inactive, Active}
use Rattle.machine.specs.declared.Change.{Change}
use Rattle.machine.specs.declared.Change.TheVariants.{Same, Opened, Restarted, Closed}
use Rattle.machine.specs.Table.{Event, admit, report, restart, already, close}
use Rattle.machine.specs.Machine.{key_of, is_open, lasting, good_seconds, answered, admitted, same_mp, refreshed, restarted}
use Rattle.machine.specs.Machine.{closed, decided, after}
use Rattle.state.specs.State.{State, with_sessions, valid, full_for, notice_due}
use Rattle.state.proofs.RowLaws.{SessionFits}
use Rattle.state_store.proofs.Images.{Laid, laid}
use Rattle.calls.specs.Frame.{Arrived, own_key, own, own_action, new_session, changed, decides}
use Rattle.calls_requests.proofs.Own.{active_same, never_active, machine_put, machine_without, Had, machine_had, all_open}

module _ (s : State) (x : Arrived) where
  -- a session that can be put in for the frame's machine
  pub record Fitting (y : Session) : Type 0 where
    pub keyed : key_of y ≡ own_key x
    pub running : is_open y ≡ true
    pub source_fits : y.source < 2 ^ 48
    pub room : length (put key_of y s.sessions) ≤ 16

  -- a change that puts in such a one, or none
  abbrev pub Puts : Change → Type 0
  Puts Same = Unit {0}
  Puts (Opened y) = Fitting y
  Puts (Restarted y) = Fitting y
  Puts Closed = Unit {0}

  pub own_changed : (change : Change) → Puts change → own (changed (own_key x) change s) x ≡ after change (own s x)
  unfolding own changed after with_sessions
  own_changed Same p = refl
  own_changed (Opened y) p = machine_put (own_key x) y s.sessions p.keyed p.running
  own_changed (Restarted y) p = machine_put (own_key x) y s.sessions p.keyed p.running
  own_changed Closed p = machine_without (own_key x) s.sessions

  pub put_fits : (change : Change) → Puts change → (y : Session) → after change Inactive ≡ Active y → Fitting y
  unfolding after
  put_fits Same p y e = never_active y e
  put_fits (Opened z) p y e = rw (active_same z y e) at p
  put_fits (Restarted z) p y e = rw (active_same z y e) at p
  put_fits Closed p y e = never_active y e

  module _ (v : valid s ≡ true) (quiet : notice_due s ≡ false) (fits : source x.frame < 2 ^ 48) where
    few_open : full_for x.flow s ≡ 0 → length s.sessions < 16
    unfolding full_for notice_due
    few_open r = go (ltb n 16) refl r
      where
        n : ℕ
        n = count is_open s.sessions

        go : (b : Bool) → ltb n 16 ≡ b → ◌≡◌ {A = ℕ} (cond b 0 2) 0 → length s.sessions < 16
        go true e z = omega (arith, ltb-true n 16 e, all_open s.sessions quiet)
        go false e z = absurd (omega arith)

    opened_fits : (ms : ℕ) → full_for x.flow s ≡ 0 → Fitting (lasting ms (new_session x))
    unfolding lasting new_session key_of own_key is_open
    opened_fits ms r =
        record {
          keyed = refl;
          running = refl;
          source_fits = fits;
          room = omega (arith, few_open r, put_length key_of (lasting ms (new_session x)) s.sessions);
        }

    restarted_fits : (ms : ℕ) (y : Session) → own s x ≡ Active y → Fitting (lasting ms y)
    unfolding lasting key_of is_open own
    restarted_fits ms y e =
        let l : Laid s = laid s v in
        let h : Had (own_key x) SessionFits s.sessions y
        = machine_had (own_key x) SessionFits s.sessions y l.tabled.fit e in
        let again : length (put key_of (lasting ms y) s.sessions) ≡ length s.sessions
        = put_again key_of 0 (lasting ms y) s.sessions l.tabled.order (rw h.keyed h.there) in
        record {
          keyed = h.keyed;
          running = h.running;
          source_fits = h.each_has.source_fits;
          room = omega (arith, again, l.tabled.few);
        }

    admitted_puts : (seconds : ℕ) → Puts (admitted (full_for x.flow s) seconds (new_session x)).change
    unfolding admitted answered
    admitted_puts seconds = go (good_seconds seconds) (eqb full 0) refl
      where
        full : ℕ
        full = full_for x.flow s

        go : (good free : Bool) → eqb full 0 ≡ free
            → Puts (cond good
            (cond free (record { code = 0; change = Opened (lasting (seconds * 1000) (new_session x)) }) (answered full))
            (answered 6)).change
        go true true e = opened_fits (seconds * 1000) (eqb-true full 0 e)
        go true false e = tt
        go false free e = tt

    restarted_puts : (seconds : ℕ) (new : Session) → Puts (restarted seconds new (own s x)).change
    unfolding restarted refreshed answered
    restarted_puts seconds new = go (own s x) refl
      where
        inner : (y : Session) → own s x ≡ Active y → (same good : Bool)
            → Puts (cond same
            (cond good (record { code = 4; change = Restarted (lasting (seconds * 1000) y) }) (answered 6))
            (answered 7)).change
        inner y e true true = restarted_fits (seconds * 1000) y e
        inner y e true false = tt
        inner y e false good = tt

        go : (m : Machine) → own s x ≡ m → Puts (restarted seconds new m).change
        go Inactive e = tt
        go (Active y) e = inner y e (same_mp new y) (good_seconds seconds)

    closed_puts : (new : Session) (m : Machine) → Puts (closed new m).change
    unfolding closed answered
    closed_puts new Inactive = tt
    closed_puts new (Active y) = go (same_mp new y)
      where
        go : (same : Bool) → Puts (cond same (record { code = 0; change = Closed }) (answered 7)).change
        go true = tt
        go false = tt

    pub decided_puts : (e : Event) (seconds : ℕ) → Puts (decides s x e seconds).change
    unfolding decides decided answered
    decided_puts e seconds =
        go (eqb action admit) (eqb action restart) (eqb action already) (eqb action close) (eqb action report)
      where
        action : ℕ
        action = own_action s x e

        new : Session
        new = new_session x

        go : (a b c d r : Bool)
            → Puts (cond a (admitted (full_for x.flow s) seconds new)
            (cond b (restarted seconds new (own s x))
            (cond c (answered 5) (cond d (closed new (own s x)) (cond r (answered 0) (answered 255)))))).change
        go true b c d r = admitted_puts seconds
        go false true c d r = restarted_puts seconds new
        go false false true d r = tt
        go false false false true r = closed_puts new (own s x)
        go false false false false true = tt
        go false false false false false = tt
