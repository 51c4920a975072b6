-- The machine that a list of sessions tells of a key: looked up in it, once a session is put in or taken out, once each changes.
use mathlib.Core.Path.{◌≡◌, refl, sym}
use mathlib.Core.Bool.{Bool, true, false, cond, ◌&&◌}
use mathlib.Core.List.{List, [], ◌∷◌, map}
use Prim.Native.Nat.{ℕ, ◌<◌, ◌^◌}
use lib.Dec.{eqb}
use Rattle.octets.specs.Lists.{every, put, without}
use Rattle.octets.proofs.Same.{both_true}
use Rattle.octets.proofs.Cases.{by_eq}
use Rattle.machine.specs.declared.Session.{Session}
use Rattle.machine.specs.Machine.{is_open, key, key_of}
use Rattle.state.specs.State.{State, is_allowed, good_session, notice_due, valid}
use Rattle.octets.proofs.ListLaws.{none_fails, every_both}
use Rattle.state.proofs.Rules.{valid_parts}
use Rattle.demands.specs.Machine.{Machine, nothing}
use Rattle.demands.specs.Shown.{resting, machine_by, machine_in}
use Rattle.demands.proofs.Lists.{look, look_put, look_without}
use Rattle.demands.proofs.Keys.{flow_of_key, open_allowed}

module _ (a : Bool) (k : ℕ) where
  pub machine_looked : (xs : List Session) → machine_in a k xs ≡ look key_of (machine_by a) (resting a nothing) k xs
  unfolding machine_in look
  machine_looked [] = refl
  machine_looked (x ∷ xs) = rw (machine_looked xs)

  pub machine_put : (x : Session) (xs : List Session)
      → machine_in a k (put key_of x xs) ≡ cond (eqb (key_of x) k) (machine_by a x) (machine_in a k xs)
  machine_put x xs =
      rw (machine_looked (put key_of x xs), machine_looked xs) (look_put key_of (machine_by a) (resting a nothing) k x xs)

  pub machine_without : (j : ℕ) (xs : List Session)
      → machine_in a k (without key_of j xs) ≡ cond (eqb j k) (resting a nothing) (machine_in a k xs)
  machine_without j xs =
      rw (machine_looked (without key_of j xs), machine_looked xs) (look_without key_of (machine_by a) (resting a nothing) k j xs)

-- sessions changed one by one: the machine of the key changes with its session
module _ (from to : Bool) (k : ℕ) (f : Session → Session) (g : Machine → Machine) (test : Session → Bool)
    (keys : (x : Session) → key_of (f x) ≡ key_of x) (none : g (resting from nothing) ≡ resting to nothing)
    (each : (x : Session) → test x ≡ true → key_of x ≡ k → machine_by to (f x) ≡ g (machine_by from x)) where
  machine_map : (xs : List Session) → every test xs ≡ true → machine_in to k (map f xs) ≡ g (machine_in from k xs)
  unfolding machine_in every
  machine_map [] h = sym none
  machine_map (x ∷ xs) h =
      let t : _ = both_true (test x) (every test xs) h in
      by_eq (key_of x) k
      (λ e same. rw (keys x, e) (each x t.0 same))
      (λ e other. rw (keys x, e) (machine_map xs t.1))

-- so those of a valid state that owes no notice: the session of a key is open, and so its flow is allowed
module _ (s : State) (ok : valid s ≡ true) (quiet : notice_due s ≡ false) (n source : ℕ) (small : source < 2 ^ 48) where
  pub open_map : (to : Bool) (f : Session → Session) (g : Machine → Machine) → ((x : Session) → key_of (f x) ≡ key_of x)
      → g (resting (is_allowed n s) nothing) ≡ resting to nothing
      → ((x : Session) → is_open x ≡ true → x.flow ≡ n → is_allowed n s ≡ true
      → machine_by to (f x) ≡ g (machine_by (is_allowed n s) x))
      → machine_in to (key n source) (map f s.sessions) ≡ g (machine_in (is_allowed n s) (key n source) s.sessions)
  unfolding notice_due
  open_map to f g keys none each =
      let test : Session → Bool = λ x. is_open x && good_session s x in
      machine_map (is_allowed n s) to (key n source) f g test keys none
      (λ x h same.
      let t : _ = both_true (is_open x) (good_session s x) h in
      each x t.0 (flow_of_key s ok x t.1 n source small same) (open_allowed s ok x t.1 n source small same t.0))
      s.sessions
      (every_both is_open (good_session s) test (λ x o good. rw (o, good)) s.sessions (none_fails is_open s.sessions quiet)
      (valid_parts s ok).sessions_good)
