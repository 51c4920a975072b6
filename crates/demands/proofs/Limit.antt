-- What the machines have between them is what the sessions tell: the limit of 16, whether a notice is due, and whose is first.
use mathlib.Core.Path.{◌≡◌, refl, ◌∙◌}
use mathlib.Core.Bool.{Bool, true, false, not}
use Prim.Native.Nat.{ℕ, ◌*◌, ◌^◌, ◌≤◌}
use native.Mathlib.Omega.{arith}
use lib.Dec.{ltb}
use borrow.Author.Tests.{le-ltb, le-leb, ltb-true}
use Rattle.octets.specs.Lists.{every, count}
use Rattle.machine.specs.declared.Session.{Session}
use Rattle.machine.specs.Machine.{is_open, key, key_of}
use Rattle.plan.specs.declared.Flow.{Flow}
use Rattle.plan.specs.Plan.{in_plan}
use Rattle.state.specs.State.{State, valid, full_for as full, notice_due as due, no_session, first_owed}
use Rattle.state.proofs.Rules.{valid_parts}
use Rattle.calls.proofs.SetFlows.{found_passes}
use Rattle.demands.specs.Machine.{Owed, nothing, is_active, owed_by, is_notice, owes}
use Rattle.demands.specs.World.{World, at, counted, least, full_for, first_owing, notice_due}
use Rattle.demands.specs.Shown.{resting, machine_by}
use Rattle.demands.proofs.Shows.{Shows}
use Rattle.demands.proofs.Below.{counted_same, least_none, least_one}
use Rattle.state.proofs.OwedRow.{by_test, first_above}
use Rattle.demands.proofs.Lists.{look_first}
use Rattle.demands.proofs.Passers.{passes_at, none_passes, before_first, counted_count}
use Rattle.demands.proofs.Keys.{keys_below}
use Rattle.demands.proofs.AtKey.{at_passes}

-- ---- a machine is active, and owes a notice, as its session does

resting_active : (a : Bool) (o : Owed) → is_active (resting a o) ≡ false
unfolding resting is_active
resting_active true o = refl
resting_active false o = refl

session_active : (a : Bool) (x : Session) → is_active (machine_by a x) ≡ is_open x
unfolding machine_by is_active
session_active a x = by_test (is_open x) (λ e. rw e) (λ e. rw e (resting_active a _))

pub resting_owed : (a : Bool) (o : Owed) → owed_by (resting a o) ≡ o
unfolding resting owed_by
resting_owed true o = refl
resting_owed false o = refl

session_owes : (a : Bool) (x : Session) → owes (machine_by a x) ≡ not (is_open x)
unfolding machine_by owes owed_by is_notice
session_owes a x = by_test (is_open x) (λ e. rw e) (λ e. rw (e, resting_owed a))

resting_owes : (a : Bool) → owes (resting a nothing) ≡ false
unfolding owes is_notice
resting_owes a = rw (resting_owed a nothing)

-- is a session owed a notice?
abbrev pub is_owed : Session → Bool
is_owed x = not (is_open x)

-- ---- the first session that is owed one

module _ (s : State) (ok : valid s ≡ true) (some-due : due s ≡ true) where
  owed_some : in_plan (key_of (first_owed s)) ≡ true
  unfolding in_plan first_owed due
  owed_some =
      le-leb 1 (key_of (first_owed s))
      (first_above key_of is_owed no_session 0 s.sessions (valid_parts s ok).sessions_ascend some-due)

  -- it passes what each does
  pub owed_passes : (told : Session → Bool) → every told s.sessions ≡ true
      → (is_owed (first_owed s) ≡ true) × (told (first_owed s) ≡ true)
  unfolding first_owed no_session key_of key
  owed_passes told all = found_passes key_of no_session refl is_owed told s.sessions all owed_some

-- ---- the three

module _ (keys : ℕ) (s : State) (w : World) (big : 33 * 2 ^ 48 ≤ keys) (ok : valid s ≡ true) (shows : Shows s w) where
  pub full_same : (f : Flow) → full_for keys f w ≡ full f s
  unfolding full_for full
  full_same f =
      let active : (k : ℕ) → is_active (at k w) ≡ passes_at key_of is_open k s.sessions
      = at_passes s ok w shows is_active is_open (λ a. resting_active a nothing) session_active in
      let all : counted (λ k. is_active (at k w)) keys ≡ count is_open s.sessions
      = counted_same (λ k. is_active (at k w)) (λ k. passes_at key_of is_open k s.sessions) keys (λ k low. active k)
      ∙ counted_count key_of is_open keys 0 s.sessions (valid_parts s ok).sessions_ascend (keys_below s ok keys big) in
      rw all

  owing : (k : ℕ) → owes (at k w) ≡ passes_at key_of is_owed k s.sessions
  owing = at_passes s ok w shows owes is_owed resting_owes session_owes

  owed_below : due s ≡ true → (is_owed (first_owed s) ≡ true) × (ltb (key_of (first_owed s)) keys ≡ true)
  owed_below d = owed_passes s ok d (λ x. ltb (key_of x) keys) (keys_below s ok keys big)

  pub first_same : due s ≡ true → first_owing keys w ≡ key_of (first_owed s)
  unfolding first_owing first_owed due
  first_same d =
      let x : Session = first_owed s in
      let a : _ = (valid_parts s ok).sessions_ascend in
      let low : _ = owed_below d in
      least_one (λ k. owes (at k w)) keys (key_of x) (ltb-true (key_of x) keys low.1)
      (owing (key_of x) ∙ look_first key_of is_owed false is_owed no_session 0 s.sessions a d ∙ low.0)
      (λ k less. owing k ∙ before_first key_of is_owed no_session 0 k s.sessions a less)

  pub due_same : notice_due keys w ≡ due s
  unfolding notice_due first_owing due
  due_same =
      by_test (due s)
      (λ d. rw (d, first_same d) (owed_below d).1)
      (λ d.
      let none : least (λ k. owes (at k w)) keys ≡ keys
      = least_none (λ k. owes (at k w)) keys (λ k low. owing k ∙ none_passes key_of is_owed k s.sessions d) in
      rw (d, none) (le-ltb keys keys (omega arith)))
