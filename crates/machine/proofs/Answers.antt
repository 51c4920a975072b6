-- MACHINE-3 to MACHINE-11: each request, at an inactive machine, at one that its own MP activated, and at another MP's.
use Rattle.std.proofs.Common.{◌≡◌, ℕ, ◌*◌, Bool, true, false, cond, eqb, [], ◌∷◌, refl, eq-eqb}
use mathlib.Core.Bool.{◌||◌, or-true}
use Rattle.std.specs.Prelude.{◌==◌}
use Rattle.octets.specs.Lists.{some}
use Rattle.machine.specs.declared.Session.{Session}
use Rattle.machine.specs.declared.Machine.{Machine}
use Rattle.machine.specs.declared.Machine.TheVariants.{Inactive, Active}
use Rattle.machine.specs.declared.Change.TheVariants.{Opened, Restarted, Closed}
use Rattle.machine.specs.Table.{Event, admit, report, already, restart, close, inactive, active, rqst_activate, rqst_deactivate, rqst_state, action_of}
use Rattle.machine.specs.Machine.{Decision, activity, lasting, good_seconds, answered, admitted, same_mp}
use Rattle.machine.specs.Machine.{refreshed, restarted, closed, decided, after}

module _ (full seconds : ℕ) (new : Session) where
  pub activate_inactive : decided (action_of inactive rqst_activate) full seconds new Inactive
      ≡ cond (good_seconds seconds)
      (cond (eqb full 0) (record { code = 0; change = Opened (lasting (seconds * 1000) new) }) (answered full))
      (answered 6)
  unfolding decided action_of admitted
  activate_inactive = refl

  pub deactivate_inactive : decided (action_of inactive rqst_deactivate) full seconds new Inactive ≡ answered 5
  unfolding decided action_of
  deactivate_inactive = refl

  pub state_inactive : decided (action_of inactive rqst_state) full seconds new Inactive ≡ answered 0
  unfolding decided action_of
  state_inactive = refl

  module _ (s : Session) where
    pub state_active : decided (action_of active rqst_state) full seconds new (Active s) ≡ answered 0
    unfolding decided action_of
    state_active = refl

    module _ (same : same_mp new s ≡ true) where
      pub activate_same : decided (action_of active rqst_activate) full seconds new (Active s)
          ≡ cond (good_seconds seconds) (record { code = 4; change = Restarted (lasting (seconds * 1000) s) }) (answered 6)
      unfolding decided action_of restarted refreshed
      activate_same = rw same

      pub deactivate_same : decided (action_of active rqst_deactivate) full seconds new (Active s)
          ≡ record { code = 0; change = Closed }
      unfolding decided action_of closed
      deactivate_same = rw same

      -- a closed one is gone
      pub closed_gone : after (decided (action_of active rqst_deactivate) full seconds new (Active s)).change (Active s) ≡ Inactive
      unfolding after
      closed_gone = rw deactivate_same

    module _ (other : same_mp new s ≡ false) where
      pub activate_other : decided (action_of active rqst_activate) full seconds new (Active s) ≡ answered 7
      unfolding decided action_of restarted refreshed
      activate_other = rw other

      pub deactivate_other : decided (action_of active rqst_deactivate) full seconds new (Active s) ≡ answered 7
      unfolding decided action_of closed
      deactivate_other = rw other

  -- ---- a reply has the code of a full unit, or one of these

  abbrev pub sent : ℕ → Bool
  sent code = some (eqb code) (0 ∷ 4 ∷ 5 ∷ 6 ∷ 7 ∷ full ∷ [])

  abbrev pub code_of : Machine → Event → ℕ
  code_of m e = (decided (action_of (activity m) e) full seconds new m).code

  full_sent : sent full ≡ true
  unfolding some
  full_sent = simp (eq-eqb full full refl, or-true)

  admitted_sent : sent (admitted full seconds new).code ≡ true
  unfolding admitted answered some
  admitted_sent = go (good_seconds seconds) (eqb full 0)
    where
      go : (good free : Bool)
          → sent (cond good (cond free (record { code = 0; change = Opened (lasting (seconds * 1000) new) }) (answered full)) (answered 6)).code
          ≡ true
      go true true = refl
      go true false = full_sent
      go false free = refl

  restarted_sent : (m : Machine) → sent (restarted seconds new m).code ≡ true
  unfolding restarted refreshed answered some
  restarted_sent Inactive = refl
  restarted_sent (Active s) = go (same_mp new s) (good_seconds seconds)
    where
      go : (same good : Bool)
          → sent (cond same (cond good (record { code = 4; change = Restarted (lasting (seconds * 1000) s) }) (answered 6)) (answered 7)).code
          ≡ true
      go true true = refl
      go true false = refl
      go false good = refl

  closed_sent : (m : Machine) → sent (closed new m).code ≡ true
  unfolding closed answered some
  closed_sent Inactive = refl
  closed_sent (Active s) = go (same_mp new s)
    where
      go : (same : Bool) → sent (cond same (record { code = 0; change = Closed }) (answered 7)).code ≡ true
      go true = refl
      go false = refl

  pub activate_sent : (m : Machine) → sent (code_of m rqst_activate) ≡ true
  unfolding decided action_of activity
  activate_sent Inactive = admitted_sent
  activate_sent (Active s) = restarted_sent (Active s)

  pub deactivate_sent : (m : Machine) → sent (code_of m rqst_deactivate) ≡ true
  unfolding decided action_of activity answered some
  deactivate_sent Inactive = refl
  deactivate_sent (Active s) = closed_sent (Active s)

  pub state_sent : (m : Machine) → sent (code_of m rqst_state) ≡ true
  unfolding decided action_of activity answered some
  state_sent Inactive = refl
  state_sent (Active s) = refl

  -- any action has one of these codes too, or 255, if there is none of its number
  pub decided_sent : (action : ℕ) (m : Machine)
      → (eqb (decided action full seconds new m).code 255 || sent (decided action full seconds new m).code) ≡ true
  unfolding decided answered some
  decided_sent action m =
      go (action == admit) (action == restart) (action == already) (action == close) (action == report)
    where
      Told : Decision → Type 0
      Told d = (eqb d.code 255 || sent d.code) ≡ true

      told : (d : Decision) → sent d.code ≡ true → Told d
      told d h = rw (h, or-true)

      go : (a b c d e : Bool) → Told
          (cond a (admitted full seconds new)
          (cond b (restarted seconds new m) (cond c (answered 5) (cond d (closed new m) (cond e (answered 0) (answered 255))))))
      go true b c d e = told (admitted full seconds new) admitted_sent
      go false true c d e = told (restarted seconds new m) (restarted_sent m)
      go false false true d e = refl
      go false false false true e = told (closed new m) (closed_sent m)
      go false false false false true = refl
      go false false false false false = refl
