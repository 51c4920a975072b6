-- MACHINE-3 to MACHINE-11: the world's machine takes the step that the unit's decides.
use mathlib.Core.Path.{◌≡◌, refl}
use mathlib.Core.Bool.{Bool, true, false, cond, ◌&&◌}
use Prim.Native.Nat.{ℕ, ◌*◌}
use lib.Dec.{eqb}
use Rattle.octets.specs.Lists.{within}
use Rattle.machine.specs.declared.Session.{Session}
use Rattle.machine.specs.declared.Machine.{Machine}
use Rattle.machine.specs.declared.Machine.TheVariants.{Inactive, Active}
use Rattle.machine.specs.declared.Change.TheVariants.{Opened, Restarted, Closed}
use Rattle.machine.specs.Table.{Event, rqst_activate, rqst_deactivate, rqst_state, action_of}
use Rattle.machine.specs.Machine.{Decision, activity, lasting, good_seconds, answered, admitted, same_mp, refreshed, restarted, closed}
use Rattle.machine.specs.Machine.{decided, after}
use Rattle.demands.specs.Machine.{Step, nothing, inactive, active, gets, activate, deactivate}
use Rattle.demands.specs.Shown.{resting, tag_in}
use Rattle.demands.proofs.MachineShown.{shown}

-- what a decision is to the world's machine
abbrev pub step_by : Decision → Machine → Step
step_by d m = gets d.code (shown true (after d.change m))

module _ (full seconds : ℕ) (new : Session) where
  abbrev pub decision : Machine → Event → Decision
  decision m e = decided (action_of (activity m) e) full seconds new m

  pub activate_same : (m : Machine)
      → activate full seconds new.level new.side (tag_in new) (shown true m) ≡ step_by (decision m rqst_activate) m
  unfolding activate decided action_of activity admitted restarted refreshed good_seconds same_mp answered after lasting tag_in resting
  activate_same Inactive = go (within 1 86400 seconds) (eqb full 0)
    where
      go : (good free : Bool)
          → cond good
          (cond free (gets 0 (active new.level new.side (seconds * 1000) (tag_in new))) (gets full (inactive nothing)))
          (gets 6 (inactive nothing))
          ≡ step_by
          (cond good (cond free (record { code = 0; change = Opened (lasting (seconds * 1000) new) }) (answered full)) (answered 6))
          Inactive
      go true true = refl
      go true false = refl
      go false free = refl
  activate_same (Active x) = go (eqb new.level x.level && eqb new.side x.side) (within 1 86400 seconds)
    where
      go : (same good : Bool)
          → cond same
          (cond good (gets 4 (active x.level x.side (seconds * 1000) (tag_in x))) (gets 6 (shown true (Active x))))
          (gets 7 (shown true (Active x)))
          ≡ step_by
          (cond same (cond good (record { code = 4; change = Restarted (lasting (seconds * 1000) x) }) (answered 6)) (answered 7))
          (Active x)
      go true true = refl
      go true false = refl
      go false good = refl

  pub deactivate_same : (m : Machine)
      → deactivate new.level new.side (shown true m) ≡ step_by (decision m rqst_deactivate) m
  unfolding deactivate decided action_of activity closed same_mp answered after resting
  deactivate_same Inactive = refl
  deactivate_same (Active x) = go (eqb new.level x.level && eqb new.side x.side)
    where
      go : (same : Bool)
          → cond same (gets 0 (inactive nothing)) (gets 7 (shown true (Active x)))
          ≡ step_by (cond same (record { code = 0; change = Closed }) (answered 7)) (Active x)
      go true = refl
      go false = refl

  pub state_same : (m : Machine) → gets 0 (shown true m) ≡ step_by (decision m rqst_state) m
  unfolding decided action_of activity answered after
  state_same Inactive = refl
  state_same (Active x) = refl
