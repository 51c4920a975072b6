-- Computed: a refresh from another level than its session's leaves a machine to the time that passes, one from its own does not.
use mathlib.Core.Path.{◌≡◌, refl}
use mathlib.Core.Bool.{Bool, true, false, ◌||◌, not}
use mathlib.Core.List.{[], ◌∷◌}
use Prim.Native.Nat.{ℕ, ◌*◌, ◌≤◌, ◌^◌}
use lib.Dec.{eqb}
use Rattle.octets.specs.Lists.{every, some}
use Rattle.calls.specs.Calls.{Call, tick}
use Rattle.calls.specs.Bench.{activate60, state_request}
use Rattle.demands.specs.Calls.{refusal}
use Rattle.demands.specs.Elapsed.{spares, is_left_alone}
use Rattle.demands.proofs.ExampleUnit.{vlan, tester, unit, world, slip, slip_off, no_seconds, close}
use Rattle.demands.proofs.ExampleSteps.{computed, unit_valid, due_is}

module _ (keys : ℕ) where
  abbrev leaves : Call → Bool
  leaves c = spares keys 1 vlan tester world c

  -- answered 7, 7 and 6, and a State request
  failed_leave : every leaves (slip ∷ slip_off ∷ no_seconds ∷ state_request ∷ []) ≡ true
  unfolding computed
  failed_leave = refl

  -- answered 4 and 0
  carried_out_change : some leaves (activate60 ∷ close ∷ []) ≡ false
  unfolding computed
  carried_out_change = refl

  either : (b : Bool) → (b || true) ≡ true
  either true = refl
  either false = refl

  -- So a run goes on past a slip,
  pub past_a_slip : is_left_alone keys 1 vlan tester world (slip ∷ []) ≡ true
  unfolding computed
  past_a_slip = rw (either (not (eqb (refusal keys world slip) 0)))

  pub past_a_slip_and_tick : is_left_alone keys 1 vlan tester world (slip ∷ tick 1000 ∷ []) ≡ true
  unfolding computed
  past_a_slip_and_tick = rw (either (not (eqb (refusal keys world slip) 0)), either _)

  -- and not past a refresh.
  not_past_a_refresh : 33 * 2 ^ 48 ≤ keys → is_left_alone keys 1 vlan tester world (activate60 ∷ []) ≡ false
  unfolding computed
  not_past_a_refresh big = rw (due_is keys big unit unit_valid)
