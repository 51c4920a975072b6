-- Which flows a valid state allows, its machines tell: each is prohibited exactly when its flow is not allowed.
use mathlib.Core.Path.{◌≡◌, refl, sym, ◌∙◌}
use mathlib.Core.Bool.{Bool, true, false, not, ◌||◌}
use mathlib.Core.List.{List, [], ◌∷◌}
use Prim.Native.Nat.{ℕ, zero, suc, ◌+◌, ◌-◌, ◌/◌, ◌%◌, ◌^◌, ◌≤◌}
use native.Mathlib.Omega.{arith}
use native.Mathlib.Nat.{add_assoc, add-zero}
use native.Mathlib.Numerals.{one-add}
use lib.ListN.{get_or}
use Rattle.octets.specs.Lists.{every}
use Rattle.octets.proofs.Same.{both_true}
use Rattle.octets.proofs.Cases.{by_eq}
use Rattle.machine.specs.declared.Session.{Session}
use Rattle.machine.specs.Machine.{is_open, key, key_of}
use Rattle.plan.specs.Plan.{Plan, flow_numbered, in_plan}
use Rattle.state.specs.State.{State, is_allowed, only_flows, good_session, valid}
use Rattle.state.proofs.OwedRow.{by_test}
use Rattle.state.proofs.Rules.{Valid, valid_parts}
use Rattle.demands.specs.Machine.{Owed, nothing, is_prohibited}
use Rattle.demands.specs.World.{World, at}
use Rattle.demands.specs.Shown.{resting, machine_by, machine_in}
use Rattle.demands.proofs.Shows.{Shows}
use Rattle.demands.proofs.Keys.{key_flow, key_whole, open_allowed}
use Rattle.demands.proofs.AtKey.{at_there, at_gone}

resting_prohibited : (a : Bool) (owed : Owed) → is_prohibited (resting a owed) ≡ not a
unfolding is_prohibited resting
resting_prohibited true owed = refl
resting_prohibited false owed = refl

-- a flow that the plan has not is not allowed
none_allowed : (plan : Plan) (n i : ℕ) (l : List Bool) → only_flows plan n l ≡ true
    → in_plan (flow_numbered (n + i) plan).number ≡ false → get_or l i false ≡ false
unfolding only_flows
none_allowed plan n i [] h gone = refl
none_allowed plan n zero (a ∷ l) h gone = go a (rw (← add-zero n, gone) at (both_true (not a || in_plan (flow_numbered n plan).number) _ h).0)
  where
    go : (b : Bool) → (not b || false) ≡ true → b ≡ false
    go true e = sym e
    go false e = refl
none_allowed plan n (suc i) (a ∷ l) h gone =
    none_allowed plan (n + 1) i l (both_true (not a || in_plan (flow_numbered n plan).number) (only_flows plan (n + 1) l) h).1
    (rw (add_assoc n 1 i, one-add) gone)

not_not : (a : Bool) → not (not a) ≡ a
not_not true = refl
not_not false = refl

module _ (s : State) (ok : valid s ≡ true) where
  v : Valid s
  v = valid_parts s ok

  -- the machine of a key is prohibited exactly when its flow is not allowed
  prohibited_by : (k : ℕ) (xs : List Session) → every (good_session s) xs ≡ true
      → is_prohibited (machine_in (is_allowed (k / 2 ^ 48) s) k xs) ≡ not (is_allowed (k / 2 ^ 48) s)
  unfolding machine_in machine_by every is_prohibited
  prohibited_by k [] h = resting_prohibited (is_allowed (k / 2 ^ 48) s) nothing
  prohibited_by k (x ∷ xs) h =
      let b : _ = both_true (good_session s x) (every (good_session s) xs) h in
      by_eq (key_of x) k
      (λ e same. by_test (is_open x)
      (λ o.
      let may : is_allowed (k / 2 ^ 48) s ≡ true
      = open_allowed s ok x b.0 (k / 2 ^ 48) (k % 2 ^ 48) (omega arith) (same ∙ sym (key_whole k)) o in
      rw (e, o, may))
      (λ o. rw (e, o) (resting_prohibited (is_allowed (k / 2 ^ 48) s) _)))
      (λ e other. rw e (prohibited_by k xs b.1))

  module _ (w : World) (shows : Shows s w) where
    may_told : (k : ℕ) → 1 ≤ k / 2 ^ 48 → is_allowed (k / 2 ^ 48) s ≡ not (is_prohibited (at k w))
    unfolding is_allowed is_prohibited
    may_told k some =
        by_test (in_plan (flow_numbered (k / 2 ^ 48) s.plan).number)
        (λ there. rw (at_there s ok w shows k there, prohibited_by k s.sessions v.sessions_good) (sym (not_not _)))
        (λ gone.
        let n : 1 + (k / 2 ^ 48 - 1) ≡ k / 2 ^ 48 = omega arith in
        rw (at_gone s ok w shows k gone) (none_allowed s.plan 1 (k / 2 ^ 48 - 1) s.allowed v.flows_only (rw n gone)))

    pub flag_told : (i : ℕ) → get_or s.allowed i false ≡ not (is_prohibited (at (key (1 + i) 0) w))
    unfolding is_allowed
    flag_told i =
        let flow : key (1 + i) 0 / 2 ^ 48 ≡ 1 + i = key_flow (1 + i) 0 (omega arith) in
        let place : 1 + i - 1 ≡ i = omega arith in
        rw (flow, place) at (may_told (key (1 + i) 0) (rw flow (omega arith)))
