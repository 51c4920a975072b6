-- The test of the allowed flows: it passes when each octet is 0 or 1 and only flows of the plan are allowed.
use mathlib.Core.Path.{◌≡◌, refl, sym}
use mathlib.Core.Bool.{Bool, true, false, ◌&&◌, ◌||◌, not, and-true}
use mathlib.Core.List.{List, [], ◌∷◌, map}
use Prim.Native.Nat.{ℕ, ◌+◌, ◌≤◌}
use native.Mathlib.Omega.{arith}
use lib.Dec.{eqb, leb}
use lib.ListN.{length}
use borrow.Author.Tests.{ne_eqb, le-leb, lt-leb, eqb-true, eqb-false}
use Rattle.octets.specs.Octets.{same}
use Rattle.octets.proofs.Cases.{by_eq}
use Rattle.octets.proofs.Same.{same_equal}
use Rattle.plan.specs.Plan.{Plan, flow_numbered, in_plan}
use Rattle.state.specs.State.{only_flows}
use Rattle.state.specs.Image.{bit, place_from, places}
use Rattle.state.proofs.FlowPlaces.{place_in}
use Rattle.state_tables.specs.Pass.{ok_allowed}
use Rattle.state_tables.proofs.Tests.{and_swap}

placed : (p : ℕ) (there : Bool) → eqb p 0 ≡ not there → leb 1 p ≡ there
placed p true e = le-leb 1 p (let n : p ≡ 0 → ⊥ = eqb-false p 0 e in omega arith)
placed p false e = lt-leb 1 p (omega (arith, eqb-true p 0 e))

-- one octet, where its flow is in the plan or not
one_allowed : (a : ℕ) (there : Bool)
    → (eqb a 0 || (eqb a 1 && there)) ≡ ((not (eqb 1 a) || there) && eqb (bit (eqb 1 a)) a)
unfolding bit
one_allowed a there =
    by_eq a 0
    (λ e none. rw none)
    (λ e some.
    by_eq a 1
    (λ f one. rw one (sym (and-true there)))
    (λ f other. simp (e, f, ne_eqb 1 a (λ z. other (sym z)), ne_eqb 0 a (λ z. some (sym z)))))

module _ (plan : Plan) where
  allowed_from : (al : List ℕ) (n : ℕ) → 1 ≤ n
      → ok_allowed al (places (length al) n plan.flows)
      ≡ (only_flows plan n (map (eqb 1) al) && same (map bit (map (eqb 1) al)) al)
  unfolding ok_allowed places only_flows same flow_numbered
  allowed_from [] n h = refl
  allowed_from (a ∷ al) n h =
      let there : Bool = in_plan (flow_numbered n plan).number in
      let p : ℕ = place_from n 1 plan.flows in
      let known : List Bool = map (eqb 1) al in
      rw (placed p there (place_in n 1 plan.flows h (omega arith)), one_allowed a there, allowed_from al (n + 1) (omega arith))
      (and_swap (not (eqb 1 a) || there) (eqb (bit (eqb 1 a)) a) (only_flows plan (n + 1) known) (same (map bit known) al))

  pub allowed_law : (al pl : List ℕ) → length al ≡ 32 → same (places 32 1 plan.flows) pl ≡ true
      → ok_allowed al pl ≡ (only_flows plan 1 (map (eqb 1) al) && same (map bit (map (eqb 1) al)) al)
  allowed_law al pl h e = rw (← same_equal (places 32 1 plan.flows) pl e, ← h) (allowed_from al 1 (omega arith))
