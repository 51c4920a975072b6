-- A plan by value is that plan.
use mathlib.Core.Path.{◌≡◌, refl, ap, ◌∙◌}
use mathlib.Core.Bool.{true}
use mathlib.Core.List.{List, [], ◌∷◌}
use Prim.Native.Nat.{ℕ, zero, suc, ◌≤◌}
use native.Mathlib.Nat.{not-suc-le-zero, le_of_suc-le-suc}
use native.Mathlib.Omega.{arith}
use lib.Dec.{leb}
use lib.ListN.{length}
use borrow.Author.Tests.{leb-true, ne_eqb}
use Rattle.octets.specs.Lists.{every}
use Rattle.octets.proofs.Same.{both_true}
use Rattle.plan.specs.Plan.{Plan, no_port, no_flow, so_far}
use Rattle.plan.specs.Records.{held_ports, held_flows, plan_of, filled, by_value}
use Rattle.plan.proofs.HeldLaws.{Rows, held_rows}
use Rattle.plan.proofs.Room.{ports_named, flows_named, ports_few, flows_few}

-- rows that are filled hold what they were filled with
module _ {A : Type 0} {number : A → ℕ} {held : List A → List A} (rows : Rows number held) (e : A) (none : number e ≡ 0) where
  held_filled : (n : ℕ) (l : List A) → length l ≤ n → every (λ x. leb 1 (number x)) l ≡ true → held (filled n e l) ≡ l
  unfolding filled every
  held_filled zero [] h a = rows.none
  held_filled zero (x ∷ l) h a = absurd (not-suc-le-zero h)
  held_filled (suc n) [] h a = rows.one e (filled n e []) ∙ rw none
  held_filled (suc n) (x ∷ l) h a =
      let b : _ = both_true (leb 1 (number x)) (every (λ y. leb 1 (number y)) l) a in
      let some : number x ≡ 0 → ⊥ = λ z. omega (arith, z, leb-true 1 (number x) b.0) in
      rows.one x (filled n e l)
      ∙ rw (ne_eqb (number x) 0 some) (ap (λ (r : List A). x ∷ r) (held_filled n l (le_of_suc-le-suc h) b.1))

pub value_back : (plan : Plan) → so_far plan ≡ true → plan_of (by_value plan) ≡ plan
unfolding plan_of by_value no_port no_flow
value_back plan h =
    let ports : held_ports (filled 8 no_port plan.ports) ≡ plan.ports =
    held_filled (held_rows (λ p. p.number)) no_port refl 8 plan.ports (ports_few plan h) (ports_named plan h) in
    let flows : held_flows (filled 32 no_flow plan.flows) ≡ plan.flows =
    held_filled (held_rows (λ f. f.number)) no_flow refl 32 plan.flows (flows_few plan h) (flows_named plan h) in
    λ i. record { ports = ports i; flows = flows i }
