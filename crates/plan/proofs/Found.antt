-- What is found by its number: it has that number, and passes what each passes.
use mathlib.Core.Path.{◌≡◌, refl}
use mathlib.Core.Bool.{Bool, true}
use mathlib.Core.List.{List, [], ◌∷◌}
use Prim.Native.Nat.{ℕ}
use native.Mathlib.Omega.{arith}
use lib.Dec.{eqb}
use borrow.Author.Tests.{leb-true}
use Rattle.octets.specs.Lists.{within, every, first}
use Rattle.octets.proofs.Same.{both_true}
use Rattle.octets.proofs.Cases.{by_eq}
use Rattle.plan.specs.declared.Port.{Port}
use Rattle.plan.specs.declared.Flow.{Flow}
use Rattle.plan.specs.Plan.{Plan, no_port, no_flow, port_numbered, flow_numbered, in_plan, good_port}
use Rattle.plan.proofs.Kept.{good_port_lem}

module _ {A : Type 0} (number : A → ℕ) (other : A) (none : number other ≡ 0) (n : ℕ) where
  abbrev found : List A → A
  found l = first (λ x. eqb (number x) n) other l

  found_number : (l : List A) → in_plan (number (found l)) ≡ true → number (found l) ≡ n
  unfolding first in_plan
  found_number [] h = absurd (omega (arith, none, leb-true 1 (number other) h))
  found_number (x ∷ l) h =
      by_eq (number x) n (λ e same. rw e same)
      (λ e diff. let g : in_plan (number (found l)) ≡ true = rw e at h in rw e (found_number l g))

  found_passes : (test : A → Bool) (l : List A) → every test l ≡ true → in_plan (number (found l)) ≡ true → test (found l) ≡ true
  unfolding first in_plan every
  found_passes test [] a h = absurd (omega (arith, none, leb-true 1 (number other) h))
  found_passes test (x ∷ l) a h =
      let b : _ = both_true (test x) (every test l) a in
      by_eq (number x) n (λ e same. rw e b.0)
      (λ e diff. let g : in_plan (number (found l)) ≡ true = rw e at h in rw e (found_passes test l b.1 g))

pub port_found : (plan : Plan) (n : ℕ) → in_plan (port_numbered n plan).number ≡ true → (port_numbered n plan).number ≡ n
unfolding port_numbered no_port
port_found plan n h = found_number (λ (p : Port). p.number) no_port refl n plan.ports h

pub flow_found : (plan : Plan) (n : ℕ) → in_plan (flow_numbered n plan).number ≡ true → (flow_numbered n plan).number ≡ n
unfolding flow_numbered no_flow
flow_found plan n h = found_number (λ (f : Flow). f.number) no_flow refl n plan.flows h

port_passes : (plan : Plan) (test : Port → Bool) (n : ℕ) → every test plan.ports ≡ true
    → in_plan (port_numbered n plan).number ≡ true → test (port_numbered n plan) ≡ true
unfolding port_numbered no_port
port_passes plan test n a h = found_passes (λ (p : Port). p.number) no_port refl n test plan.ports a h

pub flow_passes : (plan : Plan) (test : Flow → Bool) (n : ℕ) → every test plan.flows ≡ true
    → in_plan (flow_numbered n plan).number ≡ true → test (flow_numbered n plan) ≡ true
unfolding flow_numbered no_flow
flow_passes plan test n a h = found_passes (λ (f : Flow). f.number) no_flow refl n test plan.flows a h

-- the number of a port that is there
pub port_number : (plan : Plan) (n : ℕ) → every good_port plan.ports ≡ true → in_plan (port_numbered n plan).number ≡ true
    → within 1 8 n ≡ true
port_number plan n g h =
    rw (port_found plan n h) at (good_port_lem (port_numbered n plan) (port_passes plan good_port n g h)).number_fits
