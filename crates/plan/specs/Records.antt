-- The plan as the code holds it: the records by value, in rows.
use Rattle.std.specs.Prelude.{List, [], ◌∷◌, cond, ℕ, zero, suc, eqb}
use Rattle.plan.specs.declared.Port.{Port}
use Rattle.plan.specs.declared.Flow.{Flow}
use Rattle.plan.specs.declared.Records.{Records}
use Rattle.plan.specs.Plan.{Plan, no_port, no_flow}

-- the rows up to the first empty one, which has number 0
unfoldable pub held : {A : Type 0} → (A → ℕ) → List A → List A
held number [] = []
held number (x ∷ xs) = cond (eqb (number x) 0) [] (x ∷ held number xs)

abbrev pub held_ports : List Port → List Port
held_ports = held (λ p. p.number)

abbrev pub held_flows : List Flow → List Flow
held_flows = held (λ f. f.number)

-- the plan of such rows
unfoldable pub plan_of : Records → Plan
plan_of r = record { ports = held_ports r.ports; flows = held_flows r.flows }

-- n rows: the elements of a list, and the empty row from there on
unfoldable pub filled : {A : Type 0} → ℕ → A → List A → List A
filled zero empty l = []
filled (suc n) empty [] = empty ∷ filled n empty []
filled (suc n) empty (x ∷ l) = x ∷ filled n empty l

-- a plan by value, to the last row
unfoldable pub by_value : Plan → Records
by_value plan = record { ports = filled 8 no_port plan.ports; flows = filled 32 no_flow plan.flows }
