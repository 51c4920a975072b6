-- A plan by the records that it holds.
use mathlib.Core.Path.{◌≡◌}
use mathlib.Core.Logic.{◌⊎◌}
use Prim.Native.Nat.{◌≤◌}
use Rattle.plan.specs.Plan.{Plan, port_numbered, flow_numbered, mp_at}
use Rattle.plan.specs.Line.{Line, unreadable, port_line, flow_line, mp_line}
use Rattle.plan.specs.WrittenPlan.{port_record, flow_record}

-- The plan has what the record says.
abbrev pub Holds : Plan → Line → Type 0
Holds plan unreadable = ⊥
Holds plan (port_line number kind address) = (1 ≤ number) × (port_record (port_numbered number plan) ≡ port_line number kind address)
Holds plan (flow_line number port kind vid) = (1 ≤ number) × (flow_record (flow_numbered number plan) ≡ flow_line number port kind vid)
Holds plan (mp_line flow kind level) = (1 ≤ kind) × (mp_at level (flow_numbered flow plan) ≡ kind)

-- The next plan holds what the plan did, the record, and nothing else.
pub record Grows (plan : Plan) (line : Line) (next : Plan) : Type 0 where
  pub kept : (r : Line) → Holds plan r → Holds next r
  pub new : Holds next line
  pub only : (r : Line) → Holds next r → (r ≡ line) ⊎ Holds plan r
