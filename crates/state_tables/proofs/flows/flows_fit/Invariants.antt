use mathlib.Core.Path.{◌≡◌}
use Prim.Native.Nat.{◌*◌, ◌≤◌}
use Rattle.plan.specs.Plan.{port_numbered}
use Rattle.state.specs.Image.{state_of}
use Rattle.state_tables.specs.Pass.{none_seen, flow_fits, flow_seen, flows_right}
use Rattle.state_tables.proofs.TurnLaws.{Passing}
use Rattle.state_tables.proofs.FlowTest.{seen}
use Rattle.state_tables.proofs.flows.flows_fit.Given as goal

abbrev pub invariant-loop-i : goal.invariant-loop-i
invariant-loop-i l =
    Passing (flow_fits l.b) flow_seen (flows_right l.b) 32 32 l.i (seen l.last l.i l.odd l.marks) none_seen l.t
    × ((l.kind ≡ (port_numbered l.port (state_of l.b).plan).kind) × (l.marks ≤ l.i * 0x0404040404040404))
