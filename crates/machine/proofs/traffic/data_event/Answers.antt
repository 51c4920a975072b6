use Rattle.std.proofs.Common.{arith, eq-eqb, ne_eqb}
use Rattle.machine.specs.Machine.{data_event}
use Rattle.machine.specs.Table.{event_number}
use Rattle.machine.proofs.traffic.data_event.Goals as goal

pub returns-then-side-eq-EXTERNAL : goal.returns-then-side-eq-EXTERNAL
unfolding data_event event_number
returns-then-side-eq-EXTERNAL c = (simp (eq-eqb _ _ c.if-side-eq-EXTERNAL.true), omega arith)

pub returns : goal.returns
unfolding data_event event_number
returns c = (simp (ne_eqb _ _ c.if-side-eq-EXTERNAL.false), omega arith)
