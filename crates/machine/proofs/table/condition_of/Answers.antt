use Rattle.machine.specs.Table.{condition_number}
use Rattle.machine.specs.Machine.{condition_of}
use Rattle.std.proofs.Common.{arith}
use Rattle.machine.proofs.table.condition_of.Goals as goal

pub returns-then-allowed : goal.returns-then-allowed
unfolding condition_of condition_number
returns-then-allowed c = rw c.if-allowed.true c.row_of.ensures

pub returns : goal.returns
unfolding condition_of condition_number
returns c = (rw c.if-allowed.false, omega arith)
