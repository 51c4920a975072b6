use Rattle.machine.specs.Table.{condition_number}
use Rattle.machine.specs.Machine.{activity}
use Rattle.std.proofs.Common.{arith}
use Rattle.machine.proofs.table.row_of.Goals as goal

pub returns-in-Inactive : goal.returns-in-Inactive
unfolding activity condition_number
returns-in-Inactive c = (rw c.in-Inactive.is, omega arith)

pub returns-in-Active : goal.returns-in-Active
unfolding activity condition_number
returns-in-Active c = (rw c.in-Active.is, omega arith)
