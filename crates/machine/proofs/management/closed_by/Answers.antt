use Rattle.std.proofs.Common.{arith}
use Rattle.std.proofs.lemmas.Bool.Decides.{nat_tests}
use Rattle.machine.specs.Management.{closed_by}
use Rattle.machine.proofs.management.closed_by.Goals as goal

pub returns-in-0 : goal.returns-in-0
unfolding closed_by
returns-in-0 c = rw c.in-0.is

pub returns-in-11 : goal.returns-in-11
unfolding closed_by
returns-in-11 c = rw c.in-11.is c.owed.ensures

pub returns-in-10 : goal.returns-in-10
unfolding closed_by
returns-in-10 c = rw c.in-10.is c.owed-in-10.ensures

pub returns-in_default : goal.returns-in_default
unfolding closed_by
returns-in_default c = rw c.owed-in_default.ensures (grind (arith, nat_tests))
