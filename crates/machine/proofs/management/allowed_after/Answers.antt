use Rattle.std.proofs.Common.{arith}
use Rattle.std.proofs.lemmas.Bool.Decides.{nat_tests}
use Rattle.machine.specs.Management.{allowed_after}
use Rattle.machine.proofs.management.allowed_after.Goals as goal

pub returns-in-0 : goal.returns-in-0
unfolding allowed_after
returns-in-0 c = rw c.in-0.is

pub returns-in-8 : goal.returns-in-8
unfolding allowed_after
returns-in-8 c = rw c.in-8.is

pub returns-in_default : goal.returns-in_default
unfolding allowed_after
returns-in_default c = grind (arith, nat_tests)
