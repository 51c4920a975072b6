use Rattle.std.proofs.Common.{arith}
use Rattle.std.proofs.lemmas.Bool.Decides.{nat_tests}
use Rattle.machine.specs.Machine.{fate_of}
use Rattle.machine.proofs.traffic.fate_of.Goals as goal

pub returns-in-1 : goal.returns-in-1
unfolding fate_of
returns-in-1 c = rw c.in-1.is

pub returns-in-2 : goal.returns-in-2
unfolding fate_of
returns-in-2 c = rw c.in-2.is c.turned.ensures

pub returns-in_default : goal.returns-in_default
unfolding fate_of
returns-in_default c = grind (arith, nat_tests)
