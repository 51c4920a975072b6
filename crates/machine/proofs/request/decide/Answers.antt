use Rattle.std.proofs.Common.{arith}
use Rattle.std.proofs.lemmas.Bool.Decides.{nat_tests}
use Rattle.machine.specs.Machine.{decided}
use Rattle.machine.proofs.request.decide.Goals as goal

pub returns-in-3 : goal.returns-in-3
unfolding decided
returns-in-3 c = rw c.in-3.is c.admitted.ensures

pub returns-in-6 : goal.returns-in-6
unfolding decided
returns-in-6 c = rw c.in-6.is c.restarted.ensures

pub returns-in-5 : goal.returns-in-5
unfolding decided
returns-in-5 c = rw c.in-5.is c.answered.ensures

pub returns-in-7 : goal.returns-in-7
unfolding decided
returns-in-7 c = rw c.in-7.is c.closed.ensures

pub returns-in-4 : goal.returns-in-4
unfolding decided
returns-in-4 c = rw c.in-4.is c.answered-in-4.ensures

pub returns-in_default : goal.returns-in_default
unfolding decided
returns-in_default c = rw c.answered-in_default.ensures (grind (arith, nat_tests))
