use Rattle.std.proofs.Common.{arith, sym}
use Rattle.std.proofs.lemmas.Bool.Decides.{nat_tests}
use Rattle.octets.specs.Lists.{within}
use Rattle.machine.specs.Machine.{good_seconds}
use Rattle.machine.proofs.Laws.{seconds_good}
use Rattle.machine.proofs.request.good_seconds.Goals as goal

pub returns-in-1-to-86400 : goal.returns-in-1-to-86400
returns-in-1-to-86400 c = sym (seconds_good _ (omega arith) (omega arith))

pub returns-in_default : goal.returns-in_default
unfolding good_seconds within
returns-in_default c = grind (arith, nat_tests)

pub returns-in_default-2 : goal.returns-in_default-2
unfolding good_seconds within
returns-in_default-2 c = grind (arith, nat_tests)
