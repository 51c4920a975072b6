use Rattle.machine.specs.Machine.{passes}
use Rattle.machine.proofs.traffic.passes.Goals as goal

pub returns-then-soam : goal.returns-then-soam
unfolding passes
returns-then-soam c = rw c.if-soam.true

pub returns-else-soam : goal.returns-else-soam
unfolding passes
returns-else-soam c = rw c.if-soam.false
