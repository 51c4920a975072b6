use Rattle.std.proofs.Common.{arith}
use Rattle.machine.specs.Machine.{seconds_left}
use Rattle.machine.proofs.sessions.seconds_left.Goals as goal

pub returns : goal.returns
unfolding seconds_left
returns c = omega arith
