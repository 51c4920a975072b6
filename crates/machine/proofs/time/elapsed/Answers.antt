use Rattle.std.proofs.Common.{arith}
use Rattle.machine.specs.Time.{elapsed}
use Rattle.machine.proofs.time.elapsed.Goals as goal

pub returns : goal.returns
unfolding elapsed
returns c = omega arith
