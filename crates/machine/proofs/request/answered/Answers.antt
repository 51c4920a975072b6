use Rattle.std.proofs.Common.{refl}
use Rattle.machine.specs.Machine.{answered}
use Rattle.machine.proofs.request.answered.Goals as goal

pub returns : goal.returns
unfolding answered
returns c = refl
