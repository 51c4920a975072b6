use Rattle.machine.specs.Machine.{lasting}
use Rattle.std.proofs.Common.{refl}
use Rattle.machine.proofs.sessions.lasting.Goals as goal

pub returns : goal.returns
unfolding lasting
returns c = refl
