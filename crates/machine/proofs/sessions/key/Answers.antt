use Rattle.machine.specs.Machine.{key}
use Rattle.machine.proofs.sessions.key.Goals as goal

pub returns : goal.returns
unfolding key
returns c = rw c.from.ensures
