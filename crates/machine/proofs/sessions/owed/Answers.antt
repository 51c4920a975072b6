use Rattle.machine.specs.Machine.{owed}
use Rattle.machine.proofs.sessions.owed.Goals as goal

pub returns : goal.returns
unfolding owed
returns c = rw c.octet.ensures
