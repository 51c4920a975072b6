use Rattle.machine.specs.Machine.{key_of}
use Rattle.state_store.proofs.row.key_of.Goals as goal

pub returns : goal.returns
unfolding key_of
returns c = c.key.ensures
