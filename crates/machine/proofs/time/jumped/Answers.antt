use Rattle.machine.specs.Time.{jumped}
use Rattle.machine.proofs.time.jumped.Goals as goal

pub returns : goal.returns
unfolding jumped
returns c = rw c.elapsed.ensures
