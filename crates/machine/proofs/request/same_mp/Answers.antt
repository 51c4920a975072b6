use Rattle.machine.specs.Machine.{same_mp}
use Rattle.std.proofs.Common.{eq-eqb, ne_eqb}
use Rattle.machine.proofs.request.same_mp.Goals as goal

pub returns-then-new-s : goal.returns-then-new-s
unfolding same_mp
returns-then-new-s c = search (eq-eqb, ne_eqb)

pub returns-else-new-s : goal.returns-else-new-s
unfolding same_mp
returns-else-new-s c = search (eq-eqb, ne_eqb)
