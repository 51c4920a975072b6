use Rattle.machine.specs.Machine.{restarted}
use Rattle.machine.proofs.request.restarted.Goals as goal

pub returns-in-Inactive : goal.returns-in-Inactive
unfolding restarted
returns-in-Inactive c = rw c.in-Inactive.is c.answered.ensures

pub returns-in-Active : goal.returns-in-Active
unfolding restarted
returns-in-Active c = rw c.in-Active.is c.refreshed.ensures
