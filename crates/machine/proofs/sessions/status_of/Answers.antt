use Rattle.machine.specs.Machine.{status_of}
use Rattle.machine.proofs.sessions.status_of.Goals as goal

pub returns-in-Inactive : goal.returns-in-Inactive
unfolding status_of
returns-in-Inactive c = rw c.in-Inactive.is

pub returns-in-Active : goal.returns-in-Active
unfolding status_of
returns-in-Active c = rw (c.in-Active.is, c.seconds_left.ensures)
