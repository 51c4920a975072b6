use Rattle.machine.proofs.sessions.status_after.Goals as goal

pub returns : goal.returns
returns c = rw (← c.after.ensures) c.status_of.ensures
