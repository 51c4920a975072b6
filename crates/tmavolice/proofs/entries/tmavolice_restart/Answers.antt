use Rattle.tmavolice.proofs.entries.tmavolice_restart.Goals as goal

pub returns : goal.returns
returns c = rw c.told.ensures c.answer_restart.ensures
