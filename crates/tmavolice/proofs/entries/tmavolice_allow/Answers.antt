use Rattle.tmavolice.proofs.entries.tmavolice_allow.Goals as goal

pub returns : goal.returns
returns c = rw c.told.ensures c.answer_allow.ensures
