use Rattle.tmavolice.proofs.entries.tmavolice_prohibit.Goals as goal

pub returns : goal.returns
returns c = rw c.told.ensures c.answer_prohibit.ensures
