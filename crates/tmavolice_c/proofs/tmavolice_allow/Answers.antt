use Rattle.tmavolice_c.proofs.tmavolice_allow.Goals as goal

pub returns : goal.returns
returns c = c.tmavolice_allow.ensures
