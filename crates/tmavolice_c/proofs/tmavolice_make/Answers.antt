use Rattle.tmavolice_c.proofs.tmavolice_make.Goals as goal

pub returns : goal.returns
returns c = c.tmavolice_make.ensures
