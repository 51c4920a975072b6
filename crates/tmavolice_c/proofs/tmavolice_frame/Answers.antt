use Rattle.tmavolice_c.proofs.tmavolice_frame.Goals as goal

pub returns : goal.returns
returns c = c.tmavolice_frame.ensures
