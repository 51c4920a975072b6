use Rattle.tmavolice_c.proofs.tmavolice_tick.Goals as goal

pub returns : goal.returns
returns c = c.tmavolice_tick.ensures
