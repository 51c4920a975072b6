use Rattle.state_store.proofs.head.set_clock.Goals as goal

pub returns : goal.returns
returns c = c.put_low4.ensures
