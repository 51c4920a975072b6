use Rattle.events_shift.proofs.steps.put_event.Goals as goal

pub returns : goal.returns
returns c = rw (c.word_of.ensures.0, c.lent_of-lent.ensures.0) at c.put_call.ensures
