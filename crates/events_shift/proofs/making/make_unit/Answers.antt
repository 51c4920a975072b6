use Rattle.events_shift.specs.Shift.{made}
use Rattle.events_shift.proofs.ReadyLaws.{ready_made, ready_fault}
use Rattle.events_shift.proofs.making.make_unit.Goals as goal

pub returns-then-answer-ne-FAULT : goal.returns-then-answer-ne-FAULT
unfolding made
returns-then-answer-ne-FAULT c = ready_made c.tmavolice_make-answer.ensures c.args.out.now c.if-answer-ne-FAULT.true

pub returns : goal.returns
unfolding made
returns c =
    ready_fault c.tmavolice_make-answer.ensures c.args.out.now c.if-answer-ne-FAULT.false c.put_fault.ensures
