use Rattle.octets.specs.Text.{text}
use Rattle.events_shift.proofs.StepTaken.{bad_taken, step_taken}
use Rattle.events_shift.proofs.steps.step.Goals as goal

pub returns-in-None : goal.returns-in-None
unfolding text
returns-in-None c =
    let a : _ = c.args in
    bad_taken a.image.now a.number a.line.now a.frame.now a.sent.now a.out.now a.at c.requires.0
    c.in-None.ensures c.put_call.ensures

pub returns-in-Some : goal.returns-in-Some
returns-in-Some c =
    let a : _ = c.args in
    step_taken a.image.now a.number a.line.now a.frame.now a.sent.now a.out.now a.at c.requires.0
    c.in-Some.ensures c.make_call-answer.ensures c.put_event.ensures
