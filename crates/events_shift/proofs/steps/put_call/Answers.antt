use mathlib.Core.Path.{refl, ap}
use Rattle.events.specs.AnswerLine.{Got, answer_line}
use Rattle.events.proofs.Puts.{put_as}
use Rattle.events_shift.proofs.StepLaws.{says_refused, says_answered}
use Rattle.events_shift.proofs.steps.put_call.Goals as goal

pub returns-then-outcome-eq0 : goal.returns-then-outcome-eq0
returns-then-outcome-eq0 c =
    let a : _ = c.args in
    put_as c.put_refusal.ensures
    (ap (λ (g : Got). answer_line a.number a.word.now g)
    (says_refused a.answer a.lent.now c.if-outcome-eq0.true))
    refl

pub returns : goal.returns
returns c =
    let a : _ = c.args in
    put_as c.put_answer.ensures
    (ap (λ (g : Got). answer_line a.number a.word.now g)
    (says_answered a.answer _ a.lent.now c.if-outcome-eq0.false
    c.min-n.ensures))
    refl
