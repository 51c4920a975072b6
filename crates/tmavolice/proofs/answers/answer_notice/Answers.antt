use mathlib.Core.Path.{refl}
use Rattle.calls.specs.Calls.{served, lent, makes}
use Rattle.tmavolice.proofs.EnterLaws.{entered_err, entered_served}
use Rattle.tmavolice.proofs.answers.answer_notice.Goals as goal

pub returns-in_err-notice_refusal : goal.returns-in_err-notice_refusal
unfolding lent makes
returns-in_err-notice_refusal c = entered_err _ _ c.from_residual.ensures.1 c.in_err-notice_refusal.ensures refl

pub returns : goal.returns
unfolding served lent makes
returns c =
    let same : _ = (rw c.unwrap.ensures at c.as_mut_array.ensures.cases).same in
    let told : _ = rw same at c.take_notice.ensures in
    entered_served c.in_ok-notice_refusal.ensures refl refl told refl
