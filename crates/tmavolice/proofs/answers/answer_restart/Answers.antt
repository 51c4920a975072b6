use mathlib.Core.Path.{refl}
use Rattle.calls.specs.Calls.{served, lent, makes}
use Rattle.tmavolice.proofs.EnterLaws.{entered_err, entered_served, done}
use Rattle.tmavolice.proofs.answers.answer_restart.Goals as goal

pub returns-in_err-restart_refusal : goal.returns-in_err-restart_refusal
unfolding lent makes
returns-in_err-restart_refusal c = entered_err _ _ c.from_residual.ensures.1 (c.in_err-restart_refusal.ensures _) refl

pub unwrap-requires : goal.unwrap-requires
unwrap-requires c = c.as_mut_array.ensures.variant.1 ((c.in_ok-restart_refusal.ensures 0).known refl).long

pub restart_at-requires : goal.restart_at-requires
restart_at-requires c =
    let same : _ = (rw c.unwrap.ensures at c.as_mut_array.ensures.cases).same in
    rw same ((c.in_ok-restart_refusal.ensures 0).known refl)

pub returns : goal.returns
unfolding served lent makes
returns c =
    let same : _ = (rw c.unwrap.ensures at c.as_mut_array.ensures.cases).same in
    let told : _ = rw same at c.restart_at.ensures in
    entered_served (c.in_ok-restart_refusal.ensures _) refl refl (done _ told) refl
