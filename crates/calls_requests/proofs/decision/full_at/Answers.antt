use borrow.Author.Tests.{eq-eqb, ne_eqb}
use Rattle.calls_requests.proofs.decision.full_at.Goals as goal

pub returns-then-action-eq-ADMIT : goal.returns-then-action-eq-ADMIT
returns-then-action-eq-ADMIT c = λ f. rw (eq-eqb _ _ c.if-action-eq-ADMIT.true) (c.full_for.ensures f)

pub returns : goal.returns
returns c = λ f. rw (ne_eqb _ _ c.if-action-eq-ADMIT.false)
