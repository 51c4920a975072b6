use Rattle.state.proofs.RowAnswers.{mp_none, mp_above, mp_here}
use Rattle.state.proofs.fields.mp_of.Goals as goal

pub returns-in_default : goal.returns-in_default
returns-in_default c = rw c.in_default.is (mp_none _ _)

pub returns-then-level-gt7 : goal.returns-then-level-gt7
returns-then-level-gt7 c = rw c.in-Some.is (mp_above _ _ _ c.if-level-gt7.true)

pub returns : goal.returns
returns c = rw c.in-Some.is (mp_here _ _ _ c.if-level-gt7.false c.wide.ensures.0)
