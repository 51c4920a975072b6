use Rattle.state.specs.Rows.{machine_of_row}
use Rattle.state.proofs.Answers.{row_owed, row_open}
use Rattle.state.proofs.fields.machine_at.Goals as goal

pub returns-in_default : goal.returns-in_default
unfolding machine_of_row
returns-in_default c = rw c.in_default.is

pub returns-then-s-ne0 : goal.returns-then-s-ne0
returns-then-s-ne0 c = rw c.in-Some.is (row_owed _ _ c.read_session-s.ensures.0 c.if-s-ne0.true)

pub returns : goal.returns
returns c = rw c.in-Some.is (row_open _ _ c.read_session-s.ensures.0 c.if-s-ne0.false)
