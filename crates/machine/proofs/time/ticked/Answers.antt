use Rattle.machine.specs.Time.{ticked}
use Rattle.machine.specs.Table.{action_at, condition_at, event_at}
use Rattle.machine.specs.Machine.{is_open}
use Rattle.std.proofs.Common.{eq-eqb, ne_eqb, le-leb}
use borrow.Author.Tests.{lt-leb}
use Rattle.machine.proofs.time.ticked.Goals as goal

pub returns-then-s-ne0 : goal.returns-then-s-ne0
unfolding ticked is_open
returns-then-s-ne0 c = rw (ne_eqb _ _ c.if-s-ne0.true)

pub returns-then-left-passed : goal.returns-then-left-passed
unfolding ticked is_open action_at condition_at event_at
returns-then-left-passed c =
    rw (eq-eqb _ _ c.if-s-ne0.false, le-leb _ _ c.if-left-passed.true, ← c.action.ensures) c.closed_by.ensures

pub returns : goal.returns
unfolding ticked is_open
returns c = rw (eq-eqb _ _ c.if-s-ne0.false, lt-leb _ _ c.if-left-passed.false) c.lasting.ensures
