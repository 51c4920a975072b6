use borrow.Author.Tests.{le-leb, lt-leb}
use Rattle.octets.specs.Lists.{within}
use Rattle.state.specs.Rows.{numbered_at}
use Rattle.state.proofs.rows.numbered_at.Goals as goal

pub returns-then-flow-lt1 : goal.returns-then-flow-lt1
unfolding numbered_at within
returns-then-flow-lt1 c = simp (lt-leb 1 _ c.if-flow-lt1.true)

pub returns-then-flow-gt-LAST_FLOW : goal.returns-then-flow-gt-LAST_FLOW
unfolding numbered_at within
returns-then-flow-gt-LAST_FLOW c = simp (le-leb 1 _ c.if-flow-lt1.false, lt-leb _ 32 c.if-flow-gt-LAST_FLOW.true)

pub returns : goal.returns
unfolding numbered_at within
returns c = simp (le-leb 1 _ c.if-flow-lt1.false, le-leb _ 32 c.if-flow-gt-LAST_FLOW.false, c.row_at_place.ensures)
