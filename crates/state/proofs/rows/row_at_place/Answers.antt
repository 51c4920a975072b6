use native.Mathlib.Omega.{arith}
use borrow.Author.Tests.{le-leb, lt-leb}
use Rattle.octets.specs.Lists.{within}
use Rattle.state.specs.Rows.{row_at_place}
use Rattle.state.proofs.RowFound.{some_found}
use Rattle.state.proofs.rows.row_at_place.Goals as goal

pub returns-then-place-lt1 : goal.returns-then-place-lt1
unfolding row_at_place within
returns-then-place-lt1 c = simp (lt-leb 1 _ c.if-place-lt1.true)

pub returns-then-place-gt-LAST_PLACE : goal.returns-then-place-gt-LAST_PLACE
unfolding row_at_place within
returns-then-place-gt-LAST_PLACE c = simp (le-leb 1 _ c.if-place-lt1.false, lt-leb _ 32 c.if-place-gt-LAST_PLACE.true)

pub returns : goal.returns
unfolding row_at_place within
returns c =
    some_found
    (simp (le-leb 1 _ c.if-place-lt1.false, le-leb _ 32 c.if-place-gt-LAST_PLACE.false, c.wide.ensures.0))
    (λ z. omega arith)
