use native.Mathlib.Omega.{arith}
use borrow.Author.Tests.{ne_eqb}
use Rattle.state.proofs.Inside.{numbered_fits}
use Rattle.state.proofs.RowFound.{found_none, found_some, found_there}
use Rattle.state_valid.specs.Sessions.{good_in}
use Rattle.state_valid.proofs.SessionTest.{numbered_flow}
use Rattle.state_valid.proofs.sessions.good_in.Goals as goal

pub returns-in_default : goal.returns-in_default
unfolding good_in
returns-in_default c = rw (← found_none c.in_default.ensures)

pub good_at-requires : goal.good_at-requires
good_at-requires c =
    let a : _ = c.args in
    let e : _ = found_some c.in-Some.ensures in
    let some : _ = found_there _ c.in-Some.ensures in
    let fits : _ = numbered_fits a.b.now a.x.flow e in
    (omega arith, (omega (arith, fits), numbered_flow a.b.now e some))

pub returns : goal.returns
unfolding good_in
returns c =
    rw (← found_some c.in-Some.ensures, ne_eqb _ _ (found_there _ c.in-Some.ensures)) c.good_at.ensures
