use mathlib.Core.Path.{refl}
use Prim.Native.Nat.{◌≤◌}
use native.Mathlib.Omega.{arith}
use Rattle.state.proofs.Inside.{session_fits_lem}
use Rattle.state.proofs.RowFound.{if_found}
use Rattle.calls_requests.proofs.Stored.{Keeps, keeps_active, same_left, closed_left, kept_left}
use Rattle.calls_requests.proofs.decision.change_session.Goals as goal

pub remove_session-requires : goal.remove_session-requires
remove_session-requires c =
    let p : _ = c.requires.valid in
    if_found (λ at. at ≤ 2016) p.1 (omega (arith, session_fits_lem c.args.b.now c.args.key refl))

pub put_session-requires : goal.put_session-requires
put_session-requires c =
    let keeps : Keeps c.args.change c.in-Opened.x = c.in-Opened.is in
    let f : _ = c.requires.placed c.in-Opened.x (keeps_active keeps) in
    (f.source_fits, f.found)

pub returns-in-Same : goal.returns-in-Same
returns-in-Same c =
    same_left _ c.requires.valid.0 c.args.key c.in-Same.is

pub returns-in-Closed : goal.returns-in-Closed
returns-in-Closed c =
    closed_left _ c.requires.valid.0 c.args.key c.in-Closed.is c.requires.valid.1 c.remove_session.ensures

pub returns-in-Opened : goal.returns-in-Opened
returns-in-Opened c =
    let keeps : Keeps c.args.change c.in-Opened.x = c.in-Opened.is in
    let f : _ = c.requires.placed c.in-Opened.x (keeps_active keeps) in
    kept_left _ c.requires.valid.0 c.args.key _ c.put_session.ensures f.room keeps
