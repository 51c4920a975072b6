use mathlib.Core.Path.{sym, ◌∙◌}
use mathlib.Core.Bool.{true}
use native.Mathlib.Omega.{arith}
use Rattle.octets.specs.Octets.{low_number}
use Rattle.state_tables.proofs.TurnLaws.{ok_start, ok_end, ok_bad, ok_next, ok_done}
use Rattle.state_valid.specs.Sessions.{session_fits, ok_sessions}
use Rattle.state_valid.proofs.sessions.sessions_fit.Goals as goal

pub loop-i-init : goal.loop-i-init
loop-i-init c =
    let a : _ = c.args in
    ok_start (session_fits a.b.now) (λ last l. low_number 8 l) (λ last. true) 32 16 0 a.t.now

pub rest_zero-requires : goal.rest_zero-requires
rest_zero-requires c = (omega arith, omega arith)

pub returns-then-key-eq0 : goal.returns-then-key-eq0
unfolding ok_sessions
returns-then-key-eq0 c =
    c.rest_zero.ensures
    ∙ ok_end c.loop-i.invariant (omega arith) c.low8-key.ensures c.if-key-eq0.true

pub session_fits-requires : goal.session_fits-requires
session_fits-requires c = omega arith

pub loop-i-preserved : goal.loop-i-preserved
loop-i-preserved c =
    let k : _ = c.low8-key.ensures in
    ok_next c.loop-i.invariant (omega arith) k c.if-key-eq0.false
    (sym c.session_fits.ensures ∙ c.if-not-session_fits.false) (sym k)

pub returns-then-not-session_fits : goal.returns-then-not-session_fits
unfolding ok_sessions
returns-then-not-session_fits c =
    ok_bad c.loop-i.invariant (omega arith) c.low8-key.ensures
    c.if-key-eq0.false (sym c.session_fits.ensures ∙ c.if-not-session_fits.true)

pub rest_zero-requires-2 : goal.rest_zero-requires-2
rest_zero-requires-2 c = (omega arith, omega arith)

pub returns : goal.returns
unfolding ok_sessions
returns c = c.rest_zero-2.ensures ∙ ok_done c.loop-i.invariant (omega arith)
