use mathlib.Core.Path.{sym, ◌∙◌}
use mathlib.Core.Bool.{and-true}
use Prim.Native.Nat.{◌*◌}
use native.Mathlib.Omega.{arith}
use lib.Dec.{leb}
use lib.ListN.{get_or}
use lib.Seq.{get_or-drop}
use borrow.Author.Tests.{le-leb}
use Rattle.state_tables.specs.Pass.{port_fits, ok_ports}
use Rattle.state_tables.proofs.TurnLaws.{ok_start, ok_end, ok_bad, ok_next, ok_done, none_behind}
use Rattle.state_tables.proofs.PortTest.{not_none}
use Rattle.state_tables.proofs.ports.ports_fit.Goals as goal

pub loop-i-init : goal.loop-i-init
loop-i-init c = ok_start port_fits (λ last l. get_or l 7 0) (leb 1) 16 8 0 c.args.t.now

pub returns-else-last-ne0 : goal.returns-else-last-ne0
unfolding ok_ports
returns-else-last-ne0 c =
    let l : _ = c.loop-i in
    rw c.if-last-ne0.false (rw c.if-last-ne0.false at (ok_end l.invariant (omega arith) c.low8.ensures c.if-low8-eq0.true))

pub rest_zero-requires : goal.rest_zero-requires
rest_zero-requires c = (omega arith, (omega arith, (omega arith, omega arith)))

pub returns-then-last-ne0 : goal.returns-then-last-ne0
unfolding ok_ports
returns-then-last-ne0 c =
    let l : _ = c.loop-i in
    c.rest_zero.ensures
    ∙ (rw (le-leb 1 l.last (omega arith)) at (ok_end l.invariant (omega arith) c.low8.ensures c.if-low8-eq0.true))

pub loop-i-preserved : goal.loop-i-preserved
loop-i-preserved c =
    let l : _ = c.loop-i in
    ok_next l.invariant (omega arith) c.low8.ensures c.if-low8-eq0.false
    (sym c.port_fits.ensures ∙ c.if-not-port_fits.false)
    (get_or-drop (l.i * 16) c.args.t.now 7 0)

pub returns-then-not-port_fits : goal.returns-then-not-port_fits
unfolding ok_ports
returns-then-not-port_fits c =
    ok_bad c.loop-i.invariant (omega arith) c.low8.ensures
    c.if-low8-eq0.false (sym c.port_fits.ensures ∙ c.if-not-port_fits.true)

pub returns : goal.returns
unfolding ok_ports
returns c =
    let l : _ = c.loop-i in
    rw not_none
    (rw (none_behind c.args.t.now 128 (omega arith), and-true) at (ok_done l.invariant (omega arith)))
