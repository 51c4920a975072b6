use mathlib.Core.Path.{refl}
use native.Mathlib.Omega.{arith}
use Rattle.state_tables.proofs.AddressTurns.{differ_done, differ_end, differ_twice, differ_next}
use Rattle.state_tables.proofs.ports.addresses_differ.Goals as goal

pub loop-i-init : goal.loop-i-init
loop-i-init c = (omega arith, refl)

pub returns-then-low8-eq0 : goal.returns-then-low8-eq0
returns-then-low8-eq0 c =
    let l : _ = c.loop-i in
    differ_end l.i c.args.t.now l.invariant.1 (omega arith)
    c.low8.ensures c.if-low8-eq0.true

pub address_again-requires : goal.address_again-requires
address_again-requires c = (omega arith, omega arith)

pub returns-then-address_again : goal.returns-then-address_again
returns-then-address_again c =
    let l : _ = c.loop-i in
    let t : _ = c.args.t.now in
    differ_twice l.i t l.invariant.1 (omega arith) c.low8.ensures
    c.if-low8-eq0.false c.low6.ensures.0
    c.address_again.ensures c.if-address_again.true

pub loop-i-preserved : goal.loop-i-preserved
loop-i-preserved c =
    let l : _ = c.loop-i in
    let t : _ = c.args.t.now in (
      omega arith,
      differ_next l.i t l.invariant.1 (omega arith) c.low8.ensures
          c.if-low8-eq0.false c.low6.ensures.0
          c.address_again.ensures c.if-address_again.false,
    )

pub returns : goal.returns
returns c =
    let l : _ = c.loop-i in
    differ_done l.i c.args.t.now l.invariant.1 (omega arith)
