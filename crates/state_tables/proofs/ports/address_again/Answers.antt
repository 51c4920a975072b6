use mathlib.Core.Path.{refl}
use native.Mathlib.Omega.{arith}
use Rattle.state_tables.proofs.AddressTurns.{again_done, again_end, again_hit, again_next}
use Rattle.state_tables.proofs.ports.address_again.Goals as goal

pub loop-i-init : goal.loop-i-init
loop-i-init c = (omega arith, refl)

pub returns-then-low8-eq0 : goal.returns-then-low8-eq0
returns-then-low8-eq0 c =
    let l : _ = c.loop-i in
    let a : _ = c.args in
    again_end a.address l.i a.t.now l.invariant.1 (omega arith) c.low8.ensures c.if-low8-eq0.true

pub returns-then-low6-address : goal.returns-then-low6-address
returns-then-low6-address c =
    let l : _ = c.loop-i in
    let a : _ = c.args in
    again_hit a.address l.i a.t.now l.invariant.1 (omega arith) c.low8.ensures
    c.if-low8-eq0.false c.low6.ensures.0 c.if-low6-address.true

pub loop-i-preserved : goal.loop-i-preserved
loop-i-preserved c =
    let l : _ = c.loop-i in
    let a : _ = c.args in
    let k : _ = c.low8.ensures in
    let more : _ = c.if-low8-eq0.false in (
      omega arith,
      again_next a.address l.i a.t.now l.invariant.1 (omega arith) k more c.low6.ensures.0 c.if-low6-address.false,
    )

pub returns : goal.returns
returns c =
    let l : _ = c.loop-i in
    let a : _ = c.args in
    again_done a.address l.i a.t.now l.invariant.1 (omega arith)
