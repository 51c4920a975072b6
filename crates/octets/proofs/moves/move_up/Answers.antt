use mathlib.Core.Path.{◌≡◌}
use Prim.Native.Nat.{◌+◌, ◌-◌}
use native.Mathlib.Omega.{arith}
use Rattle.octets.proofs.MoveLaws.{up_next, up_none}
use Rattle.octets.proofs.moves.move_up.Goals as goal

pub loop-moved-init : goal.loop-moved-init
loop-moved-init c =
    let a : _ = c.args in
    let all : a.high - 0 ≡ a.high = omega arith in
    (omega arith, rw all (up_none a.b.now a.by a.high))

pub loop-moved-preserved : goal.loop-moved-preserved
loop-moved-preserved c =
    let a : _ = c.args in
    let l : _ = c.loop-moved in
    let top : a.high - 1 - l.moved ≡ a.high - l.moved - 1 = omega arith in
    let left : a.high - (l.moved + 1) ≡ a.high - l.moved - 1 = omega arith in (
      omega arith,
      rw (top, left) (up_next a.b.now a.by a.high (a.high - l.moved) (omega arith) (omega arith) (omega arith) l.invariant.1),
    )

pub returns : goal.returns
returns c =
    let a : _ = c.args in
    let end : a.high - c.loop-moved.moved ≡ a.low = omega arith in
    rw end at c.loop-moved.invariant.1
