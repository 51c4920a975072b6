use mathlib.Core.Path.{◌≡◌}
use native.Mathlib.Omega.{arith}
use Rattle.octets.proofs.MoveLaws.{down_turn, down_none}
use Rattle.octets.proofs.moves.move_down.Goals as goal

pub loop-i-init : goal.loop-i-init
loop-i-init c = (omega arith, down_none _ _ _)

pub loop-i-preserved : goal.loop-i-preserved
loop-i-preserved c =
    let a : _ = c.args in
    let l : _ = c.loop-i in
    let turn : _ = down_turn a.b.now a.by a.low l.i (omega arith) (omega arith) (omega arith) in
    (omega arith, rw l.invariant.1 turn)

pub returns : goal.returns
returns c = let e : c.loop-i.i ≡ c.args.high = omega arith in rw (← e) c.loop-i.invariant.1
