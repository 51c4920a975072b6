use mathlib.Core.Path.{◌≡◌, ◌∙◌}
use Prim.Native.Nat.{◌+◌, ◌*◌}
use native.Mathlib.Omega.{arith}
use Rattle.octets.proofs.Zero.{word_turn}
use Rattle.octets.proofs.run.all_zero.Goals as goal

pub loop-i-preserved : goal.loop-i-preserved
loop-i-preserved c =
    let l : _ = c.loop-i in
    let s : _ = c.args.s.now in
    let on : (l.i + 1) * 8 ≡ l.i * 8 + 8 = omega arith in
    rw on (word_turn 8 s (l.i * 8) l.acc c.low8-acc.ensures ∙ l.invariant)
