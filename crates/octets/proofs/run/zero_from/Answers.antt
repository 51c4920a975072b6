use mathlib.Core.Path.{sym, ◌∙◌}
use native.Mathlib.Omega.{arith}
use Rattle.octets.proofs.Zero.{zero_turn, zero_end}
use Rattle.octets.proofs.run.zero_from.Goals as goal

pub loop-i-preserved : goal.loop-i-preserved
loop-i-preserved c =
    let l : _ = c.loop-i in
    zero_turn c.args.s.now l.i l.acc (omega arith) ∙ l.invariant

pub returns : goal.returns
returns c =
    let l : _ = c.loop-i in
    sym (zero_end c.args.s.now l.i l.acc (omega arith)) ∙ l.invariant
