use native.Mathlib.Omega.{arith}
use Rattle.plan.specs.Line.{tab}
use Rattle.events.proofs.Puts.{put_first, put_more}
use Rattle.events.proofs.numbers.put_word.Goals as goal

pub returns : goal.returns
returns c =
    let a : _ = c.args in
    put_more tab (put_first a.word.now a.at a.out.now c.put_at.ensures) (omega arith)
