use mathlib.Core.Path.{sym}
use native.Mathlib.Omega.{arith}
use Rattle.std.proofs.Common.{rules}
use Rattle.state.proofs.FindLaws.{find_end, find_hit, find_next, find_done}
use Rattle.state.proofs.RowFound.{none_found, some_found}
use Rattle.state.proofs.rows.find_row.Goals as goal

pub returns-then-low8-eq0 : goal.returns-then-low8-eq0
returns-then-low8-eq0 g c = λ test agrees.
    none_found (find_end (c.loop-i.invariant test agrees) (omega arith) c.low8.ensures c.if-low8-eq0.true)

pub returns-then-passes : goal.returns-then-passes
returns-then-passes g c = λ test agrees.
    some_found
    (find_hit (c.loop-i.invariant test agrees) (omega arith) c.low8.ensures
    c.if-low8-eq0.false (sym (agrees _ _ (search rules) c.if-passes.ensures)))
    (λ z. omega arith)

pub loop-i-preserved : goal.loop-i-preserved
loop-i-preserved g c = λ test agrees.
    find_next (c.loop-i.invariant test agrees) (omega arith) c.low8.ensures
    c.if-low8-eq0.false (sym (agrees _ _ (search rules) c.if-passes.ensures))

pub returns : goal.returns
returns g c = λ test agrees. none_found (find_done (c.loop-i.invariant test agrees) (omega arith))
