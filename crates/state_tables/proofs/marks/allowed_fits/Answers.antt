use mathlib.Core.Path.{refl, sym, ◌∙◌}
use native.Mathlib.Omega.{arith}
use Rattle.state_tables.proofs.MarkTurns.{allowed_turn, allowed_end}
use Rattle.state_tables.proofs.marks.allowed_fits.Goals as goal

pub loop-i-init : goal.loop-i-init
loop-i-init c = refl

pub loop-i-preserved : goal.loop-i-preserved
loop-i-preserved c =
    let a : _ = c.args in
    let l : _ = c.loop-i in
    allowed_turn a.allowed.now a.places.now l.i l.bad c.wrong-bad.result (omega arith) (omega arith)
    c.wrong-bad.ensures ∙ l.invariant

pub returns : goal.returns
returns c =
    let a : _ = c.args in
    let l : _ = c.loop-i in
    sym (allowed_end a.allowed.now a.places.now l.i l.bad (omega arith)) ∙ l.invariant

pub wrong-bad-requires : goal.wrong-bad-requires
wrong-bad-requires c = tt
