use mathlib.Core.Path.{sym, ◌∙◌}
use native.Mathlib.Omega.{arith}
use Rattle.plan_lines.proofs.Digits.{hex_turn, hex_none, hex_end, hex_fits}
use Rattle.plan_lines.proofs.fields.hex_of.Goals as goal

pub returns-in_err-d : goal.returns-in_err-d
returns-in_err-d c =
    let l : _ = c.loop-x in
    c.from_residual.ensures ∙ hex_none c.args.f.now l.x-index l.so c.loop-x-test.true (sym c.value_of.ensures ∙ c.in_err-d.was) ∙ l.invariant.1

pub loop-x-preserved : goal.loop-x-preserved
loop-x-preserved c =
    let l : _ = c.loop-x in
    let turn : _ = hex_turn c.args.f.now l.x-index l.so c.loop-x-test.true (sym c.value_of.ensures ∙ c.in_ok-d.was) in
    let fits : _ = hex_fits l.x-index l.so c.in_ok-d.d (omega arith) l.invariant.0 turn.1 in
    rw c.from.ensures (fits.0, turn.0 ∙ l.invariant.1)

pub returns : goal.returns
returns c =
    let l : _ = c.loop-x in
    hex_end c.args.f.now l.x-index l.so (omega arith) ∙ l.invariant.1
