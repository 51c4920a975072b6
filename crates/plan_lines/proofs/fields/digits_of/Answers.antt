use mathlib.Core.Path.{sym, ◌∙◌}
use native.Mathlib.Omega.{arith}
use Rattle.plan_lines.proofs.Digits.{digits_turn, digits_other, digits_none, digits_end}
use Rattle.plan_lines.proofs.fields.digits_of.Goals as goal

pub returns-in_err-d : goal.returns-in_err-d
returns-in_err-d c =
    let l : _ = c.loop-x in
    c.from_residual.ensures ∙ digits_none c.args.f.now l.x-index l.so c.loop-x-test.true (sym c.value_of.ensures ∙ c.in_err-d.was) c.args.most ∙ l.invariant.1

pub returns-then-d-ge10 : goal.returns-then-d-ge10
returns-then-d-ge10 c =
    let l : _ = c.loop-x in
    digits_other c.args.f.now l.x-index l.so c.loop-x-test.true (sym c.value_of.ensures ∙ c.in_ok-d.was) c.args.most c.if-d-ge10.true ∙ l.invariant.1

pub loop-x-preserved : goal.loop-x-preserved
loop-x-preserved c =
    let l : _ = c.loop-x in
    let turn : _ = digits_turn c.args.f.now l.x-index l.so c.loop-x-test.true (sym c.value_of.ensures ∙ c.in_ok-d.was) c.args.most c.if-d-ge10.false in
    (omega (arith, c.min-so.ensures), rw (c.min-so.ensures, c.from.ensures) turn ∙ l.invariant.1)

pub returns : goal.returns
returns c =
    let l : _ = c.loop-x in
    digits_end c.args.most c.args.f.now l.x-index l.so (omega arith) l.invariant.0 ∙ l.invariant.1
