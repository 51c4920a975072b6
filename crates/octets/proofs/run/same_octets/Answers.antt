use mathlib.Core.Path.{refl, sym, ◌∙◌}
use native.Mathlib.Omega.{arith}
use Rattle.octets.proofs.Same.{other_length, same_turn, same_other, same_end}
use Rattle.octets.proofs.run.same_octets.Goals as goal

pub returns-then-a-b : goal.returns-then-a-b
returns-then-a-b c = sym (other_length c.args.a.now c.args.b.now c.if-a-b.true)

pub loop-i-init : goal.loop-i-init
loop-i-init c = refl

pub returns-then-a-i : goal.returns-then-a-i
returns-then-a-i c =
    let a : _ = c.args in
    let l : _ = c.loop-i in
    sym (same_other a.a.now a.b.now l.i (omega arith) (omega arith) c.if-a-i.true) ∙ l.invariant

pub loop-i-preserved : goal.loop-i-preserved
loop-i-preserved c =
    let a : _ = c.args in
    let l : _ = c.loop-i in
    same_turn a.a.now a.b.now l.i (omega arith) (omega arith) c.if-a-i.false ∙ l.invariant

pub returns : goal.returns
returns c =
    let a : _ = c.args in
    let l : _ = c.loop-i in
    sym (same_end a.a.now a.b.now l.i (omega arith) (omega arith)) ∙ l.invariant
