use mathlib.Core.Path.{refl}
use native.Mathlib.Omega.{arith}
use lib.ListN.{length-set}
use Rattle.plan.proofs.WrittenText.{decimal_short}
use Rattle.events.specs.AnswerLine.{in_decimal}
use Rattle.events.proofs.Decimals.{place_before, spelling_none, spelling_more, spelling_first, spelling_put}
use Rattle.events.proofs.numbers.put_decimal.Goals as goal

pub loop-rest-init : goal.loop-rest-init
loop-rest-init c = spelling_none _ _ (omega arith) refl

pub overflow_sub-i-in-loop-rest : goal.overflow_sub-i-in-loop-rest
overflow_sub-i-in-loop-rest c = place_before c.loop-rest.invariant c.loop-rest-test.true

pub loop-rest-smaller : goal.loop-rest-smaller
loop-rest-smaller c = omega (arith, place_before c.loop-rest.invariant c.loop-rest-test.true)

pub loop-rest-preserved : goal.loop-rest-preserved
loop-rest-preserved c = spelling_more c.loop-rest.invariant c.loop-rest-test.true

pub put_at-requires : goal.put_at-requires
put_at-requires c =
    let a : _ = c.args in
    let l : _ = c.loop-rest in
    rw (spelling_first l.invariant (omega arith)) (omega (arith, decimal_short 20 a.x))

pub returns : goal.returns
unfolding in_decimal
returns c =
    let l : _ = c.loop-rest in
    spelling_put l.invariant (omega arith) c.put_at.ensures

pub slice_bounds-put_at-end : goal.slice_bounds-put_at-end
slice_bounds-put_at-end c = simp length-set (omega arith)
