use native.Mathlib.Omega.{arith}
use Rattle.plan.specs.Line.{tab}
use Rattle.events.proofs.Puts.{put_more}
use Rattle.events.proofs.Ends.{decimal_end}
use Rattle.events.proofs.numbers.put_number.Goals as goal

pub bounds-out-behind : goal.bounds-out-behind
bounds-out-behind c =
    omega (arith, decimal_end c.args.x c.put_decimal-behind.ensures)

pub returns : goal.returns
returns c =
    let d : _ = c.put_decimal-behind.ensures in
    put_more tab d (omega (arith, decimal_end c.args.x d))

pub overflow_add-result : goal.overflow_add-result
overflow_add-result c = omega (arith, bounds-out-behind c)
