use native.Mathlib.Omega.{arith}
use Rattle.plan.specs.Line.{lf}
use Rattle.events.proofs.Puts.{put_more}
use Rattle.events.proofs.Ends.{hex_end}
use Rattle.events.proofs.answers.put_last.Goals as goal

pub bounds-out-behind : goal.bounds-out-behind
bounds-out-behind c =
    let h : _ = c.put_hex-behind.ensures in
    omega (arith, hex_end c.args.octets.now h)

pub returns : goal.returns
returns c =
    let h : _ = c.put_hex-behind.ensures in
    put_more lf h (omega (arith, hex_end c.args.octets.now h))

pub overflow_add-result : goal.overflow_add-result
overflow_add-result c = omega (arith, bounds-out-behind c)
