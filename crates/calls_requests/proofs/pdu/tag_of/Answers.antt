use mathlib.Core.Path.{refl, ◌∙◌}
use Prim.Native.Nat.{◌+◌}
use native.Mathlib.Omega.{arith}
use Rattle.octets.specs.Octets.{number}
use Rattle.calls_requests.proofs.Parts.{cut_octet, small, gather}
use Rattle.calls_requests.proofs.pdu.tag_of.Goals as goal

pub loop-x-init : goal.loop-x-init
unfolding number
loop-x-init c = record { met = refl; fits = omega arith }

pub overflow_mul-n : goal.overflow_mul-n
overflow_mul-n c = omega (arith, small c.loop-x.invariant (omega arith))

pub overflow_add-n : goal.overflow_add-n
overflow_add-n c =
    let l : _ = c.loop-x in
    let e : _ = c.from.ensures ∙ cut_octet c.args.frame.now _ l.x-index c.loop-x-test.true in
    omega (arith, small l.invariant (omega arith), (c.type_inv.frame (12 + l.x-index)).fits, e)

pub loop-x-preserved : goal.loop-x-preserved
loop-x-preserved c =
    let l : _ = c.loop-x in
    let e : _ = c.from.ensures ∙ cut_octet c.args.frame.now _ l.x-index c.loop-x-test.true in
    gather l.invariant e (omega (arith, (c.type_inv.frame (12 + l.x-index)).fits, e))
