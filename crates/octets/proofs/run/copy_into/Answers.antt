use mathlib.Core.Path.{◌≡◌, refl, ◌∙◌}
use native.Mathlib.Omega.{arith}
use lib.ListN.{length}
use lib.Seq.{take-length}
use Rattle.octets.proofs.Over.{copy_more}
use Rattle.octets.proofs.run.copy_into.Goals as goal

pub loop-i-init : goal.loop-i-init
loop-i-init c = (omega arith, refl)

pub loop-i-preserved : goal.loop-i-preserved
loop-i-preserved c =
    let a : _ = c.args in
    let l : _ = c.loop-i in
    let more : _ = copy_more a.out.now a.src.now l.i (omega arith) (omega arith) in
    (omega arith, rw l.invariant.1 more)

pub returns : goal.returns
returns c =
    let a : _ = c.args in
    let e : c.loop-i.i ≡ length a.src.now = omega arith in
    c.loop-i.invariant.1 ∙ rw (e, take-length)
