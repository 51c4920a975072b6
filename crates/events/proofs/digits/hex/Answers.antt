use mathlib.Core.Path.{◌≡◌, refl, ◌∙◌}
use native.Mathlib.Omega.{arith}
use lib.ListN.{length, length-set}
use lib.Seq.{take-length}
use Rattle.events.specs.AnswerLine.{hexed}
use Rattle.events.proofs.Puts.{put_none}
use Rattle.events.proofs.Hexes.{hex_turn}
use Rattle.events.proofs.digits.hex.Goals as goal

pub loop-i-init : goal.loop-i-init
unfolding hexed
loop-i-init c = (refl, put_none _ _)

pub digit_of-requires : goal.digit_of-requires
digit_of-requires c = omega (arith, c.type_inv.octets c.loop-i.i)

pub loop-i-preserved : goal.loop-i-preserved
loop-i-preserved c =
    let a : _ = c.args in
    let l : _ = c.loop-i in
    let high : _ = c.digit_of.ensures in
    let turn : _ = hex_turn a.octets.now l.i l.invariant.1 (omega arith) (omega arith) high c.digit_of-in-loop-i.ensures in
    (simp length-set l.invariant.0, turn)

pub returns : goal.returns
returns c =
    let a : _ = c.args in
    let l : _ = c.loop-i in
    let e : l.i ≡ length a.octets.now = omega arith in
    l.invariant.1.written ∙ rw (e, take-length)

pub bounds-out-i-in-loop-i : goal.bounds-out-i-in-loop-i
bounds-out-i-in-loop-i c = simp length-set (omega arith)
