use mathlib.Core.Path.{◌≡◌, refl, ◌∙◌}
use Prim.Native.Nat.{◌+◌, ◌*◌}
use native.Mathlib.Omega.{arith}
use lib.ListN.{length, length-set}
use lib.Seq.{take-length}
use Rattle.events.specs.Event.{unhexed}
use Rattle.events.proofs.HexDigits.{digit_at, unhexed_length, unhexed_turn}
use Rattle.events.proofs.digits.unhex.Goals as goal

pub loop-i-init : goal.loop-i-init
loop-i-init c = (refl, refl)

pub value_of-requires : goal.value_of-requires
value_of-requires c =
    digit_at c.args.f.now c.requires.0 (2 * c.loop-i.i) (omega arith)

pub value_of-requires-in-loop-i : goal.value_of-requires-in-loop-i
value_of-requires-in-loop-i c =
    digit_at c.args.f.now c.requires.0 (2 * c.loop-i.i + 1) (omega arith)

pub loop-i-preserved : goal.loop-i-preserved
loop-i-preserved c =
    let a : _ = c.args in
    let l : _ = c.loop-i in
    let high : _ = c.value_of.ensures.0 in
    let low : _ = c.value_of-in-loop-i.ensures.0 in
    let turn : _ = unhexed_turn a.f.now a.room.now l.i (omega arith) (omega arith) high low in
    (simp length-set l.invariant.0, rw l.invariant.1 turn)

pub returns : goal.returns
returns c =
    let f : _ = c.args.f.now in
    let l : _ = c.loop-i in
    let e : l.i ≡ length (unhexed f) = omega (arith, unhexed_length f) in
    l.invariant.1 ∙ rw (e, take-length)
