use mathlib.Core.Path.{refl, ◌∙◌}
use native.Mathlib.Omega.{arith}
use borrow.Author.Rules.{rules}
use Rattle.events_shift.proofs.ServeLaws.{serving_start, serving_turn, served_full, served_all}
use Rattle.events_shift.proofs.serve.serve_lines.Goals as goal

pub loop-out-init : goal.loop-out-init
loop-out-init c =
    let a : _ = c.args in
    (serving_start a.image.now a.buffer.now a.from a.number a.out.now c.requires.0, (refl, refl))

pub overflow_sub-out : goal.overflow_sub-out
overflow_sub-out c = omega (arith, c.loop-out.invariant.0.room)

pub end_of-end-requires : goal.end_of-end-requires
end_of-end-requires c = c.loop-out.invariant.0.inside

pub returns-then-end-buffer : goal.returns-then-end-buffer
returns-then-end-buffer c =
    let e : _ = c.end_of-end.ensures in
    served_all _ _ _ _ _ c.loop-out.invariant.0 e.0 e.1.0 c.if-end-buffer.true

pub step-requires : goal.step-requires
step-requires c =
    let l : _ = c.loop-out in
    (l.invariant.1.1 ∙ c.requires.1.1, omega (arith, c.loop-out-test.true, l.invariant.0.room))

pub overflow_add-turn : goal.overflow_add-turn
overflow_add-turn c =
    let l : _ = c.loop-out in
    omega (arith, l.invariant.0.few, c.requires.1.0, c.if-end-buffer.false, c.end_of-end.ensures)

pub loop-out-preserved : goal.loop-out-preserved
loop-out-preserved c =
    let e : _ = c.end_of-end.ensures in
    let l : _ = c.loop-out in (
      serving_turn _ _ _ _ _ l.invariant.0 e.0 e.1.0 (omega (arith, e.1.1, c.if-end-buffer.false))
          c.loop-out-test.true c.step.ensures (search rules),
      (search rules, search rules),
    )

pub returns : goal.returns
returns c = served_full _ _ _ _ _ c.loop-out.invariant.0 c.loop-out-test.false

pub shape_of-image-then-end-buffer : goal.shape_of-image-then-end-buffer
shape_of-image-then-end-buffer c = c.loop-out.invariant.1.0

pub shape_of-sent-then-end-buffer : goal.shape_of-sent-then-end-buffer
shape_of-sent-then-end-buffer c = c.loop-out.invariant.1.1

pub shape_of-out-then-end-buffer : goal.shape_of-out-then-end-buffer
shape_of-out-then-end-buffer c = c.loop-out.invariant.0.long

pub shape_of-image : goal.shape_of-image
shape_of-image c = c.loop-out.invariant.1.0

pub shape_of-sent : goal.shape_of-sent
shape_of-sent c = c.loop-out.invariant.1.1

pub shape_of-out : goal.shape_of-out
shape_of-out c = c.loop-out.invariant.0.long
