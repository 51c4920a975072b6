use mathlib.Core.Path.{sym, ◌∙◌}
use Rattle.tmavolice.proofs.MakeLaws.{make_refused, make_faulty, plan_keeps, make_done}
use Rattle.tmavolice.proofs.make.tmavolice_make.Goals as goal

pub returns-then-image-ne-IMAGE_LENGTH : goal.returns-then-image-ne-IMAGE_LENGTH
returns-then-image-ne-IMAGE_LENGTH c = make_refused _ _ _ c.if-image-ne-IMAGE_LENGTH.true c.told.ensures

pub returns-in-Err : goal.returns-in-Err
returns-in-Err c =
    make_faulty _ _ _ c.if-image-ne-IMAGE_LENGTH.false c.in-Err.fault (sym c.in-Err.is ∙ c.read_plan.ensures)
    (rw c.number.ensures at c.answer_number.ensures)

pub make_image-requires : goal.make_image-requires
make_image-requires c = plan_keeps _ c.in-Ok.records (sym c.in-Ok.is ∙ c.read_plan.ensures)

pub returns-in-Ok : goal.returns-in-Ok
returns-in-Ok c =
    make_done _ _ _ c.if-image-ne-IMAGE_LENGTH.false c.in-Ok.records (sym c.in-Ok.is ∙ c.read_plan.ensures)
    c.make_image.ensures c.answer_number-in-Ok.ensures
