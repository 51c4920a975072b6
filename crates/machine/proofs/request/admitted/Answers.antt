use Rattle.machine.specs.Machine.{admitted}
use Rattle.std.proofs.Common.{sym, ◌∙◌}
use Rattle.std.proofs.Common.{arith, eq-eqb, ne_eqb}
use Rattle.machine.proofs.Laws.{seconds_few}
use Rattle.machine.proofs.request.admitted.Goals as goal

pub returns-then-not-good_seconds : goal.returns-then-not-good_seconds
unfolding admitted
returns-then-not-good_seconds c = rw (sym c.good_seconds.ensures ∙ c.if-not-good_seconds.true) c.answered.ensures

pub returns-then-full-ne0 : goal.returns-then-full-ne0
unfolding admitted
returns-then-full-ne0 c = rw (sym c.good_seconds.ensures ∙ c.if-not-good_seconds.false, ne_eqb _ _ c.if-full-ne0.true) (rw c.of.ensures.octet at c.answered-then-full-ne0.ensures)

pub overflow_mul-seconds : goal.overflow_mul-seconds
overflow_mul-seconds c = omega (arith, seconds_few _ (sym c.good_seconds.ensures ∙ c.if-not-good_seconds.false))

pub returns : goal.returns
unfolding admitted
returns c = rw (sym c.good_seconds.ensures ∙ c.if-not-good_seconds.false, eq-eqb _ _ c.if-full-ne0.false, c.lasting.ensures)
