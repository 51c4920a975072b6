use borrow.Author.Tests.{eq-eqb, ne_eqb}
use Rattle.codec_tlvs.specs.Walk.{timer_of}
use Rattle.codec_tlvs.proofs.summaries.timer_of.Goals as goal

pub returns-then-value-ne-TIMER_LENGTH : goal.returns-then-value-ne-TIMER_LENGTH
unfolding timer_of
returns-then-value-ne-TIMER_LENGTH c = simp (ne_eqb _ _ c.if-value-ne-TIMER_LENGTH.true)

pub returns : goal.returns
unfolding timer_of
returns c = simp (eq-eqb _ _ c.if-value-ne-TIMER_LENGTH.false, c.number4.ensures)
