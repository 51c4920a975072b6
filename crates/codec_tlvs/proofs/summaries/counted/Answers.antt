use mathlib.Core.Path.{sym, ◌∙◌}
use Rattle.std.proofs.lemmas.Result.{err_from_is_err_and}
use borrow.Author.Tests.{eq-eqb, ne_eqb}
use Rattle.codec_tlvs.specs.Walk.{count}
use Rattle.codec_tlvs.proofs.summaries.counted.Goals as goal

pub returns-then-is_unknown : goal.returns-then-is_unknown
unfolding count
returns-then-is_unknown c = simp (sym c.is_unknown.ensures ∙ c.if-is_unknown.true)

pub returns-then-kind-ne-TIMER : goal.returns-then-kind-ne-TIMER
unfolding count
returns-then-kind-ne-TIMER c =
    simp (
      sym c.is_unknown.ensures ∙ c.if-is_unknown.false,
      ne_eqb _ _ c.if-kind-ne-TIMER.true,
    )

pub returns-in_err-timer_of : goal.returns-in_err-timer_of
unfolding count
returns-in_err-timer_of c =
    let p = err_from_is_err_and c.from_residual.result c.from_residual.ensures.1 in
    rw p.1
    (simp (
      sym c.is_unknown.ensures ∙ c.if-is_unknown.false,
      eq-eqb _ _ c.if-kind-ne-TIMER.false,
      sym c.timer_of.ensures ∙ c.in_err-timer_of.was,
    ))

pub returns : goal.returns
unfolding count
returns c =
    simp (
      sym c.is_unknown.ensures ∙ c.if-is_unknown.false,
      eq-eqb _ _ c.if-kind-ne-TIMER.false,
      sym c.timer_of.ensures ∙ c.in_ok-timer_of.was,
      c.with_timer.ensures,
    )
