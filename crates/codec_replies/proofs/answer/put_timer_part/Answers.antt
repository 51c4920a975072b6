use mathlib.Core.Path.{sym, ◌∙◌}
use Rattle.codec_replies.proofs.Parts.{without_timer, with_timer}
use Rattle.codec_replies.proofs.answer.put_timer_part.Goals as goal

pub returns-then-not-carries_timer : goal.returns-then-not-carries_timer
returns-then-not-carries_timer c =
    let a : _ = c.args in
    without_timer a.kind a.code a.seconds a.out.now (sym c.carries_timer.ensures ∙ c.if-not-carries_timer.true)

pub returns : goal.returns
returns c =
    let a : _ = c.args in
    with_timer a.kind a.code a.seconds a.out.now (sym c.carries_timer.ensures ∙ c.if-not-carries_timer.false) c.put_timer.ensures
