use Rattle.machine.specs.Machine.{refreshed}
use Rattle.std.proofs.Common.{sym, ◌∙◌}
use Rattle.std.proofs.Common.{arith}
use Rattle.machine.proofs.Laws.{seconds_few}
use Rattle.machine.proofs.request.refreshed.Goals as goal

pub returns-then-not-same_mp : goal.returns-then-not-same_mp
unfolding refreshed
returns-then-not-same_mp c = rw (sym c.same_mp.ensures ∙ c.if-not-same_mp.true) c.answered.ensures

pub returns-then-not-good_seconds : goal.returns-then-not-good_seconds
unfolding refreshed
returns-then-not-good_seconds c = rw (sym c.same_mp.ensures ∙ c.if-not-same_mp.false, sym c.good_seconds.ensures ∙ c.if-not-good_seconds.true) c.answered-then-not-good_seconds.ensures

pub overflow_mul-seconds : goal.overflow_mul-seconds
overflow_mul-seconds c = omega (arith, seconds_few _ (sym c.good_seconds.ensures ∙ c.if-not-good_seconds.false))

pub returns : goal.returns
unfolding refreshed
returns c = rw (sym c.same_mp.ensures ∙ c.if-not-same_mp.false, sym c.good_seconds.ensures ∙ c.if-not-good_seconds.false, c.lasting.ensures)
