use mathlib.Core.Bool.{◌||◌, and-true, and-false}
use lib.Dec.{eqb}
use borrow.Author.Tests.{eq-eqb, ne_eqb}
use Rattle.codec_replies.specs.Reply.{carries_timer}
use Rattle.codec_replies.proofs.answer.carries_timer.Goals as goal

pub returns-then-kind-eq-ACTIVATE : goal.returns-then-kind-eq-ACTIVATE
unfolding carries_timer
returns-then-kind-eq-ACTIVATE c = simp (eq-eqb _ _ c.if-kind-eq-ACTIVATE.true, ne_eqb _ _ c.if-code-ne-MALFORMED.true)

pub returns-else-kind-eq-ACTIVATE : goal.returns-else-kind-eq-ACTIVATE
unfolding carries_timer
returns-else-kind-eq-ACTIVATE c =
    simp (ne_eqb _ _ c.if-kind-eq-ACTIVATE.false, ne_eqb _ _ c.if-code-ne-MALFORMED.true, and-true (eqb c.args.kind 3))

pub returns-else-code-ne-MALFORMED : goal.returns-else-code-ne-MALFORMED
unfolding carries_timer
returns-else-code-ne-MALFORMED c = simp (eq-eqb _ _ c.if-code-ne-MALFORMED.false, and-false (eqb c.args.kind 1 || eqb c.args.kind 3))
