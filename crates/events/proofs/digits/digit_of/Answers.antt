use native.Mathlib.Omega.{arith}
use borrow.Author.Tests.{lt-ltb, le-ltb}
use Rattle.plan.specs.WrittenPlan.{hex_digit}
use Rattle.events.proofs.digits.digit_of.Goals as goal

pub returns-then-d-lt10 : goal.returns-then-d-lt10
unfolding hex_digit
returns-then-d-lt10 c = simp (lt-ltb c.args.d 10 (omega arith))

pub returns-else-d-lt10 : goal.returns-else-d-lt10
unfolding hex_digit
returns-else-d-lt10 c = simp (le-ltb c.args.d 10 (omega arith))
