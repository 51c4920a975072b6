use borrow.Author.Tests.{lt-ltb, le-ltb}
use Rattle.state.specs.State.{full_for}
use Rattle.state.proofs.fields.full_for.Goals as goal

pub returns-then-open_count-lt-MOST_SESSIONS : goal.returns-then-open_count-lt-MOST_SESSIONS
unfolding full_for
returns-then-open_count-lt-MOST_SESSIONS c = λ f. simp (lt-ltb _ _ (rw c.open_count.ensures at c.if-open_count-lt-MOST_SESSIONS.true))

pub returns : goal.returns
unfolding full_for
returns c = λ f. simp (le-ltb _ _ (rw c.open_count.ensures at c.if-open_count-lt-MOST_SESSIONS.false))
