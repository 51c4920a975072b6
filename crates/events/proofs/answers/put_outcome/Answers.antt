use native.Mathlib.Omega.{arith}
use Rattle.events.proofs.Ends.{outcome_long}
use Rattle.events.proofs.answers.put_outcome.Goals as goal

pub put_word-requires : goal.put_word-requires
put_word-requires c = rw c.word_of.ensures (omega (arith, outcome_long c.args.outcome))

pub returns : goal.returns
returns c = rw (c.word_of.ensures) at c.put_word.ensures
