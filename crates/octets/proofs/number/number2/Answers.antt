use mathlib.Core.Path.{◌∙◌}
use native.Mathlib.Omega.{arith}
use Rattle.octets.proofs.Words.{high_2}
use Rattle.octets.proofs.number.number2.Goals as goal

pub returns : goal.returns
returns c = (c.from.ensures ∙ c.from_be_bytes.ensures ∙ high_2 c.args.at c.args.s.now, omega arith)
