use mathlib.Core.Path.{◌∙◌}
use native.Mathlib.Omega.{arith}
use Rattle.octets.proofs.Words.{high_4}
use Rattle.octets.proofs.number.number4.Goals as goal

pub returns : goal.returns
returns c = omega (arith, c.from_be_bytes.ensures ∙ high_4 c.args.at c.args.s.now)
