use mathlib.Core.Path.{◌∙◌}
use Rattle.octets.proofs.Words.{low_2}
use Rattle.octets.proofs.low.low2.Goals as goal

pub returns : goal.returns
returns c = c.from_le_bytes.ensures ∙ low_2 c.args.at c.args.s.now
