use mathlib.Core.Path.{◌∙◌}
use Rattle.octets.proofs.Words.{low_4}
use Rattle.octets.proofs.low.low4.Goals as goal

pub returns : goal.returns
returns c = c.from_le_bytes.ensures ∙ low_4 c.args.at c.args.s.now
