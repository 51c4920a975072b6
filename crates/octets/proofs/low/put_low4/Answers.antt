use mathlib.Core.Path.{◌∙◌}
use Rattle.octets.specs.Octets.{low_octets}
use Rattle.octets.proofs.Words.{to_low_4}
use Rattle.octets.proofs.low.put_low4.Goals as goal

pub returns : goal.returns
unfolding low_octets
returns c = rw (c.put_at.ensures, c.to_le_bytes.ensures ∙ to_low_4 c.args.x)
