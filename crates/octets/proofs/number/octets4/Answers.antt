use mathlib.Core.Path.{◌∙◌}
use Rattle.octets.specs.Octets.{octets}
use Rattle.octets.proofs.Words.{to_high_4}
use Rattle.octets.proofs.number.octets4.Goals as goal

pub returns : goal.returns
unfolding octets
returns c = rw (c.to_be_bytes.ensures ∙ to_high_4 c.args.x)
