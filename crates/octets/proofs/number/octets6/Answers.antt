use Rattle.octets.specs.Octets.{octets}
use Rattle.octets.proofs.Round.{octets_cut}
use Rattle.octets.proofs.number.octets6.Goals as goal

pub returns : goal.returns
unfolding octets
returns c = rw (c.octets2.ensures, c.octets4.ensures) (octets_cut 2 4 c.args.x)
