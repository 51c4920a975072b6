use native.Mathlib.Nat.{div-one}
use Rattle.octets.specs.Octets.{octets}
use Rattle.octets.proofs.number.octets2.Goals as goal

pub returns : goal.returns
unfolding octets
returns c = rw (c.to_be_bytes.ensures, div-one)
