use native.Mathlib.Nat.{add_assoc, add-zero}
use native.Mathlib.Omega.{arith}
use lib.Seq.{get_or-drop, drop-drop}
use Rattle.octets.specs.Octets.{low_number}
use Rattle.octets.proofs.low.low8.Goals as goal

pub returns : goal.returns
unfolding low_number
returns c = simp (c.from_le_bytes.ensures, get_or-drop, drop-drop, add_assoc, add-zero) (omega arith)
