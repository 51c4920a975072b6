use mathlib.Core.Path.{refl}
use Prim.Native.Nat.{◌+◌}
use native.Mathlib.Omega.{arith}
use lib.Bits.{bit_and, and_le_r}
use Rattle.state_tables.specs.Pass.{marks_of}
use Rattle.state_tables.proofs.flows.marks_of.Goals as goal

pub overflow_add-result : goal.overflow_add-result
overflow_add-result c = omega (arith, and_le_r c.args.mps 0x0303030303030303)

pub returns : goal.returns
unfolding marks_of
returns c = (refl, and_le_r (bit_and c.args.mps 0x0303030303030303 + 0x0303030303030303) 0x0404040404040404)
