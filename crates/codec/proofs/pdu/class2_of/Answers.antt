use native.Mathlib.Omega.{arith}
use Rattle.codec.specs.Request.{class2}
use Rattle.codec.proofs.pdu.class2_of.Goals as goal

pub returns : goal.returns
unfolding class2
returns c = omega arith
