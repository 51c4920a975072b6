use Rattle.codec.specs.Request.{octet, offset_of}
use native.Mathlib.Omega.{arith}
use Rattle.codec.proofs.requests.first_tlv.Goals as goal

pub returns : goal.returns
unfolding offset_of octet
returns c = (omega arith, omega arith)
