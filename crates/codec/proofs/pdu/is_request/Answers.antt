use Rattle.codec.specs.Request.{opcode_of, octet}
use Rattle.codec.proofs.pdu.is_request.Goals as goal

pub returns : goal.returns
unfolding opcode_of octet
returns c = rw c.octet_at.ensures
