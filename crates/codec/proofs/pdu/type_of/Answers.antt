use Rattle.codec.specs.Request.{type_of, octet}
use Rattle.codec.proofs.pdu.type_of.Goals as goal

pub returns : goal.returns
unfolding type_of octet
returns c = c.octet_at.ensures
