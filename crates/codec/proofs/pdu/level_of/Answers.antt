use borrow.Author.Rules.{rules}
use Rattle.codec.specs.Request.{level_of, octet}
use Rattle.codec.proofs.pdu.level_of.Goals as goal

pub returns : goal.returns
unfolding level_of octet
returns c = search rules
