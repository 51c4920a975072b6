use Rattle.octets.specs.Octets.{octets}
use Rattle.codec_replies.specs.Reply.{header}
use Rattle.codec_replies.proofs.reply.put_header.Goals as goal

pub returns : goal.returns
unfolding header octets
returns c = rw c.octets6-m.ensures at c.copy_into.ensures
