use Rattle.octets.specs.Octets.{octets}
use Rattle.codec_replies.specs.Reply.{timer_tlv}
use Rattle.codec_replies.proofs.reply.put_timer.Goals as goal

pub returns : goal.returns
unfolding timer_tlv octets
returns c = rw c.octets4-s.ensures at c.copy_into.ensures
