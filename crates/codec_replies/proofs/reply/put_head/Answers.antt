use native.Mathlib.Omega.{arith}
use Rattle.codec_replies.proofs.Write.{head_over}
use Rattle.codec_replies.proofs.reply.put_head.Goals as goal

pub returns : goal.returns
returns c =
    let s : _ = c.args in
    head_over s.requester s.from s.tag.now s.out.now
    c.octets6.ensures
    c.octets6-2.ensures
    c.octets2.ensures
    c.put_three-n.ensures
    c.copy_into.ensures
    (omega arith)
