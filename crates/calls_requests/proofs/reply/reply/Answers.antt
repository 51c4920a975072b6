use native.Mathlib.Omega.{arith}
use Rattle.codec_replies.specs.Reply.{reply_of}
use Rattle.calls_requests.proofs.Answered.{reply_small, reply_served}
use Rattle.calls_requests.proofs.reply.reply.Goals as goal

pub overflow_cast-n : goal.overflow_cast-n
overflow_cast-n c =
    let a : _ = c.args in
    omega (
      arith,
      reply_small a.a.taglen a.a.heading.source a.a.replier a.copies a.frame.now _ (omega arith)
          c.put_reply_frame-n.ensures.0 c.requires.in_bounds.1.1,
    )

pub returns : goal.returns
unfolding reply_of
returns c =
    λ s.
    rw (← c.octet.ensures)
    (reply_served _ _ _ _ _ _ (omega arith) c.put_reply_frame-n.ensures.0 c.args.on c.put_reply_frame-n.ensures.1
    c.answer_of.ensures s)
