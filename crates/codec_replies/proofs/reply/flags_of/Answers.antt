use native.Mathlib.Nat.{add-zero}
use Rattle.codec_replies.specs.Reply.{flags_by}
use Rattle.codec_replies.proofs.reply.flags_of.Goals as goal

pub returns-then-copied : goal.returns-then-copied
unfolding flags_by
returns-then-copied c = rw (c.if-copied.true, ← c.active_flags-flags.ensures.0)

pub returns-else-copied : goal.returns-else-copied
unfolding flags_by
returns-else-copied c = rw (c.if-copied.false, add-zero) c.active_flags-flags.ensures.0
