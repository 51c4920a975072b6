use native.Mathlib.Omega.{arith}
use Rattle.codec_replies.proofs.Write.{to_group_lem, to_one}
use Rattle.codec_replies.proofs.reply.put_looped.Goals as goal

pub returns-then-is_group : goal.returns-then-is_group
returns-then-is_group c =
    let a : _ = c.args in
    to_group_lem a.port a.frame.now a.out.now (omega arith) c.requires.to_value
    c.is_group.ensures
    c.octets6.ensures
    c.if-is_group.true
    c.put_three.ensures

pub returns : goal.returns
returns c =
    let a : _ = c.args in
    to_one a.port a.frame.now a.out.now (omega arith) c.requires.to_value
    c.is_group.ensures
    c.if-is_group.false
    c.put_three-2.ensures
