use Rattle.codec.proofs.FrameParts.{pdu_part}
use Rattle.codec_replies.proofs.Whole.{rest_room}
use Rattle.codec_replies.proofs.Whole.{tag_part, room_left, frame_written}
use lib.ListN.{length}
use native.Mathlib.Omega.{arith}
use Prim.Native.Nat.{ℕ, ◌+◌, ◌≤◌}
use mathlib.Core.List.{List}
use Rattle.codec_replies.proofs.answer.put_reply_frame.Goals as goal

pub put_reply-requires : goal.put_reply-requires
put_reply-requires c =
    let a : _ = c.args in
    let f : List ℕ = a.frame.now in
    let room : _ = c.requires.level_bound in
    let long : 14 + a.taglen ≤ length f = omega arith in
    let tag : _ = tag_part a.taglen f long in (
      room.0,
      (
        rest_room a.taglen f long a.r a.count a.to a.from a.out.now room.1.0 room.1.1 _ tag
            c.put_head-n.ensures,
        rw (pdu_part a.taglen f) room.1.1,
      ),
    )

pub overflow_add-result : goal.overflow_add-result
overflow_add-result c =
    let a : _ = c.args in
    let f : List ℕ = a.frame.now in
    let room : _ = c.requires.level_bound in
    let long : 14 + a.taglen ≤ length f = omega arith in
    let left : _ = room_left a.taglen f long a.r a.count a.to a.from a.out.now room.1.0 room.1.1 in
    let written : _ =
    frame_written a.taglen f long a.r a.count a.to a.from a.out.now room.1.0 room.1.1 _ _
    (tag_part a.taglen f long) (pdu_part a.taglen f) c.put_head-n.ensures
    c.put_reply.ensures in
    omega (arith, left, written.0)

pub returns : goal.returns
returns c =
    let a : _ = c.args in
    let f : List ℕ = a.frame.now in
    let room : _ = c.requires.level_bound in
    let long : 14 + a.taglen ≤ length f = omega arith in
    frame_written a.taglen f long a.r a.count a.to a.from a.out.now room.1.0 room.1.1 _ _
    (tag_part a.taglen f long) (pdu_part a.taglen f) c.put_head-n.ensures
    c.put_reply.ensures
