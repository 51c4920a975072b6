use Rattle.codec_replies.proofs.Parts.{parts_over, header_length, flags_told, reply_length}
use Rattle.codec.specs.Request.{copied}
use Rattle.codec_replies.specs.Reply.{header, timer_part, reply_of, reply_pdu}
use Prim.Native.Nat.{ℕ}
use mathlib.Core.List.{List}
use native.Mathlib.Omega.{arith}
use Rattle.codec_replies.proofs.answer.put_reply.Goals as goal

pub overflow_add-n : goal.overflow_add-n
overflow_add-n c =
    omega (arith, c.put_timer_part-n.ensures.1.0, c.requires.1.0, c.requires.1.1)

pub slice_bounds-put_copies-count : goal.slice_bounds-put_copies-count
slice_bounds-put_copies-count c =
    omega (arith, c.put_timer_part-n.ensures.1.0, c.requires.1.0, c.requires.1.1)

pub slice_bounds-put_copies-start : goal.slice_bounds-put_copies-start
slice_bounds-put_copies-start c =
    omega (arith, c.put_timer_part-n.ensures.1.0, c.requires.1.0, c.requires.1.1)

pub put_copies-requires : goal.put_copies-requires
put_copies-requires c =
    omega (arith, c.put_timer_part-n.ensures.1.0, c.requires.1.0, c.requires.1.1)

pub overflow_add-m : goal.overflow_add-m
overflow_add-m c =
    omega (arith, c.put_timer_part-n.ensures.1.0, c.put_copies.ensures.0, c.requires.1.0, c.requires.1.1)

pub slice_bounds-copy_into-count : goal.slice_bounds-copy_into-count
slice_bounds-copy_into-count c =
    omega (arith, c.put_timer_part-n.ensures.1.0, c.put_copies.ensures.0, c.requires.1.0, c.requires.1.1)

pub slice_bounds-copy_into-start : goal.slice_bounds-copy_into-start
slice_bounds-copy_into-start c =
    omega (arith, c.put_timer_part-n.ensures.1.0, c.put_copies.ensures.0, c.requires.1.0, c.requires.1.1)

pub copy_into-requires : goal.copy_into-requires
copy_into-requires c =
    omega (arith, c.put_timer_part-n.ensures.1.0, c.put_copies.ensures.0, c.requires.1.0, c.requires.1.1)

pub overflow_add-result : goal.overflow_add-result
overflow_add-result c =
    omega (arith, c.put_timer_part-n.ensures.1.0, c.put_copies.ensures.0, c.requires.1.0, c.requires.1.1)

pub returns : goal.returns
unfolding reply_of reply_pdu
returns c =
    let a : _ = c.args in
    let r : _ = a.r in
    let q : List ℕ = a.request.now in
    let pre : _ = c.requires.1 in
    let timer : _ = c.put_timer_part-n.ensures in
    let copies : _ = c.put_copies.ensures in
    let told : _ = flags_told r a.count q pre.1 c.flags_of-flagged.ensures in
    let h : List ℕ = header r.level c.flags_of-flagged.result r.kind r.code r.port in (
      omega (arith, reply_length r a.count q, timer.0, copies.0),
      rw told
          (parts_over h (timer_part r.kind r.code r.status.seconds) (copied a.count q) a.out.now _ _
          (header_length r.level _ r.kind r.code r.port) (omega (arith, timer.0)) (omega (arith, copies.0))
          (omega (arith, pre, timer, copies.0)) c.put_header.ensures timer.1.1 copies.1 c.copy_into.ensures),
    )
