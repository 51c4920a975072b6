-- A whole reply frame: its head, then its PDU in the rest of the output.
use mathlib.Core.Path.{◌≡◌, sym, ap, ◌∙◌}
use mathlib.Core.List.{List, ◌++◌}
use Prim.Native.Nat.{ℕ, ◌+◌, ◌-◌, ◌≤◌}
use native.Mathlib.Omega.{arith}
use lib.ListN.{length, take, drop, length-append, length-drop}
use lib.Seq.{length-take-le}
use borrow.Rule.Slice.PartMut.{mid_of, put_mid}
use Rattle.octets.specs.Octets.{octets, over}
use Rattle.octets.proofs.Laws.{octets_length}
use Rattle.octets.proofs.Over.{then_over, length_over}
use Rattle.codec_replies.specs.declared.ReplyFields.{ReplyFields}
use Rattle.codec.specs.FrameSet.{oam_type, pdu_of}
use Rattle.codec.specs.Request.{copied}
use Rattle.codec_replies.specs.Reply.{reply_of, reply_frame, tag_of}
use Rattle.codec_replies.proofs.Lengths.{timer_short}
use Rattle.codec_replies.proofs.Parts.{reply_length}

module _ (taglen : ℕ) (f : List ℕ) (long : 14 + taglen ≤ length f) where
  pub tag_part : take (12 + taglen - 12) (drop 12 f) ≡ tag_of taglen f
  unfolding tag_of
  tag_part = let e : 12 + taglen - 12 ≡ taglen = omega arith in ap (λ (n : ℕ). take n (drop 12 f)) e

  pub tag_length : length (tag_of taglen f) ≡ taglen
  unfolding tag_of
  tag_length = length-take-le taglen (drop 12 f) (omega (arith, length-drop 12 f))

  head_length : (to from : ℕ) → length (octets 6 to ++ octets 6 from ++ tag_of taglen f ++ octets 2 oam_type) ≡ 14 + taglen
  head_length to from = simp (length-append, octets_length, tag_length) (omega arith)

  module _ (r : ReplyFields) (count to from : ℕ) (o : List ℕ) (room : 35 + taglen + count ≤ length o)
      (fits : count ≡ length (copied count (pdu_of taglen f))) where
    pub room_left : 14 + taglen + length (reply_of r count (pdu_of taglen f)) ≤ length o
    room_left =
        omega (
          arith,
          room,
          fits,
          reply_length r count (pdu_of taglen f),
          timer_short r.kind r.code r.status.seconds,
        )

    pub frame_written : (tp pp : List ℕ) {n m : ℕ} {x y : List ℕ} → tp ≡ tag_of taglen f → pp ≡ pdu_of taglen f
        → (n ≡ 14 + length tp) × (x ≡ over (octets 6 to ++ octets 6 from ++ tp ++ octets 2 oam_type) o)
        → (m ≡ length (reply_of r count pp)) × (y ≡ over (reply_of r count pp) (mid_of n (length x - n) x))
        → (n + m ≡ 14 + taglen + length (reply_of r count (pdu_of taglen f)))
        × (put_mid n (length x - n) x y ≡ over (reply_frame to from (tag_of taglen f) (reply_of r count (pdu_of taglen f))) o)
    unfolding reply_frame
    frame_written tp pp {n} {m} {x} {y} et ep (en, ex) (em, ey) =
        let head : List ℕ = octets 6 to ++ octets 6 from ++ tag_of taglen f ++ octets 2 oam_type in
        let hx : x ≡ over head o = rw et at ex in
        let hy : y ≡ over (reply_of r count (pdu_of taglen f)) (mid_of n (length x - n) x) = rw ep at ey in
        let hm : m ≡ length (reply_of r count (pdu_of taglen f)) = rw ep at em in
        let hn : n ≡ 14 + taglen = en ∙ rw (et, tag_length) in
        let lh : length head ≡ n = head_length to from ∙ sym hn in
        (omega arith, then_over head (reply_of r count (pdu_of taglen f)) o n hx hy lh (omega (arith, room_left)))

    -- and the room that the head leaves is enough for the PDU
    pub rest_room : (tp : List ℕ) {n : ℕ} {x : List ℕ} → tp ≡ tag_of taglen f
        → (n ≡ 14 + length tp) × (x ≡ over (octets 6 to ++ octets 6 from ++ tp ++ octets 2 oam_type) o)
        → 21 + count ≤ length (take (length x - n) (drop n x))
    rest_room tp {n} {x} et (en, ex) =
        let head : List ℕ = octets 6 to ++ octets 6 from ++ tp ++ octets 2 oam_type in
        let lt : length tp ≡ taglen = rw et tag_length in
        let lh : length head ≡ 14 + taglen = simp (length-append, octets_length, lt) (omega arith) in
        let lx : length x ≡ length o = rw ex (length_over head o (omega (arith, lh, room))) in
        let ld : length (drop n x) ≡ length x - n = length-drop n x in
        omega (arith, room, lt, length-take-le (length x - n) (drop n x) (omega arith))
