-- Two replies that differ in what they copy: octet by octet, and that nothing else is left open.
use mathlib.Core.Path.{◌≡◌, refl, sym, ap, ◌∙◌}
use mathlib.Core.Bool.{Bool, true, false, cond, not}
use mathlib.Core.List.{List, [], ◌∷◌, ◌++◌, append_assoc}
use Prim.Native.Nat.{ℕ, ◌+◌, ◌*◌, ◌<◌}
use native.Mathlib.Omega.{arith}
use lib.Dec.{eqb}
use lib.ListN.{length, take, drop, length-append}
use lib.Seq.{take_at, drop_at}
use borrow.Author.Tests.{ne_eqb}
use Rattle.std.specs.Prelude.{Option, Some, None}
use Rattle.octets.specs.Octets.{octets}
use Rattle.octets.proofs.Laws.{octets_length}
use Rattle.octets.specs.Lists.{within}
use Rattle.codec.specs.declared.Status.{Status}
use Rattle.codec.specs.FrameSet.{external}
use Rattle.codec_tlvs.specs.Tlv.{Tlv, unknowns, tlv_octets, tlv_list}
use Rattle.codec_replies.specs.Reply.{side_flags, active_flags, flags_by, flags, header, timer_part, reply_pdu, reply_frame}
use Rattle.demands.specs.LaterRuns.{copied_bit, Replies}

bit_is : (ts : List Tlv) → cond (not (eqb (length (tlv_list ts)) 0)) 4 0 ≡ copied_bit ts
unfolding tlv_list copied_bit tlv_octets
bit_is [] = refl
bit_is (t ∷ ts) = rw (ne_eqb (length (tlv_list (t ∷ ts))) 0 (λ z. omega (arith, z)))

active_few : (kind : ℕ) (status : Status) → active_flags kind status < 4
unfolding active_flags
active_few kind status = go (within 1 3 kind) status.side
  where
    bits : (b : Bool) → cond b 3 1 < 4
    bits true = omega arith
    bits false = omega arith

    go : (a : Bool) (side : Option ℕ) → cond a (side_flags side) 0 < 4
    go true (Some side) = bits (eqb side external)
    go true None = omega arith
    go false side = omega arith

module _ (requester from level kind code port : ℕ) (tag : List ℕ) (status : Status) where
  abbrev start : List ℕ
  start = octets 6 requester ++ octets 6 from ++ tag ++ octets 2 0x8902 ++ (level * 32 ∷ 56 ∷ [])

  abbrev rest : List ℕ
  rest = (8 ∷ kind ∷ code ∷ octets 6 port) ++ timer_part kind code status.seconds

  pdu_is : (ts : List Tlv) → reply_pdu level kind code port status (tlv_list ts)
      ≡ (level * 32 ∷ 56 ∷ []) ++ ((active_flags kind status + copied_bit ts) ∷ rest) ++ tlv_list ts ++ (0 ∷ [])
  unfolding reply_pdu header flags flags_by
  pdu_is ts = rw (bit_is ts)

  reply_is : (ts : List Tlv) → reply_frame requester from tag (reply_pdu level kind code port status (tlv_list ts))
      ≡ start ++ ((active_flags kind status + copied_bit ts) ∷ rest) ++ tlv_list ts ++ (0 ∷ [])
  unfolding reply_frame
  reply_is ts = rw (pdu_is ts) (simp append_assoc)

  pub replies_are : (ts us : List Tlv)
      → Replies (16 + length tag) ts us
      (reply_frame requester from tag (reply_pdu level kind code port status (tlv_list (unknowns ts))))
      (reply_frame requester from tag (reply_pdu level kind code port status (tlv_list (unknowns us))))
  replies_are ts us =
      record {
        start = start;
        flags = active_flags kind status;
        rest = rest;
        start_length = simp (length-append, octets_length) (omega arith);
        flags_small = active_few kind status;
        old_is = reply_is (unknowns ts);
        new_is = reply_is (unknowns us);
      }

-- ---- a reply and the copies fix the other reply

module _ {n : ℕ} {ts us : List Tlv} {old a b : List ℕ} (p : Replies n ts us old a) (q : Replies n ts us old b) where
  fixed : (x y : List ℕ) (t : List ℕ) → x ++ t ≡ y ++ t → x ≡ y
  fixed x y t e =
      let l : length x ≡ length y
      = omega (arith, sym (length-append x t) ∙ ap length e ∙ length-append y t) in
      sym (take_at x t (length x) refl) ∙ ap (take (length x)) e ∙ take_at y t (length x) (sym l)

  pub replies_fixed : a ≡ b
  replies_fixed =
      let t : List ℕ = tlv_list (unknowns ts) in
      let e : (p.start ++ ((p.flags + copied_bit (unknowns ts)) ∷ p.rest)) ++ t ++ (0 ∷ [])
      ≡ (q.start ++ ((q.flags + copied_bit (unknowns ts)) ∷ q.rest)) ++ t ++ (0 ∷ [])
      = sym p.old_is ∙ q.old_is in
      let m : p.start ++ ((p.flags + copied_bit (unknowns ts)) ∷ p.rest) ≡ q.start ++ ((q.flags + copied_bit (unknowns ts)) ∷ q.rest)
      = fixed _ _ t (fixed _ _ (0 ∷ []) e) in
      let s : p.start ≡ q.start
      = sym (take_at p.start _ n p.start_length) ∙ ap (take n) m ∙ take_at q.start _ n q.start_length in
      let d : (p.flags + copied_bit (unknowns ts)) ∷ p.rest ≡ (q.flags + copied_bit (unknowns ts)) ∷ q.rest
      = sym (drop_at p.start _ n p.start_length) ∙ ap (drop n) m ∙ drop_at q.start _ n q.start_length in
      let r : p.rest ≡ q.rest = cc in
      let g : p.flags + copied_bit (unknowns ts) ≡ q.flags + copied_bit (unknowns ts) = cc in
      let f : p.flags ≡ q.flags = omega (arith, g) in
      p.new_is ∙ rw (s, r, f) (sym q.new_is)
