-- The parts of a reply's PDU: the timer TLV where it is carried, the copies, and all of them in their order.
use mathlib.Core.Path.{◌≡◌, refl}
use mathlib.Core.Bool.{true, false, not}
use mathlib.Core.List.{List, [], ◌∷◌, ◌++◌}
use Prim.Native.Nat.{ℕ, ◌+◌, ◌-◌, ◌≤◌}
use native.Mathlib.Omega.{arith}
use lib.Dec.{eqb}
use lib.ListN.{length, drop, length-append}
use borrow.Author.Tests.{eq-eqb, ne_eqb}
use borrow.Rule.Slice.PartMut.{mid_of, put_mid}
use Rattle.octets.specs.Octets.{octets, over}
use Rattle.octets.proofs.Over.{then_over}
use Rattle.codec_replies.proofs.Lengths.{pdu_length}
use Rattle.codec_replies.specs.declared.ReplyFields.{ReplyFields}
use Rattle.codec_tlvs.specs.Tlv.{parse, unknowns, tlv_list}
use Rattle.codec.specs.Request.{offset_of, tlvs_of, copies_of}
use Rattle.codec.specs.Request.{copied}
use Rattle.codec_replies.specs.Reply.{flags, flags_by, header, timer_tlv, carries_timer, timer_part, reply_of}

-- what a writer of nothing, and of the timer TLV, leaves of o
abbrev pub Written : List ℕ → List ℕ → ℕ → List ℕ → Type 0
Written w o n x = (n ≡ length w) × ((n ≤ 8) × (x ≡ over w o))

module _ (kind code seconds : ℕ) (o : List ℕ) where
  absent : timer_part kind code seconds ≡ [] → Written (timer_part kind code seconds) o 0 o
  absent e = rw e (refl, (omega arith, refl))

  carried : {x : List ℕ} → timer_part kind code seconds ≡ timer_tlv seconds → x ≡ over (timer_tlv seconds) o
      → Written (timer_part kind code seconds) o 8 x
  unfolding timer_tlv octets
  carried e w = rw e (refl, (omega arith, w))

  pub without_timer : carries_timer kind code ≡ false → Written (timer_part kind code seconds) o 0 o
  unfolding timer_part
  without_timer e = absent (rw e)

  pub with_timer : {x : List ℕ} → carries_timer kind code ≡ true → x ≡ over (timer_tlv seconds) o
      → Written (timer_part kind code seconds) o 8 x
  unfolding timer_part
  with_timer e w = carried (rw e) w

module _ (count : ℕ) (request : List ℕ) where
  pub none_copied : (o : List ℕ) → count ≡ 0 → (0 ≡ length (copied count request)) × (o ≡ over (copied count request) o)
  unfolding copied
  none_copied o e = rw (eq-eqb _ _ e) (refl, refl)

  pub some_copied : {from : ℕ} → (count ≡ 0 → ⊥) → from ≡ 4 + offset_of request
      → copied count request ≡ tlv_list (unknowns (parse (drop from request)).tlvs)
  unfolding copied copies_of tlvs_of
  some_copied n e = rw (ne_eqb _ _ n, e)

-- header, timer TLV, copies and End, each written into the rest of what the one before left
pub parts_over : (h tp cs o : List ℕ) (n m : ℕ) {x y z w : List ℕ} → length h ≡ 12 → n ≡ 12 + length tp → m ≡ n + length cs
    → m + 1 ≤ length o → x ≡ over h o → y ≡ over tp (mid_of 12 (length x - 12) x)
    → z ≡ over cs (mid_of n (length (put_mid 12 (length x - 12) x y) - n) (put_mid 12 (length x - 12) x y))
    → w ≡ over (0 ∷ [])
    (mid_of m
    (length (put_mid n (length (put_mid 12 (length x - 12) x y) - n) (put_mid 12 (length x - 12) x y) z) - m)
    (put_mid n (length (put_mid 12 (length x - 12) x y) - n) (put_mid 12 (length x - 12) x y) z))
    → put_mid m
    (length (put_mid n (length (put_mid 12 (length x - 12) x y) - n) (put_mid 12 (length x - 12) x y) z) - m)
    (put_mid n (length (put_mid 12 (length x - 12) x y) - n) (put_mid 12 (length x - 12) x y) z)
    w
    ≡ over (h ++ tp ++ cs ++ (0 ∷ [])) o
parts_over h tp cs o n m lh ln lm room ex ey ez ew =
    then_over (h ++ tp ++ cs) (0 ∷ []) o m
    (then_over (h ++ tp) cs o n (then_over h tp o 12 ex ey lh (omega arith)) ez (simp length-append (omega arith)) (omega arith))
    ew
    (simp length-append (omega arith))
    (omega arith)

pub header_length : (level flagged kind code port : ℕ) → length (header level flagged kind code port) ≡ 12
unfolding header octets
header_length level flagged kind code port = refl

-- the flags are told by the count of the octets to copy
pub flags_told : (r : ReplyFields) (count : ℕ) (request : List ℕ) {flagged : ℕ} → count ≡ length (copied count request)
    → flagged ≡ flags_by r.kind r.status (not (eqb count 0)) → flags r.kind r.status (copied count request) ≡ flagged
unfolding flags
flags_told r count request e f = rw (← e, f)

pub reply_length : (r : ReplyFields) (count : ℕ) (request : List ℕ)
    → length (reply_of r count request)
    ≡ 13 + length (timer_part r.kind r.code r.status.seconds) + length (copied count request)
unfolding reply_of
reply_length r count request = pdu_length r.level r.kind r.code r.port r.status (copied count request)
