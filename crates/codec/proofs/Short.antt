-- A reply is short: what it copies of a well-formed request is shorter than the request.
use mathlib.Core.Path.{◌≡◌}
use mathlib.Core.Bool.{Bool, true, false, cond, not, ◌||◌}
use mathlib.Core.List.{List}
use Prim.Native.Nat.{ℕ, ◌+◌, ◌≤◌}
use native.Mathlib.Omega.{arith}
use lib.Dec.{ltb, eqb}
use lib.ListN.{length, drop, length-drop}
use borrow.Author.Tests.{ltb-false, eqb-true, not-false}
use Rattle.codec_tlvs.specs.Tlv.{bad_list}
use Rattle.codec_tlvs.proofs.Short.{parse_short, or_none, good_list}
use Rattle.codec.specs.declared.Addressed.{Addressed}
use Rattle.codec.specs.Request.{version_of, offset_of, tlvs_of, wrong_mac, wrong_offset, untimed, malformed, copies_of}

pub offset_high : (pdu : List ℕ) → wrong_offset pdu ≡ false → 8 ≤ offset_of pdu
unfolding wrong_offset
offset_high pdu h = go (eqb (version_of pdu) 0) h
  where
    go : (b : Bool) → cond b (not (eqb (offset_of pdu) 8)) (ltb (offset_of pdu) 8) ≡ false → 8 ≤ offset_of pdu
    go true e = omega (arith, eqb-true (offset_of pdu) 8 (not-false (eqb (offset_of pdu) 8) e))
    go false e = ltb-false (offset_of pdu) 8 e

-- what is so of a request that is not malformed
pub record Formed (whom : Addressed) (to : ℕ) (pdu : List ℕ) : Type 0 where
  pub mac : wrong_mac whom to pdu ≡ false
  pub offset : wrong_offset pdu ≡ false
  pub list : bad_list (tlvs_of pdu) ≡ false
  pub timer : untimed pdu ≡ false

pub formed : (whom : Addressed) (to : ℕ) (pdu : List ℕ) → malformed whom to pdu ≡ false → Formed whom to pdu
unfolding malformed
formed whom to pdu h =
    let a : Bool = wrong_mac whom to pdu in
    let b : Bool = wrong_offset pdu in
    let c : Bool = bad_list (tlvs_of pdu) in
    let abc : (a || b || c) ≡ false = (or_none (a || b || c) (untimed pdu) h).0 in
    let ab : (a || b) ≡ false = (or_none (a || b) c abc).0 in
    record {
      mac = (or_none a b ab).0;
      offset = (or_none a b ab).1;
      list = (or_none (a || b) c abc).1;
      timer = (or_none (a || b || c) (untimed pdu) h).1;
    }

-- what a reply copies of a well-formed request leaves 13 of its octets: the header and the End
pub copies_short : (whom : Addressed) (to : ℕ) (pdu : List ℕ) → malformed whom to pdu ≡ false
    → length (copies_of pdu) + 13 ≤ length pdu
unfolding copies_of tlvs_of
copies_short whom to pdu h =
    let f : Formed whom to pdu = formed whom to pdu h in
    let far : 8 ≤ offset_of pdu = offset_high pdu f.offset in
    let whole : (tlvs_of pdu).bad ≡ false = good_list (tlvs_of pdu) f.list in
    omega (arith, parse_short (drop (4 + offset_of pdu) pdu) whole, far, length-drop (4 + offset_of pdu) pdu)
