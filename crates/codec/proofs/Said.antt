-- A request is malformed by the first test that says so; else its summary has what it says. And what callers use of a reading.
use mathlib.Core.Path.{◌≡◌, refl, ap}
use mathlib.Core.Bool.{Bool, true, false, cond, not, ◌&&◌}
use mathlib.Core.List.{List, [], ◌∷◌, ◌++◌}
use Prim.Native.Nat.{ℕ, ◌+◌, ◌-◌, ◌≤◌}
use native.Mathlib.Omega.{arith}
use lib.Dec.{eqb}
use lib.ListN.{length, drop, length-drop, get_or-append}
use lib.Seq.{drop-append-le}
use borrow.Author.Tests.{ne_eqb}
use Rattle.octets.proofs.Cases.{by_eq}
use Rattle.octets.proofs.Laws.{number_on}
use Rattle.codec_tlvs.specs.declared.BadList.{BadList}
use Rattle.codec_tlvs.specs.declared.Summary.{Summary}
use Rattle.std.specs.Prelude.{is_some, unwrap_or, slice_get, Ok, Err}
use Rattle.std.proofs.lemmas.Option.{unwrap_or-slice_get}
use Rattle.codec_tlvs.specs.Tlv.{parse, timers, bad_list}
use Rattle.codec_tlvs.specs.Walk.{summary_of}
use Rattle.codec_tlvs.proofs.Short.{parse_short}
use Rattle.codec_tlvs.proofs.After.{parse_on, summary_bad, Says, summary_says}
use Rattle.codec.specs.declared.Addressed.{Addressed}
use Rattle.codec.specs.declared.Addressed.TheVariants.{Elsewhere, Unicast, Multicast}
use Rattle.codec.specs.declared.Request.{Request}
use Rattle.codec.specs.declared.Request.TheVariants.{Malformed}
use Rattle.codec.specs.declared.Read.{Read}
use Rattle.codec.specs.Request.{octet, offset_of, type_of, tlvs_of, wrong_mac, wrong_offset, untimed, malformed, by_type, request_of, copied}
use Rattle.codec.specs.Request.{version_of, port_mac_of, copies_of, read_of}

abbrev pub bad_read : Read
bad_read = record { request = Malformed; copies = 0 }

module _ (whom : Addressed) (to : ℕ) (pdu : List ℕ) where
  pub bad_mac : wrong_mac whom to pdu ≡ true → bad_read ≡ read_of whom to pdu
  unfolding read_of request_of malformed
  bad_mac a = rw a

  pub bad_offset : wrong_mac whom to pdu ≡ false → wrong_offset pdu ≡ true → bad_read ≡ read_of whom to pdu
  unfolding read_of request_of malformed
  bad_offset a b = rw (a, b)

  pub bad_list_lem : wrong_mac whom to pdu ≡ false → wrong_offset pdu ≡ false → bad_list (tlvs_of pdu) ≡ true → bad_read ≡ read_of whom to pdu
  unfolding read_of request_of malformed
  bad_list_lem a b c = rw (a, b, c)

  -- the summary of the list that starts at the first TLV
  module _ (from : ℕ) (ef : from ≡ 4 + offset_of pdu) where
    same_list : parse (drop from pdu) ≡ tlvs_of pdu
    unfolding tlvs_of
    same_list = ap (λ (n : ℕ). parse (drop n pdu)) ef

    pub says_bad : {e : BadList} → Err e ≡ summary_of (parse (drop from pdu)) → bad_list (tlvs_of pdu) ≡ true
    says_bad h = summary_bad (tlvs_of pdu) (rw same_list at h)

    pub says_good : {s : Summary} → Ok s ≡ summary_of (parse (drop from pdu)) → Says (tlvs_of pdu) s
    says_good h = summary_says (tlvs_of pdu) (rw same_list at h)

  module _ {s : Summary} (says : Says (tlvs_of pdu) s) {kind : ℕ} (ek : kind ≡ type_of pdu) where
    none : (l : List ℕ) → not (is_some (slice_get l 0)) ≡ eqb (length l) 0
    none [] = refl
    none (x ∷ l) = rw (ne_eqb (length (x ∷ l)) 0 (λ z. absurd (omega arith)))

    pub says_untimed : (eqb kind 1 && not (is_some s.seconds)) ≡ untimed pdu
    unfolding untimed
    says_untimed = rw (ek, says.timer, none (timers (tlvs_of pdu).tlvs))

    module _ (a : wrong_mac whom to pdu ≡ false) (b : wrong_offset pdu ≡ false) where
      pub bad_untimed : untimed pdu ≡ true → bad_read ≡ read_of whom to pdu
      unfolding read_of request_of malformed
      bad_untimed d = rw (a, b, says.fine, d)

      pub good : untimed pdu ≡ false → (r : Request) → r ≡ by_type kind (unwrap_or s.seconds 0)
          → record { request = r; copies = s.unknown } ≡ read_of whom to pdu
      unfolding read_of request_of malformed copies_of
      good d r er =
          rw (er, ek, says.timer, says.copies, unwrap_or-slice_get (timers (tlvs_of pdu).tlvs) 0 0, a, b, says.fine, d)

-- ---- what callers use of a reading

-- its count of octets to copy is that of what a reply copies
right : (whom : Addressed) (to : ℕ) (pdu : List ℕ)
    → (read_of whom to pdu).copies ≡ length (copied (read_of whom to pdu).copies pdu)
unfolding read_of copied
right whom to pdu = go (malformed whom to pdu)
  where
    go : (b : Bool)
        → cond b 0 (length (copies_of pdu)) ≡ length (cond (eqb (cond b 0 (length (copies_of pdu))) 0) [] (copies_of pdu))
    go true = refl
    go false = by_eq (length (copies_of pdu)) 0 (λ e same. rw (e, same)) (λ e other. rw e)

pub count_right : (whom : Addressed) (to : ℕ) (pdu : List ℕ) {r : Read} → r ≡ read_of whom to pdu
    → r.copies ≡ length (copied r.copies pdu)
count_right whom to pdu e = rw e (right whom to pdu)

-- A reading depends on nothing but the port MAC and the offset as they are judged, the type and the TLV list.
pub reads_alike : (whom : Addressed) (to : ℕ) (p q : List ℕ) → wrong_mac whom to p ≡ wrong_mac whom to q
    → wrong_offset p ≡ wrong_offset q → type_of p ≡ type_of q → tlvs_of p ≡ tlvs_of q → read_of whom to p ≡ read_of whom to q
unfolding read_of request_of malformed untimed copies_of
reads_alike whom to p q a b c d = rw (a, b, c, d)

module _ (p t : List ℕ) (long : 12 ≤ length p) where
  octet_on : (n : ℕ) → n ≤ 12 → octet n (p ++ t) ≡ octet n p
  unfolding octet
  octet_on n h = get_or-append p t 0 (n - 1) (omega arith)

  mac_on : (whom : Addressed) (to : ℕ) → wrong_mac whom to (p ++ t) ≡ wrong_mac whom to p
  unfolding wrong_mac port_mac_of
  mac_on Elsewhere to = refl
  mac_on Multicast to = refl
  mac_on Unicast to =
      rw (drop-append-le 6 p t (omega arith), number_on 6 (drop 6 p) t (omega (arith, length-drop 6 p)))

  offset_same : offset_of (p ++ t) ≡ offset_of p
  unfolding offset_of
  offset_same = octet_on 4 (omega arith)

  offset_on : wrong_offset (p ++ t) ≡ wrong_offset p
  unfolding wrong_offset version_of
  offset_on = rw (octet_on 1 (omega arith), offset_same)

  typed : type_of (p ++ t) ≡ type_of p
  unfolding type_of
  typed = octet_on 5 (omega arith)

  list_on : (tlvs_of p).bad ≡ false → tlvs_of (p ++ t) ≡ tlvs_of p
  unfolding tlvs_of
  list_on whole =
      let n : ℕ = 4 + offset_of p in
      let inside : n ≤ length p = omega (arith, parse_short (drop n p) whole, length-drop n p) in
      rw (offset_same, drop-append-le n p t inside) (parse_on (drop n p) t whole)

  -- octets after the End do not matter
  pub reads_on : (whom : Addressed) (to : ℕ) → (tlvs_of p).bad ≡ false → read_of whom to (p ++ t) ≡ read_of whom to p
  reads_on whom to whole = reads_alike whom to (p ++ t) p (mac_on whom to) offset_on typed (list_on whole)
