-- Every well-formed request has parts: what is said of a later version's requests is said of each of them.
use mathlib.Core.Path.{◌≡◌, sym, ◌∙◌}
use mathlib.Core.Bool.{false}
use mathlib.Core.List.{List, [], ◌∷◌, ◌++◌}
use Prim.Native.Nat.{ℕ, ◌+◌, ◌-◌, ◌*◌, ◌/◌, ◌%◌, ◌≤◌}
use native.Mathlib.Omega.{arith}
use lib.ListN.{length, take, drop, length-drop, take-append-drop}
use lib.Seq.{length-take-le}
use Rattle.octets.proofs.Laws.{Octets, octets_drop}
use Rattle.codec_tlvs.proofs.Short.{good_list, parse_short}
use Rattle.codec_tlvs.proofs.Walk.{drop_to}
use Rattle.codec_tlvs.proofs.Written.{Listed, parse_listed}
use Rattle.codec.specs.declared.Addressed.{Addressed}
use Rattle.codec.specs.Request.{octet, level_of, version_of, opcode_of, offset_of, tlvs_of, malformed}
use Rattle.codec.specs.Later.{Parts, Laid, pdu_in}
use Rattle.codec.proofs.Short.{Formed, formed, offset_high}
use Rattle.codec.proofs.LaterRead.{list, parted}

-- the four octets ahead of the message type, by what they say
first_four : (pdu : List ℕ) → 4 ≤ length pdu → opcode_of pdu ≡ 57
    → (level_of pdu * 32 + version_of pdu) ∷ 57 ∷ octet 3 pdu ∷ offset_of pdu ∷ drop 4 pdu ≡ pdu
unfolding level_of version_of opcode_of offset_of octet
first_four [] h e = absurd (omega arith)
first_four (a ∷ []) h e = absurd (omega arith)
first_four (a ∷ b ∷ []) h e = absurd (omega arith)
first_four (a ∷ b ∷ c ∷ []) h e = absurd (omega arith)
first_four (a ∷ b ∷ c ∷ d ∷ l) h e =
    let ea : a / 32 * 32 + a % 32 ≡ a = omega arith in
    rw (ea, e)

-- a PDU by its parts
pub record ByParts (pdu : List ℕ) : Type 0 where
  pub parts : Parts
  pub laid : Laid parts
  pub same : pdu_in parts ≡ pdu

module _ (pdu : List ℕ) (o : Octets pdu) (request : opcode_of pdu ≡ 57) where
  -- the first TLV stands in the PDU, from octet 13 on
  module _ (far : 8 ≤ offset_of pdu) (inside : 4 + offset_of pdu ≤ length pdu)
      (m : Listed (drop (4 + offset_of pdu) pdu) (tlvs_of pdu).tlvs) where
    parts : Parts
    parts = record {
      level = level_of pdu;
      version = version_of pdu;
      flags = octet 3 pdu;
      offset = offset_of pdu;
      fixed = take 8 (drop 4 pdu);
      ahead = take (offset_of pdu - 8) (drop 12 pdu);
      tlvs = (tlvs_of pdu).tlvs;
      behind = m.behind;
    }

    laid : Laid parts
    unfolding parts level_of version_of offset_of octet
    laid = record {
      level_small = omega (arith, o 0);
      version_small = omega arith;
      flags_small = o 2;
      offset_small = o 3;
      eight = length-take-le 8 (drop 4 pdu) (omega (arith, length-drop 4 pdu));
      first = omega (arith, length-take-le (offset_of pdu - 8) (drop 12 pdu) (omega (arith, length-drop 12 pdu)));
      whole = m.whole;
    }

    same : pdu_in parts ≡ pdu
    unfolding parts
    same =
        let n : ℕ = offset_of pdu - 8 in
        let behind : list parts ≡ drop n (drop 12 pdu) = m.same ∙ sym (drop_to n 12 (4 + offset_of pdu) pdu (omega arith)) in
        let rest : take n (drop 12 pdu) ++ list parts ≡ drop 12 pdu = rw behind (take-append-drop n (drop 12 pdu)) in
        let four : take 8 (drop 4 pdu) ++ drop 12 pdu ≡ drop 4 pdu =
        rw (← drop_to 8 4 12 pdu (omega arith)) (take-append-drop 8 (drop 4 pdu)) in
        rw (parted parts, rest, four) (first_four pdu (omega arith) request)

    by_parts : ByParts pdu
    by_parts = record { parts = parts; laid = laid; same = same }

-- The opcode has to be said: whether a PDU is malformed does not depend on it.
pub request_parts : (whom : Addressed) (to : ℕ) (pdu : List ℕ) → Octets pdu → opcode_of pdu ≡ 57
    → malformed whom to pdu ≡ false → ByParts pdu
unfolding tlvs_of
request_parts whom to pdu o e h =
    let f : Formed whom to pdu = formed whom to pdu h in
    let n : ℕ = 4 + offset_of pdu in
    let far : 8 ≤ offset_of pdu = offset_high pdu f.offset in
    let good : (tlvs_of pdu).bad ≡ false = good_list (tlvs_of pdu) f.list in
    let inside : n ≤ length pdu = omega (arith, parse_short (drop n pdu) good, length-drop n pdu) in
    let m : Listed (drop n pdu) (tlvs_of pdu).tlvs = parse_listed (drop n pdu) (octets_drop n pdu o) good in
    by_parts pdu o e far inside m
