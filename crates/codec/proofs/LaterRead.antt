-- What is read of a request that is given by its parts.
use mathlib.Core.Path.{◌≡◌, refl, ◌∙◌}
use mathlib.Core.Bool.{false}
use mathlib.Core.List.{List, ◌∷◌, ◌++◌, append_assoc}
use Prim.Native.Nat.{ℕ, ◌+◌, ◌*◌, ◌≤◌}
use native.Mathlib.Omega.{arith}
use lib.ListN.{length, drop, get_or, length-append, length-drop, get_or-append}
use lib.Seq.{drop-append-le, drop_at}
use Rattle.octets.specs.Octets.{number}
use Rattle.octets.proofs.Laws.{number_on}
use Rattle.codec_tlvs.specs.Tlv.{unknowns, tlv_list}
use Rattle.codec_tlvs.proofs.Written.{parse_list}
use Rattle.codec.specs.Request.{octet, level_of, version_of, opcode_of, offset_of, type_of, port_mac_of, tlvs_of, copies_of}
use Rattle.codec.specs.Later.{Parts, Laid, pdu_in}

-- the header; the TLV list with its End and what stands behind it
abbrev pub head : Parts → List ℕ
head r = (r.level * 32 + r.version) ∷ 57 ∷ r.flags ∷ r.offset ∷ r.fixed

abbrev pub list : Parts → List ℕ
list r = tlv_list r.tlvs ++ (0 ∷ r.behind)

pub parted : (r : Parts) → pdu_in r ≡ head r ++ (r.ahead ++ list r)
unfolding pdu_in
parted r =
    append_assoc (head r ++ r.ahead) (tlv_list r.tlvs) (0 ∷ r.behind) ∙ append_assoc (head r) r.ahead (list r)

module _ {r : Parts} (lr : Laid r) where
  twelve : length (head r) ≡ 12
  twelve = omega (arith, lr.eight)

  pub long : 12 ≤ length (pdu_in r)
  long = rw (parted r, length-append (head r) (r.ahead ++ list r)) (omega (arith, twelve))

  pub level_is : level_of (pdu_in r) ≡ r.level
  unfolding pdu_in level_of octet
  level_is = omega (arith, lr.version_small)

  pub version_is : version_of (pdu_in r) ≡ r.version
  unfolding pdu_in version_of octet
  version_is = omega (arith, lr.version_small)

  pub opcode_is : opcode_of (pdu_in r) ≡ 57
  unfolding pdu_in opcode_of octet
  opcode_is = refl

  pub offset_is : offset_of (pdu_in r) ≡ r.offset
  unfolding pdu_in offset_of octet
  offset_is = refl

  pub type_is : type_of (pdu_in r) ≡ get_or r.fixed 0 0
  unfolding type_of octet
  type_is = rw (parted r) (get_or-append (head r) (r.ahead ++ list r) 0 4 (omega (arith, twelve)))

  pub mac_is : port_mac_of (pdu_in r) ≡ number 6 (drop 2 r.fixed)
  unfolding port_mac_of
  mac_is =
      rw (parted r, drop-append-le 6 (head r) (r.ahead ++ list r) (omega (arith, twelve)))
      (number_on 6 (drop 6 (head r)) (r.ahead ++ list r) (omega (arith, twelve, length-drop 6 (head r))))

  pub parsed : tlvs_of (pdu_in r) ≡ record { tlvs = r.tlvs; bad = false }
  unfolding tlvs_of
  parsed =
      let at : length (head r ++ r.ahead) ≡ 4 + r.offset =
      length-append (head r) r.ahead ∙ omega (arith, twelve, lr.first) in
      rw (
        offset_is,
        parted r,
        ← append_assoc (head r) r.ahead (list r),
        drop_at (head r ++ r.ahead) (list r) (4 + r.offset) at,
      )
      (parse_list r.tlvs r.behind lr.whole)

  -- what a reply to it copies
  pub copies_are : copies_of (pdu_in r) ≡ tlv_list (unknowns r.tlvs)
  unfolding copies_of
  copies_are = rw parsed
