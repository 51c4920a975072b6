-- A well-formed request that is rewritten as a later version would send it is well-formed and says the same.
use mathlib.Core.Path.{◌≡◌, refl, ap, sym, ◌∙◌}
use mathlib.Core.Bool.{false}
use mathlib.Core.List.{List}
use Prim.Native.Nat.{ℕ}
use native.Mathlib.Omega.{arith}
use lib.ListN.{length, drop, get_or}
use borrow.Author.Tests.{le-leb, le-ltb, ne_eqb}
use Rattle.octets.specs.Octets.{number}
use Rattle.octets.specs.Lists.{some}
use Rattle.codec_tlvs.specs.Tlv.{bad_tlv, timers, bad_list, unknowns}
use Rattle.codec_tlvs.specs.Additions.{Added}
use Rattle.codec_tlvs.proofs.AddedLaws.{added_timers, added_bad, added_unknowns}
use Rattle.codec.specs.declared.Addressed.{Addressed}
use Rattle.codec.specs.declared.Addressed.TheVariants.{Elsewhere, Unicast, Multicast}
use Rattle.codec.specs.Request.{level_of, type_of, port_mac_of, tlvs_of, addressed}
use Rattle.codec.specs.Request.{wrong_mac, wrong_offset, untimed, malformed, request_of}
use Rattle.codec.specs.Later.{Parts, Laid, LaterParts, pdu_in}
use Rattle.codec.proofs.Short.{Formed, formed}
use Rattle.codec.proofs.LaterRead.{long, level_is, version_is, offset_is, type_is, mac_is, parsed}

module _ {r q : Parts} (l : LaterParts r q) where
  pub later_timers : timers q.tlvs ≡ timers r.tlvs
  later_timers = added_timers l.tlvs_added

  pub later_bad : some bad_tlv q.tlvs ≡ some bad_tlv r.tlvs
  later_bad = added_bad l.tlvs_added

  -- all unknown TLVs, in their received order
  pub later_unknowns : Added (unknowns r.tlvs) (unknowns q.tlvs)
  later_unknowns = added_unknowns l.tlvs_added

  module _ (lr : Laid r) (lq : Laid q) where
    pub later_level : level_of (pdu_in q) ≡ level_of (pdu_in r)
    later_level = level_is lq ∙ l.level_same ∙ sym (level_is lr)

    pub later_type : type_of (pdu_in q) ≡ type_of (pdu_in r)
    later_type = type_is lq ∙ ap (λ (f : List ℕ). get_or f 0 0) l.fixed_same ∙ sym (type_is lr)

    pub later_mac : port_mac_of (pdu_in q) ≡ port_mac_of (pdu_in r)
    later_mac = mac_is lq ∙ ap (λ (f : List ℕ). number 6 (drop 2 f)) l.fixed_same ∙ sym (mac_is lr)

    pub later_addressed : (port to : ℕ) → addressed port to (pdu_in q) ≡ addressed port to (pdu_in r)
    unfolding addressed
    later_addressed port to =
        rw (later_level, later_type, le-leb 12 (length (pdu_in q)) (long lq), le-leb 12 (length (pdu_in r)) (long lr))

    same_mac : (whom : Addressed) (to : ℕ) → wrong_mac whom to (pdu_in q) ≡ wrong_mac whom to (pdu_in r)
    unfolding wrong_mac
    same_mac Elsewhere to = refl
    same_mac Unicast to = rw later_mac
    same_mac Multicast to = refl

    -- a later version takes any offset from 8 on
    offset_right : wrong_offset (pdu_in q) ≡ false
    unfolding wrong_offset
    offset_right =
        rw (
          version_is lq,
          offset_is lq,
          ne_eqb q.version 0 (λ z. absurd (omega (arith, l.later))),
          le-ltb q.offset 8 (omega (arith, lq.first)),
        )

    same_list : bad_list (tlvs_of (pdu_in q)) ≡ bad_list (tlvs_of (pdu_in r))
    unfolding bad_list
    same_list = rw (parsed lq, parsed lr, later_bad, later_timers)

    same_untimed : untimed (pdu_in q) ≡ untimed (pdu_in r)
    unfolding untimed
    same_untimed = rw (parsed lq, parsed lr, later_type, later_timers)

    later_formed : (whom : Addressed) (to : ℕ) → malformed whom to (pdu_in r) ≡ false → malformed whom to (pdu_in q) ≡ false
    unfolding malformed
    later_formed whom to h =
        let f : Formed whom to (pdu_in r) = formed whom to (pdu_in r) h in
        rw (same_mac whom to, f.mac, offset_right, same_list, f.list, same_untimed, f.timer)

    pub later_request : (whom : Addressed) (to : ℕ) → malformed whom to (pdu_in r) ≡ false
        → request_of whom to (pdu_in q) ≡ request_of whom to (pdu_in r)
    unfolding request_of
    later_request whom to h = rw (h, later_formed whom to h, parsed lq, parsed lr, later_type, later_timers)
