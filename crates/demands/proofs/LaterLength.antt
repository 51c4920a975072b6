-- A request rewritten is no shorter.
use mathlib.Core.Path.{◌≡◌}
use mathlib.Core.List.{List}
use Prim.Native.Nat.{◌+◌, ◌≤◌}
use native.Mathlib.Omega.{arith}
use lib.ListN.{length, length-append}
use Rattle.codec_tlvs.specs.Tlv.{Tlv, tlv_octets, tlv_list}
use Rattle.codec_tlvs.specs.Additions.{Added, ended, kept, new}
use Rattle.codec.specs.Later.{Parts, pdu_in, LaterParts}

added_longer : {ts us : List Tlv} → Added ts us → length (tlv_list ts) ≤ length (tlv_list us)
unfolding tlv_list
added_longer ended = omega arith
added_longer (kept {t = t} {ts = ts} {us = us} a) =
    omega (arith, added_longer a, length-append (tlv_octets t) (tlv_list ts), length-append (tlv_octets t) (tlv_list us))
added_longer (new {t = t} {us = us} u a) = omega (arith, added_longer a, length-append (tlv_octets t) (tlv_list us))

pdu_length : (r : Parts)
    → length (pdu_in r) ≡ 5 + length r.fixed + length r.ahead + length (tlv_list r.tlvs) + length r.behind
unfolding pdu_in
pdu_length r = simp length-append (omega arith)

pub later_longer : (r q : Parts) → LaterParts r q → length (pdu_in r) ≤ length (pdu_in q)
later_longer r q l =
    rw (pdu_length r, pdu_length q, l.fixed_same, l.ahead_more, l.behind_same, length-append)
    (omega (arith, added_longer l.tlvs_added))
