-- "Replies" and the loop of a data frame, by computation.
use mathlib.Core.Path.{◌≡◌, refl}
use Rattle.std.specs.Prelude.{Some, None}
use mathlib.Core.List.{List, [], ◌∷◌, map}
use Prim.Native.Nat.{ℕ}
use Rattle.octets.specs.Octets.{number, octets}
use Rattle.octets.specs.Lists.{within}
use Rattle.octets.specs.Text.{hex}
use Rattle.codec.specs.declared.Status.{Status}
use Rattle.codec.specs.FrameSet.{external, cen, destination, group}
use Rattle.codec_replies.specs.Reply.{active_flags, flags_by, flags, header, timer_tlv, carries_timer, timer_part, reply_pdu}
use Rattle.codec_replies.specs.Reply.{reply_frame, tag_of, looped}

abbrev port : ℕ
port = 0x020000000001

abbrev inactive : Status
inactive = record { side = None; seconds = 0 }

abbrev active : ℕ → Status
active side = record { side = Some side; seconds = 60 }

-- the request's type, the answer's code, the machine after the call, the TLVs copied, and the reply at level 4
abbrev replies : List (ℕ × ℕ × Status × List ℕ × List ℕ)
replies =
    -- B1 and B2
    (1, 0, active cen, [], hex "80 38 01 08 01 00 02 00 00 00 00 01 25 00 05 01 00 00 00 3C 00")
    ∷ (1, 0, active cen, hex "09 00 01 FF", hex "80 38 05 08 01 00 02 00 00 00 00 01 25 00 05 01 00 00 00 3C 09 00 01 FF 00")
    -- active from the External Network; inactive, with 0 seconds
    ∷ (3, 0, active external, [], hex "80 38 03 08 03 00 02 00 00 00 00 01 25 00 05 01 00 00 00 3C 00")
    ∷ (3, 0, inactive, [], hex "80 38 00 08 03 00 02 00 00 00 00 01 25 00 05 01 00 00 00 00 00")
    ∷ (1, 6, inactive, hex "0A 00 00", hex "80 38 04 08 01 06 02 00 00 00 00 01 25 00 05 01 00 00 00 00 0A 00 00 00")
    -- the seconds are written as they are given
    ∷ (3, 0, record { side = None; seconds = 60 }, [], hex "80 38 00 08 03 00 02 00 00 00 00 01 25 00 05 01 00 00 00 3C 00")
    -- type 2 has no timer
    ∷ (2, 0, inactive, [], hex "80 38 00 08 02 00 02 00 00 00 00 01 00")
    ∷ (2, 7, active external, [], hex "80 38 03 08 02 07 02 00 00 00 00 01 00")
    -- nor has code 1
    ∷ (1, 1, active cen, [], hex "80 38 01 08 01 01 02 00 00 00 00 01 00")
    ∷ (3, 1, inactive, [], hex "80 38 00 08 03 01 02 00 00 00 00 01 00")
    -- a reserved type says nothing of the machine
    ∷ (0, 10, active external, [], hex "80 38 00 08 00 0A 02 00 00 00 00 01 00")
    ∷ (4, 10, active external, hex "09 00 01 FF", hex "80 38 04 08 04 0A 02 00 00 00 00 01 09 00 01 FF 00")
    ∷ (255, 1, active cen, [], hex "80 38 00 08 FF 01 02 00 00 00 00 01 00")
    ∷ []

each_reply_octet_by_octet :
    map (λ row. (row.0, row.1, row.2, row.3, reply_pdu 4 row.0 row.1 port row.2 row.3)) replies ≡ replies
unfolding reply_pdu header flags flags_by active_flags timer_part carries_timer timer_tlv within octets hex
each_reply_octet_by_octet = refl

abbrev request : List ℕ
request = hex "02 00 00 00 00 01 02 00 00 00 00 AA 81 00 F0 14 89 02 80 39"

-- from an address that is another than that of the PDU
reply_frame_has_the_received_tag :
    reply_frame 0x0200000000AA 0x020000000077 (tag_of 4 request) (hex "80 38") ≡
    hex "02 00 00 00 00 AA 02 00 00 00 00 77 81 00 F0 14 89 02 80 38"
unfolding reply_frame tag_of octets hex
reply_frame_has_the_received_tag = refl

-- a frame, and the frame looped
abbrev loops : List (List ℕ × List ℕ)
loops =
    (hex "02 00 00 00 00 55 02 00 00 00 00 AA 81 00 F0 14 08 00", hex "02 00 00 00 00 AA 02 00 00 00 00 55 81 00 F0 14 08 00")
    -- group destinations
    ∷ (hex "01 00 5E 00 00 01 02 00 00 00 00 AA 08 00 45", hex "02 00 00 00 00 AA 02 00 00 00 00 01 08 00 45")
    ∷ (hex "FF FF FF FF FF FF 02 00 00 00 00 AA 08 00 45", hex "02 00 00 00 00 AA 02 00 00 00 00 01 08 00 45")
    ∷ []

loop_swaps_the_addresses : map (λ row. (row.0, looped port row.0)) loops ≡ loops
unfolding looped group destination number octets hex
loop_swaps_the_addresses = refl
