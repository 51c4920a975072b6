-- "Requests at an MP", by computation.
use mathlib.Core.Path.{◌≡◌, refl}
use mathlib.Core.List.{List, [], ◌∷◌, ◌++◌, map}
use Prim.Native.Nat.{ℕ}
use Rattle.octets.specs.Octets.{number, octets}
use Rattle.octets.specs.Lists.{some}
use Rattle.octets.specs.Text.{hex}
use Rattle.codec_tlvs.specs.Tlv.{Parsed, ended, cut, followed, walk, parse, subtype, is_timer, bad_tlv, timers, bad_list}
use Rattle.codec_tlvs.specs.Tlv.{is_unknown, unknowns, tlv_octets, tlv_list}
use Rattle.codec.specs.declared.Addressed.{Addressed}
use Rattle.codec.specs.declared.Addressed.TheVariants.{Elsewhere, Unicast, Multicast}
use Rattle.codec.specs.declared.Request.{Request}
use Rattle.codec.specs.declared.Request.TheVariants.{Malformed, Reserved, Activate, Deactivate, State}
use Rattle.codec.specs.Request.{octet, level_of, version_of, offset_of, type_of, port_mac_of, tlvs_of, class2, addressed}
use Rattle.codec.specs.Request.{wrong_mac, wrong_offset, untimed, malformed, by_type, request_of, copies_of}

abbrev port : ℕ
port = 0x020000000001

-- the destination, the PDU, and whom that means at the port
abbrev destinations : List (ℕ × List ℕ × Addressed)
destinations =
    (port, hex "80 39", Unicast)
    ∷ (0x020000000002, hex "80 39 00 08 03 00 02 00 00 00 00 01", Elsewhere)
    -- the group address of the PDU's level
    ∷ (0x0180C2000038, hex "00 39 00 08 03 00 02 00 00 00 00 01", Multicast)
    ∷ (0x0180C200003C, hex "80 39 00 08 03 00 02 00 00 00 00 01", Multicast)
    ∷ (0x0180C200003F, hex "E0 39 00 08 03 00 02 00 00 00 00 01", Multicast)
    -- of another level
    ∷ (0x0180C200003D, hex "80 39 00 08 03 00 02 00 00 00 00 01", Elsewhere)
    -- with another type than 3
    ∷ (0x0180C200003C, hex "80 39 00 08 01 00 02 00 00 00 00 01", Elsewhere)
    ∷ (0x0180C200003C, hex "80 39 00 08 02 00 02 00 00 00 00 01", Elsewhere)
    -- with 11 octets
    ∷ (0x0180C200003C, hex "80 39 00 08 03 00 02 00 00 00 00", Elsewhere)
    -- any other group address
    ∷ (0xFFFFFFFFFFFF, hex "80 39 00 08 03 00 02 00 00 00 00 01", Elsewhere)
    ∷ []

port_address_or_that_of_the_level :
    map (λ row. (row.0, row.1, addressed port row.0 row.1)) destinations ≡ destinations
unfolding addressed class2 level_of type_of octet hex
port_address_or_that_of_the_level = refl

-- octet 1 has the level in its upper 3 bits; an empty PDU counts as level 0
level_of_a_pdu : map level_of ([] ∷ hex "80" ∷ hex "9F 39" ∷ hex "FF 39" ∷ []) ≡ 0 ∷ 4 ∷ 4 ∷ 7 ∷ []
unfolding level_of octet hex
level_of_a_pdu = refl

-- the PDU of a request of this type that names the port
pdu : ℕ → List ℕ → List ℕ
unfolding hex
pdu kind tlvs = hex "80 39 00 08" ++ kind ∷ hex "00 02 00 00 00 00 01" ++ tlvs

-- the TLVs of a request, looked into
listed : List ℕ → Parsed
unfolding tlvs_of parse walk followed ended cut timers is_timer subtype number octet offset_of
listed request = tlvs_of request

-- what a request to the port says
said : Addressed → List ℕ → Request
unfolding request_of by_type malformed wrong_mac wrong_offset bad_list bad_tlv untimed version_of type_of port_mac_of some listed
said whom request = request_of whom port request

-- the message type, and what the request says that has a timer of 60 seconds
abbrev types : List (ℕ × Request)
types = (0, Reserved) ∷ (1, Activate 60) ∷ (2, Deactivate) ∷ (3, State) ∷ (4, Reserved) ∷ (255, Reserved) ∷ []

each_type_is_known_or_reserved :
    map (λ row. (row.0, said Unicast (pdu row.0 (hex "25 00 05 01 00 00 00 3C 00")))) types ≡ types
unfolding said pdu
each_type_is_known_or_reserved = refl

-- TLVs that make a request of any type malformed
abbrev bad_lists : List (List ℕ)
bad_lists =
    -- no End
    hex ""
    ∷ hex "25 00 05 01 00 00 00 3C"
    -- a length that is cut, values past the PDU
    ∷ hex "25 00 05 01 00 00 00 3C 09 00"
    ∷ hex "25 00 05 01 00 00 00 3C 09 00 02 FF"
    ∷ hex "25 00 05 01 00 00 00 3C 09 01 00 00"
    -- type 37 with length 0
    ∷ hex "25 00 05 01 00 00 00 3C 25 00 00 00"
    -- a timer of length 4, of length 6 and of its subtype alone
    ∷ hex "25 00 04 01 00 00 3C 00"
    ∷ hex "25 00 06 01 00 00 00 3C 00 00"
    ∷ hex "25 00 05 01 00 00 00 3C 25 00 01 01 00"
    -- a second timer
    ∷ hex "25 00 05 01 00 00 00 3C 25 00 05 01 00 00 00 3C 00"
    ∷ []

malformed_goes_before_the_type :
    map (λ tlvs. map (λ row. said Unicast (pdu row.0 tlvs)) types) bad_lists ≡
    map (λ tlvs. map (λ row. Malformed) types) bad_lists
unfolding said pdu
malformed_goes_before_the_type = refl

-- whole requests, whom they are sent to, and what they say
abbrev requests : List (Addressed × List ℕ × Request)
requests =
    -- the Loopback Port MAC, like and unlike the destination
    (Unicast, hex "80 39 00 08 03 00 02 00 00 00 00 01 00", State)
    ∷ (Unicast, hex "80 39 00 08 03 00 02 00 00 00 00 02 00", Malformed)
    ∷ (Unicast, hex "80 39 00 08 03 00 00 00 00 00 00 00 00", Malformed)
    ∷ (Multicast, hex "80 39 00 08 03 00 00 00 00 00 00 00 00", State)
    -- version 0 with offset 7, 9 and 10
    ∷ (Unicast, hex "80 39 00 07 03 00 02 00 00 00 00 01 00 00 00", Malformed)
    ∷ (Unicast, hex "80 39 00 09 03 00 02 00 00 00 00 01 00 00 00", Malformed)
    ∷ (Unicast, hex "80 39 00 0A 03 00 02 00 00 00 00 01 00 00 00", Malformed)
    -- another version with offset 7, 8 and 10
    ∷ (Unicast, hex "81 39 00 07 03 00 02 00 00 00 00 01 00 00 00", Malformed)
    ∷ (Unicast, hex "81 39 00 08 03 00 02 00 00 00 00 01 00 00 00", State)
    ∷ (Unicast, hex "81 39 00 0A 03 00 02 00 00 00 00 01 00 00 00", State)
    ∷ (Unicast, hex "9F 39 00 0A 03 00 02 00 00 00 00 01 00 00 00", State)
    -- the first TLV past the PDU
    ∷ (Unicast, hex "81 39 00 0B 03 00 02 00 00 00 00 01 00 00 00", Malformed)
    ∷ (Unicast, hex "81 39 00 FF 03 00 02 00 00 00 00 01 00 00 00", Malformed)
    -- an Activate without a timer, and with one behind the End
    ∷ (Unicast, hex "80 39 00 08 01 00 02 00 00 00 00 01 00", Malformed)
    ∷ (Unicast, hex "80 39 00 08 01 00 02 00 00 00 00 01 00 25 00 05 01 00 00 00 3C 00", Malformed)
    -- flags and response code are not looked at
    ∷ (Unicast, hex "80 39 FF 08 01 0A 02 00 00 00 00 01 25 00 05 01 00 00 00 3C 00", Activate 60)
    -- seconds have four octets
    ∷ (Unicast, hex "80 39 00 08 01 00 02 00 00 00 00 01 25 00 05 01 FE DC BA 98 00", Activate 0xFEDCBA98)
    ∷ []

each_request_is_read : map (λ row. (row.0, row.1, said row.0 row.1)) requests ≡ requests
unfolding said hex
each_request_is_read = refl

-- requests to the port, what they say, and the octets that their replies copy
abbrev copied : List (List ℕ × Request × List ℕ)
copied =
    -- B1 and B2
    (hex "80 39 00 08 01 00 02 00 00 00 00 01 25 00 05 01 00 00 00 3C 00", Activate 60, [])
    ∷ (hex "81 39 00 0A 01 00 02 00 00 00 00 01 00 00 09 00 01 FF 25 00 05 01 00 00 00 3C 00", Activate 60, hex "09 00 01 FF")
    -- a timer is no unknown TLV, also where it is ignored
    ∷ (hex "80 39 00 08 02 00 02 00 00 00 00 01 25 00 05 01 00 00 00 3C 00", Deactivate, [])
    ∷ (hex "80 39 00 08 09 00 02 00 00 00 00 01 25 00 05 01 00 00 00 3C 09 00 01 FF 00", Reserved, hex "09 00 01 FF")
    -- with and without a value; octets after End are ignored
    ∷ (hex "80 39 00 08 03 00 02 00 00 00 00 01 0A 00 00 09 00 02 FF FE 00 09 00 01 FF 00", State, hex "0A 00 00 09 00 02 FF FE")
    -- type 31 is unknown, and so is type 37 with another subtype, also twice
    ∷ (hex "80 39 00 08 03 00 02 00 00 00 00 01 1F 00 01 41 00", State, hex "1F 00 01 41")
    ∷ (hex "80 39 00 08 03 00 02 00 00 00 00 01 25 00 02 02 AA 25 00 01 02 00", State, hex "25 00 02 02 AA 25 00 01 02")
    ∷ []

unknown_tlvs_are_copied_in_order :
    map (λ row. (row.0, said Unicast row.0, copies_of row.0)) copied ≡ copied
unfolding said hex copies_of is_unknown subtype unknowns tlv_list tlv_octets octets
unknown_tlvs_are_copied_in_order = refl
