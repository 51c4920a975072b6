-- Maintenance points (MP) and Requests (REQUEST): the PDU's octets, whom a request is for, and what it says.
use Rattle.std.specs.Prelude.{List, [], Bool, true, false, cond, ◌&&◌, ◌||◌, not, ℕ, ◌+◌, ◌-◌, ◌/◌, ◌%◌, length, drop, get_or, eqb, ltb, leb}
use Rattle.octets.specs.Octets.{number}
use Rattle.codec.specs.declared.Addressed.{Addressed}
use Rattle.codec.specs.declared.Addressed.TheVariants.{Elsewhere, Unicast, Multicast}
use Rattle.codec.specs.declared.Request.{Request}
use Rattle.codec.specs.declared.Request.TheVariants.{Malformed, Reserved, Activate, Deactivate, State}
use Rattle.codec.specs.declared.Read.{Read}
use Rattle.codec.specs.declared.Heading.{Heading}
use Rattle.codec_tlvs.specs.Tlv.{Parsed, parse, timers, bad_list, unknowns, tlv_list}
use Rattle.codec.specs.FrameSet.{destination, source, soam, pdu_of}

-- MP-1: an octet of the PDU by its number, from 1; 0 after the PDU's end.
unfoldable pub octet : ℕ → List ℕ → ℕ
octet n pdu = get_or pdu (n - 1) 0

-- MP-1, MACHINE-29: the upper three bits of octet 1 are the level; an empty PDU has level 0.
unfoldable pub level_of : List ℕ → ℕ
level_of pdu = octet 1 pdu / 32

-- MP-1: the lower five bits of octet 1 are the version.
unfoldable pub version_of : List ℕ → ℕ
version_of pdu = octet 1 pdu % 32

-- MP-1: octet 2 is the opcode.
unfoldable pub opcode_of : List ℕ → ℕ
opcode_of pdu = octet 2 pdu

-- MP-1: octet 4 is the TLV offset.
unfoldable pub offset_of : List ℕ → ℕ
offset_of pdu = octet 4 pdu

-- MP-1: octet 5 is the message type.
unfoldable pub type_of : List ℕ → ℕ
type_of pdu = octet 5 pdu

-- MP-1: octets 7 to 12 are the Loopback Port MAC Address.
unfoldable pub port_mac_of : List ℕ → ℕ
port_mac_of pdu = number 6 (drop 6 pdu)

-- TLV-1: the TLVs are read from octet 5 + offset on.
unfoldable pub tlvs_of : List ℕ → Parsed
tlvs_of pdu = parse (drop (4 + offset_of pdu) pdu)

-- MP-1, REPLY-5: the opcodes, 57 in a request (LLM) and 56 in a reply (LLR).
abbrev pub llm : ℕ
llm = 57

abbrev pub llr : ℕ
llr = 56

-- MP-2, MP-5: is it SOAM with opcode 57? A PDU of 0 or 1 octet has no opcode.
unfoldable pub is_request : ℕ → List ℕ → Bool
is_request taglen frame = soam taglen frame && eqb (opcode_of (pdu_of taglen frame)) llm

-- what is read, once, of a frame that has so many octets of tag: its addresses, and of service OAM alone what its PDU says
unfoldable pub heading_of : ℕ → List ℕ → Heading
heading_of taglen frame =
    cond (soam taglen frame)
    (record {
      destination = destination frame;
      source = source frame;
      soam = true;
      request = is_request taglen frame;
      level = level_of (pdu_of taglen frame);
      kind = type_of (pdu_of taglen frame);
    })
    (record { destination = destination frame; source = source frame; soam = false; request = false; level = 0; kind = 0 })

-- MP-4: the multicast address of a level, the level added to 01-80-C2-00-00-38.
unfoldable pub class2 : ℕ → ℕ
class2 level = 0x0180C2000038 + level

-- MP-4, MP-5: the port's address makes it unicast; that of its level multicast, if it has message type 3 and at least 12 octets.
abbrev pub addressed_by : ℕ → ℕ → ℕ → ℕ → ℕ → Addressed
addressed_by port to level kind n =
    cond (eqb to port) Unicast (cond (eqb to (class2 level) && (eqb kind 3 && leb 12 n)) Multicast Elsewhere)

unfoldable pub addressed : ℕ → ℕ → List ℕ → Addressed
addressed port to pdu = addressed_by port to (level_of pdu) (type_of pdu) (length pdu)

-- REQUEST-6, REQUEST-7: the Loopback Port MAC Address of a unicast request differs from its destination; a multicast request may hold any.
-- (A frame that is for nobody here is no request.)
unfoldable pub wrong_mac : Addressed → ℕ → List ℕ → Bool
wrong_mac Elsewhere to pdu = false
wrong_mac Unicast to pdu = not (eqb (port_mac_of pdu) to)
wrong_mac Multicast to pdu = false

-- REQUEST-8, REQUEST-9: version 0 has an offset that is not 8, or a later version one under 8.
unfoldable pub wrong_offset : List ℕ → Bool
wrong_offset pdu = cond (eqb (version_of pdu) 0) (not (eqb (offset_of pdu) 8)) (ltb (offset_of pdu) 8)

-- REQUEST-11: is it an Activate with no timer ahead of its End?
unfoldable pub untimed : List ℕ → Bool
untimed pdu = eqb (type_of pdu) 1 && eqb (length (timers (tlvs_of pdu).tlvs)) 0

-- REQUEST-5, REQUEST-10: malformed is a wrong address, a wrong offset, a bad TLV list, an Activate with no timer, and nothing else.
unfoldable pub malformed : Addressed → ℕ → List ℕ → Bool
malformed whom to pdu = wrong_mac whom to pdu || wrong_offset pdu || bad_list (tlvs_of pdu) || untimed pdu

-- REQUEST-13, REQUEST-14: type 1 is an Activate, 2 a Deactivate, 3 a State request; 0 and each from 4 to 255 are reserved.
unfoldable pub by_type : ℕ → ℕ → Request
by_type kind seconds =
    cond (eqb kind 1) (Activate seconds) (cond (eqb kind 2) Deactivate (cond (eqb kind 3) State Reserved))

-- REQUEST-1, REQUEST-12, REQUEST-15: what a request of 12 octets or more says, sent to this destination: malformed goes ahead of its type;
-- flags, response code and octets after End are not looked at.
unfoldable pub request_of : Addressed → ℕ → List ℕ → Request
request_of whom to pdu =
    cond (malformed whom to pdu) Malformed (by_type (type_of pdu) (get_or (timers (tlvs_of pdu).tlvs) 0 0))

-- TLV-12, REPLY-14: the octets of the unknown TLVs, which its reply copies.
unfoldable pub copies_of : List ℕ → List ℕ
copies_of pdu = tlv_list (unknowns (tlvs_of pdu).tlvs)

-- REQUEST-5, REPLY-15: what is read of it: what it says, and how many octets its reply copies; of a malformed one, none.
unfoldable pub read_of : Addressed → ℕ → List ℕ → Read
read_of whom to pdu =
    record { request = request_of whom to pdu; copies = cond (malformed whom to pdu) 0 (length (copies_of pdu)) }

-- REPLY-14, REPLY-15: what a reply copies of it, by the count that was read; nothing where that is 0.
unfoldable pub copied : ℕ → List ℕ → List ℕ
copied count pdu = cond (eqb count 0) [] (copies_of pdu)
