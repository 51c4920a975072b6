-- "Finding the machine", by computation.
use mathlib.Core.Path.{◌≡◌, refl}
use mathlib.Core.Bool.{Bool, true, false}
use mathlib.Core.List.{List, [], ◌∷◌, ◌++◌, map}
use Prim.Native.Nat.{ℕ}
use Rattle.octets.specs.Octets.{number}
use Rattle.octets.specs.Lists.{within}
use Rattle.octets.specs.Text.{hex}
use Rattle.codec.specs.FrameSet.{uni, enni, untagged, c_tagged, s_tagged, external, cen}
use Rattle.codec.specs.FrameSet.{source, group, type_behind, vid_of, set_of, tagged, by_tag, tag_fits, Member, only, sets_of, soam, pdu_of}
use Rattle.codec.specs.Request.{octet, opcode_of, is_request}

numbers_of_port_kinds : uni ∷ enni ∷ [] ≡ 1 ∷ 2 ∷ []
numbers_of_port_kinds = refl

numbers_of_set_kinds : untagged ∷ c_tagged ∷ s_tagged ∷ [] ≡ 1 ∷ 2 ∷ 3 ∷ []
numbers_of_set_kinds = refl

numbers_of_sides : external ∷ cen ∷ [] ≡ 0 ∷ 1 ∷ []
numbers_of_sides = refl

-- a frame from the tester to the port, with these octets behind the addresses
frame : List ℕ → List ℕ
unfolding hex
frame rest = hex "02 00 00 00 00 01 02 00 00 00 00 AA" ++ rest

abbrev u : List Member
u = only (record { kind = untagged; vid = 0 }) 0

abbrev c : ℕ → List Member
c vid = only (record { kind = c_tagged; vid = vid }) 4

abbrev s : ℕ → List Member
s vid = only (record { kind = s_tagged; vid = vid }) 4

sets : ℕ → List ℕ → List Member
unfolding sets_of by_tag tagged set_of vid_of type_behind group source within number
sets port received = sets_of port received

-- the octets behind the addresses, the frame's sets at a UNI, and its sets at an ENNI
abbrev belongings : List (List ℕ × List Member × List Member)
belongings =
    -- the port's own tag, and the wrong one
    (hex "81 00 00 14 08 00 45", c 20, [])
    ∷ (hex "88 A8 00 14 08 00 45", [], s 20)
    -- any tag beneath it is disregarded
    ∷ (hex "81 00 00 14 88 A8 00 1E 08 00", c 20, [])
    ∷ (hex "88 A8 00 14 81 00 00 1E 08 00", [], s 20)
    -- neither tag type first
    ∷ (hex "08 00 45", u, u)
    ∷ (hex "91 00 00 14 08 00 45", u, u)
    ∷ (hex "91 00", u, u)
    -- 14 to 17 octets cut the tag short, 18 do not
    ∷ (hex "81 00", [], [])
    ∷ (hex "81 00 00", [], [])
    ∷ (hex "81 00 00 14", [], [])
    ∷ (hex "81 00 00 14 08", [], [])
    ∷ (hex "81 00 00 14 08 00", c 20, [])
    ∷ (hex "88 A8 00 14 08", [], [])
    ∷ (hex "88 A8 00 14 08 00", [], s 20)
    -- VID 0 and 4095, and those beside them
    ∷ (hex "81 00 00 00 08 00", [], [])
    ∷ (hex "81 00 00 01 08 00", c 1, [])
    ∷ (hex "81 00 0F FE 08 00", c 4094, [])
    ∷ (hex "81 00 0F FF 08 00", [], [])
    ∷ (hex "88 A8 0F FE 08 00", [], s 4094)
    ∷ (hex "88 A8 0F FF 08 00", [], [])
    -- the upper four bits are not the VID's
    ∷ (hex "81 00 F0 14 08 00", c 20, [])
    ∷ (hex "81 00 F0 00 08 00", [], [])
    ∷ []

each_frame_has_its_sets : map (λ row. (row.0, sets uni (frame row.0), sets enni (frame row.0))) belongings ≡ belongings
unfolding sets frame
each_frame_has_its_sets = refl

-- the first octet of a source address, and the sets of its C-tagged frame
abbrev sources : List (ℕ × List Member)
sources = (0x00, c 20) ∷ (0x01, []) ∷ (0x80, c 20) ∷ (0xFE, c 20) ∷ (0xFF, []) ∷ []

group_source_has_no_set :
    map (λ row. (row.0, sets uni (hex "02 00 00 00 00 01" ++ row.0 ∷ hex "00 00 00 00 01 81 00 00 14 08 00"))) sources ≡ sources
unfolding sets hex
group_source_has_no_set = refl

-- the octets of tag, the octets behind the addresses, is the frame SOAM, and is it a request
abbrev oam : List (ℕ × List ℕ × Bool × Bool)
oam =
    -- straight after the set's own tag, with opcodes 57 and 56
    (0, hex "89 02 80 39", true, true)
    ∷ (4, hex "81 00 00 14 89 02 80 39", true, true)
    ∷ (4, hex "81 00 00 14 89 02 80 38", true, false)
    -- a PDU of one octet or none has no opcode
    ∷ (4, hex "81 00 00 14 89 02 39", true, false)
    ∷ (4, hex "81 00 00 14 89 02", true, false)
    -- another type
    ∷ (4, hex "81 00 00 14 89 03 80 39", false, false)
    -- under a second tag it is data
    ∷ (4, hex "81 00 00 14 81 00 00 1E 89 02 80 39", false, false)
    ∷ (4, hex "81 00 00 14 88 A8 00 1E 89 02 80 39", false, false)
    ∷ (0, hex "91 00 00 14 89 02 80 39", false, false)
    ∷ []

only_straight_after_its_own_tag :
    map (λ row. (row.0, row.1, soam row.0 (frame row.1), is_request row.0 (frame row.1))) oam ≡ oam
unfolding is_request soam opcode_of octet pdu_of type_behind number frame
only_straight_after_its_own_tag = refl

-- the kind of a set of VID 20, octets of tag and their number, and do they fit
abbrev tags : List (ℕ × ℕ × ℕ × Bool)
tags =
    (c_tagged, 4, 0x81000014, true)
    ∷ (s_tagged, 4, 0x88A80014, true)
    -- priority bits may be any
    ∷ (c_tagged, 4, 0x8100F014, true)
    -- another VID, another type, too few octets
    ∷ (c_tagged, 4, 0x81000015, false)
    ∷ (c_tagged, 4, 0x88A80014, false)
    ∷ (s_tagged, 4, 0x81000014, false)
    ∷ (c_tagged, 0, 0x81000014, false)
    -- no tag
    ∷ (untagged, 0, 0, true)
    ∷ (untagged, 4, 0x81000014, false)
    ∷ (untagged, 0, 1, false)
    ∷ []

tag_octets_of_the_set :
    map (λ row. (row.0, row.1, row.2, tag_fits (record { kind = row.0; vid = 20 }) row.1 row.2)) tags ≡ tags
unfolding tag_fits vid_of
tag_octets_of_the_set = refl
