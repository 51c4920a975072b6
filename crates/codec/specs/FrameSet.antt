-- Frame sets (SET): a frame's addresses, its tag, and the frame set that it belongs to.
use Rattle.std.specs.Prelude.{List, [], ◌∷◌, Bool, cond, ◌&&◌, ◌||◌, ℕ, ◌+◌, ◌/◌, ◌%◌, ◌^◌, length, drop, eqb, ltb, Option, Some, None}
use Rattle.octets.specs.Octets.{number}
use Rattle.octets.specs.Lists.{within}
use Rattle.codec.specs.declared.FrameSet.{FrameSet}
use Rattle.codec.specs.declared.Place.{Place}

-- PLAN-3: the kinds of ports, 1 UNI and 2 ENNI.
abbrev pub uni : ℕ
uni = 1

abbrev pub enni : ℕ
enni = 2

-- PLAN-4, SET-4, SET-5, SET-6: the kinds of frame sets, 1 `u`, 2 `c` and 3 `s`.
abbrev pub untagged : ℕ
untagged = 1

abbrev pub c_tagged : ℕ
c_tagged = 2

abbrev pub s_tagged : ℕ
s_tagged = 3

-- REFUSAL-1: the sides, 0 External and 1 CEN.
abbrev pub external : ℕ
external = 0

abbrev pub cen : ℕ
cen = 1

-- SET-1: octets 1 to 6 are the destination and 7 to 12 the source, with the highest octet first.
unfoldable pub destination : List ℕ → ℕ
destination frame = number 6 frame

unfoldable pub source : List ℕ → ℕ
source frame = number 6 (drop 6 frame)

-- SET-3, PLAN-10, MACHINE-33: in a group address the lowest bit of octet 1 is set.
unfoldable pub group : ℕ → Bool
group address = eqb (address / 2 ^ 40 % 2) 1

-- SET-1, SET-2: the type after so many octets of tag.
unfoldable pub type_behind : ℕ → List ℕ → ℕ
type_behind taglen frame = number 2 (drop (12 + taglen) frame)

-- SET-2: the types of tags, 0x8100 for a C-tag and 0x88A8 for an S-tag.
abbrev pub c_tag : ℕ
c_tag = 0x8100

abbrev pub s_tag : ℕ
s_tag = 0x88A8

-- SET-2: the VID has the low 12 bits of a tag; the other four decide nothing.
unfoldable pub vid_of : ℕ → ℕ
vid_of tag = tag % 4096

-- the frame set of a kind and a VID
unfoldable pub set_of : ℕ → ℕ → FrameSet
set_of kind vid = record { kind = kind; vid = vid }

-- a set that a frame belongs to, and how many octets of tag stand before its type
pub data Member : Type 0 where
  member : (set : FrameSet) (taglen : ℕ) → Member

-- that set and no other
abbrev pub only : FrameSet → ℕ → List Member
only set taglen = member set taglen ∷ []

-- SET-4, SET-5, SET-9: a VID of 1 to 4094 gives the set of that VID, with a tag of four octets; 0 and 4095 give no set.
unfoldable pub tagged : ℕ → ℕ → List Member
tagged kind vid = cond (within 1 4094 vid) (only (set_of kind vid) 4) []

-- SET-4, SET-5, SET-7: a C-tag at a UNI gives `c`, an S-tag at an ENNI `s`; an S-tag at a UNI and a C-tag at an ENNI give no set.
unfoldable pub by_tag : ℕ → ℕ → ℕ → List Member
by_tag portKind tagType tag =
    cond (eqb portKind uni && eqb tagType c_tag) (tagged c_tagged (vid_of tag))
    (cond (eqb portKind enni && eqb tagType s_tag) (tagged s_tagged (vid_of tag)) [])

-- STATE-6: does a tag, given as its count of octets and their number, fit the set? `u` has none; `c` and `s` have four octets with that tag
-- type and VID.
unfoldable pub tag_fits : FrameSet → ℕ → ℕ → Bool
tag_fits set taglen tag =
    cond (eqb set.kind untagged) (eqb taglen 0 && eqb tag 0)
    (eqb taglen 4 && eqb (tag / 2 ^ 16) (cond (eqb set.kind c_tagged) c_tag s_tag) && eqb (vid_of tag) set.vid)

-- SET-3, SET-6, SET-8: the sets, at most one, of a frame of 14 octets or more at a port of this kind: none with a group source, none with a
-- tag type in fewer than 18 octets, `u` with any other type.
unfoldable pub sets_of : ℕ → List ℕ → List Member
sets_of portKind frame =
    cond (group (source frame)) []
    (cond (eqb (type_behind 0 frame) c_tag || eqb (type_behind 0 frame) s_tag)
    (cond (ltb (length frame) 18) [] (by_tag portKind (type_behind 0 frame) (number 2 (drop 14 frame))))
    (only (set_of untagged 0) 0))

-- the sets as the code holds them, which has no lists
unfoldable pub sets_in : Option Place → List Member
sets_in None = []
sets_in (Some p) = only p.set p.taglen

-- SET-13, REPLY-4: the type of SOAM, 0x8902.
abbrev pub oam_type : ℕ
oam_type = 0x8902

-- SET-13: is 0x8902 the type right after the tag of the set? Beneath a second tag it does not count.
unfoldable pub soam : ℕ → List ℕ → Bool
soam taglen frame = eqb (type_behind taglen frame) oam_type

-- SET-14, UNIT-7: the PDU is all that follows this type up to the end of the frame; nothing is stripped.
unfoldable pub pdu_of : ℕ → List ℕ → List ℕ
pdu_of taglen frame = drop (14 + taglen) frame
