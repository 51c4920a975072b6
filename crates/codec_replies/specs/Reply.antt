-- Replies (REPLY): a reply octet by octet, and how a data frame is looped (MACHINE-32, MACHINE-33, MACHINE-34).
use Rattle.std.specs.Prelude.{List, [], ◌∷◌, ◌++◌, Bool, cond, ◌&&◌, ◌||◌, not, ℕ, ◌+◌, ◌*◌, length, take, drop, eqb, Option, Some, None}
use Rattle.octets.specs.Octets.{octets}
use Rattle.octets.specs.Lists.{within}
use Rattle.codec.specs.declared.Status.{Status}
use Rattle.codec_replies.specs.declared.ReplyFields.{ReplyFields}
use Rattle.codec.specs.Request.{llr, copied}
use Rattle.codec.specs.FrameSet.{destination, external, group, oam_type}

-- REPLY-7, REPLY-8: flag bit 1 is set if the machine is active, so that its session has a side; bit 2 with it, if that is External.
abbrev pub side_flags : Option ℕ → ℕ
side_flags None = 0
side_flags (Some side) = cond (eqb side external) 3 1

-- REPLY-7: both in types 1, 2 and 3 alone.
unfoldable pub active_flags : ℕ → Status → ℕ
active_flags kind status = cond (within 1 3 kind) (side_flags status.side) 0

-- REPLY-9, REPLY-10: flag bit 3 is set if at least one unknown TLV is copied; bits 4 to 8 are 0.
unfoldable pub flags_by : ℕ → Status → Bool → ℕ
flags_by kind status copied = active_flags kind status + cond copied 4 0

unfoldable pub flags : ℕ → Status → List ℕ → ℕ
flags kind status copies = flags_by kind status (not (eqb (length copies) 0))

-- REPLY-5: octet 1 is the level times 32; then opcode 56, flags, offset 8, message type, response code, and the port's address.
unfoldable pub header : ℕ → ℕ → ℕ → ℕ → ℕ → List ℕ
header level flagged kind code port = level * 32 ∷ llr ∷ flagged ∷ 8 ∷ kind ∷ code ∷ octets 6 port

-- REPLY-11: the timer TLV, `25 00 05 01` and four octets of seconds.
unfoldable pub timer_tlv : ℕ → List ℕ
timer_tlv seconds = 37 ∷ 0 ∷ 5 ∷ 1 ∷ octets 4 seconds

-- REPLY-11, REPLY-15, REPLY-16: the timer TLV is in types 1 and 3, but not with code 1.
unfoldable pub carries_timer : ℕ → ℕ → Bool
carries_timer kind code = (eqb kind 1 || eqb kind 3) && not (eqb code 1)

unfoldable pub timer_part : ℕ → ℕ → ℕ → List ℕ
timer_part kind code seconds = cond (carries_timer kind code) (timer_tlv seconds) []

-- REPLY-5, REPLY-11, REPLY-14, REPLY-17: twelve octets, the timer TLV where it is carried, the copies, one End, no padding or FCS (UNIT-7).
-- (What is copied, and that an inactive machine has 0 seconds, is said where the reply is asked for.)
unfoldable pub reply_pdu : ℕ → ℕ → ℕ → ℕ → Status → List ℕ → List ℕ
reply_pdu level kind code port status copies =
    header level (flags kind status copies) kind code port ++ timer_part kind code status.seconds ++ copies ++ (0 ∷ [])

-- REPLY-5, REPLY-14: the PDU of a reply that copies so many octets of its request.
unfoldable pub reply_of : ReplyFields → ℕ → List ℕ → List ℕ
reply_of r count request = reply_pdu r.level r.kind r.code r.port r.status (copied count request)

-- REPLY-1, REPLY-2, REPLY-3, REPLY-4: destination, source (apart from the PDU's address), tag, type 0x8902, then the PDU (REPLY-18).
unfoldable pub reply_frame : ℕ → ℕ → List ℕ → List ℕ → List ℕ
reply_frame requester from tag pdu = octets 6 requester ++ octets 6 from ++ tag ++ octets 2 oam_type ++ pdu

-- REPLY-3: the request's own tag, all its octets; none if it is untagged.
unfoldable pub tag_of : ℕ → List ℕ → List ℕ
tag_of taglen frame = take taglen (drop 12 frame)

-- MACHINE-32, MACHINE-33, MACHINE-34: the addresses are exchanged, with the port's for a group destination; octets from 13 on stay.
unfoldable pub looped : ℕ → List ℕ → List ℕ
looped port frame =
    take 6 (drop 6 frame) ++ cond (group (destination frame)) (octets 6 port) (take 6 frame) ++ drop 12 frame
