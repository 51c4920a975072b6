-- TLVs (TLV): what the reader finds at a place of the PDU, and what it gathers of a whole list. Only the code's promises cite these: what a
-- list is, and when it is bad, is said in `Tlv`.
use Rattle.std.specs.Prelude.{List, [], cond, ℕ, ◌+◌, length, drop, get_or, slice_get, eqb, ltb, leb, is_some, Option, Some, None, Result, Ok, Err}
use Rattle.octets.specs.Octets.{number}
use Rattle.codec_tlvs.specs.declared.Tlv.{Tlv as Found}
use Rattle.codec_tlvs.specs.declared.BadList.{BadList}
use Rattle.codec_tlvs.specs.declared.Summary.{Summary}
use Rattle.codec_tlvs.specs.Tlv.{Tlv, Parsed, is_unknown, unknowns, timers, bad_list, tlv_octets, tlv_list}

-- the one value of that error
abbrev pub bad : BadList
bad = record {}

-- TLV-2, TLV-3, TLV-4, TLV-5: what stands at a place: a TLV with its type, the start and the length of its value, and the place after it;
-- none at the End; a bad list, where nothing fits in the PDU.
unfoldable pub step_at : List ℕ → ℕ → Result (Option Found) BadList
step_at l at =
    cond (ltb at (length l))
    (cond (eqb (get_or l at 0) 0) (Ok None)
    (cond (leb (at + 3 + number 2 (drop (at + 1) l)) (length l))
    (Ok (Some (record {
      kind = get_or l at 0;
      start = at + 3;
      len = number 2 (drop (at + 1) l);
      next = at + 3 + number 2 (drop (at + 1) l);
    })))
    (Err bad)))
    (Err bad)

-- TLV-7, TLV-8: the seconds that a timer's value holds; a value of any length but 5 is bad. (So is an empty one of type 37.)
unfoldable pub timer_of : List ℕ → Result ℕ BadList
timer_of value = cond (eqb (length value) 5) (Ok (number 4 (drop 1 value))) (Err bad)

-- the TLV of a type and a value
abbrev pub tlv_of : ℕ → List ℕ → Tlv
tlv_of kind value = record { kind = kind; value = value }

-- REPLY-14: the octets that a TLV adds to what is copied.
unfoldable pub kept : ℕ → List ℕ → List ℕ
kept kind value = cond (is_unknown (tlv_of kind value)) (tlv_octets (tlv_of kind value)) []

-- What a list comes to, if it is not bad: the seconds of its timer, if it has one, and how many octets of unknown TLVs.
unfoldable pub summary_of : Parsed → Result Summary BadList
summary_of p =
    cond (bad_list p) (Err bad)
    (Ok (record { seconds = slice_get (timers p.tlvs) 0; unknown = length (tlv_list (unknowns p.tlvs)) }))

-- a summary with an unknown TLV more, whose value has that length
abbrev pub with_unknown : Summary → ℕ → Summary
with_unknown s n = record { seconds = s.seconds; unknown = s.unknown + 3 + n }

-- TLV-9: a summary with a timer more; a second one makes the list bad.
abbrev pub with_timer : Summary → ℕ → Result Summary BadList
with_timer s n = cond (is_some s.seconds) (Err bad) (Ok (record { seconds = Some n; unknown = s.unknown }))

-- TLV-8, TLV-9: a summary with what the value of a timer says; a broken one makes the list bad.
abbrev pub by_timer : Summary → Result ℕ BadList → Result Summary BadList
by_timer s (Ok n) = with_timer s n
by_timer s (Err e) = Err e

-- a summary with one TLV more; type 0 adds nothing
unfoldable pub count : Summary → ℕ → List ℕ → Result Summary BadList
count s kind value =
    cond (is_unknown (tlv_of kind value)) (Ok (with_unknown s (length value)))
    (cond (eqb kind 37) (by_timer s (timer_of value)) (Ok s))
