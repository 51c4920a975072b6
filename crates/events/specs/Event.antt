-- The program shift (C-11) (SHIFT): an event of a unit's log, and the line that it is read from.
use Rattle.std.specs.Prelude.{List, [], ◌∷◌, Bool, cond, ◌&&◌, ◌||◌, ℕ, ◌+◌, ◌*◌, ◌%◌, length, eqb, leb}
use Rattle.octets.specs.Octets.{same}
use Rattle.octets.specs.Lists.{every}
use Rattle.octets.specs.Text.{text, digit}
use Rattle.plan.specs.Line.{tab, parted, field, is_number, number_in}
use Rattle.plan_lines.specs.Fields.{is_hex}

-- SHIFT-8: the events of six words (SHIFT-9, SHIFT-10, SHIFT-11, SHIFT-12, SHIFT-13), and no other; or a line that cannot be read.
pub data Event : Type 0 where
  frame : (port side : ℕ) (octets : List ℕ) → Event
  tick : (reading : ℕ) → Event
  allow : (flow : ℕ) → Event
  prohibit : (flow : ℕ) → Event
  notice : Event
  restart : (reading : ℕ) → Event
  unreadable : Event

-- SHIFT-16: a line has at most 4,100 octets, its LF not counted.
abbrev pub line_room : ℕ
line_room = 4100

-- SHIFT-14: numbers are written as those of a plan and go up to 4,294,967,295.
abbrev pub highest : ℕ
highest = 4294967295

unfoldable pub is_count : List ℕ → Bool
is_count l = is_number l && leb (number_in l) highest

-- SHIFT-15: hex is in lower case, two digits an octet, and not empty.
unfoldable pub is_hexed : List ℕ → Bool
is_hexed l = leb 2 (length l) && eqb (length l % 2) 0 && every is_hex l

unfoldable pub unhexed : List ℕ → List ℕ
unhexed [] = []
unhexed (a ∷ []) = []
unhexed (a ∷ b ∷ l) = (digit a * 16 + digit b) ∷ unhexed l

-- SHIFT-15: a frame is written in hex, or as `-` if it is empty.
unfoldable pub is_octets : List ℕ → Bool
is_octets l = same l (text "-") || is_hexed l

unfoldable pub octets_in : List ℕ → List ℕ
octets_in l = cond (same l (text "-")) [] (unhexed l)

-- SHIFT-9: `frame`, port, side, the frame in hex.
unfoldable pub as_frame : List (List ℕ) → Event
as_frame fields =
    cond
    (eqb (length fields) 4
    && is_count (field 2 fields)
    && is_count (field 3 fields)
    && is_octets (field 4 fields))
    (frame (number_in (field 2 fields)) (number_in (field 3 fields)) (octets_in (field 4 fields)))
    unreadable

-- SHIFT-10, SHIFT-11, SHIFT-13: a word and one number, a clock reading or a flow.
unfoldable pub as_numbered : (ℕ → Event) → List (List ℕ) → Event
as_numbered event fields =
    cond (eqb (length fields) 2 && is_count (field 2 fields)) (event (number_in (field 2 fields))) unreadable

-- SHIFT-12: `notice`, with no field after it.
unfoldable pub as_notice : List (List ℕ) → Event
as_notice fields = cond (eqb (length fields) 1) notice unreadable

-- SHIFT-8, SHIFT-17: a line is read by its word, one of six; a line with any other cannot be read.
unfoldable pub by_word : List (List ℕ) → Event
by_word fields =
    cond (same (field 1 fields) (text "frame")) (as_frame fields)
    (cond (same (field 1 fields) (text "tick")) (as_numbered tick fields)
    (cond (same (field 1 fields) (text "allow")) (as_numbered allow fields)
    (cond (same (field 1 fields) (text "prohibit")) (as_numbered prohibit fields)
    (cond (same (field 1 fields) (text "notice")) (as_notice fields)
    (cond (same (field 1 fields) (text "restart")) (as_numbered restart fields) unreadable)))))

-- SHIFT-8, SHIFT-16: fields have one tab between them; a line of over 4,100 octets cannot be read.
unfoldable pub event_of : List ℕ → Event
event_of line = cond (leb (length line) line_room) (by_word (parted tab line)) unreadable
