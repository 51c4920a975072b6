-- The program shift (C-11) (SHIFT): the line that an event is written as.
use Rattle.std.specs.Prelude.{Bool, true, ◌&&◌, List, [], ◌∷◌, ℕ, length, leb}
use Rattle.octets.specs.Lists.{every}
use Rattle.octets.specs.Text.{text}
use Rattle.plan.specs.WrittenPlan.{tabbed}
use Rattle.events.specs.Event.{Event, frame, tick, allow, prohibit, notice, restart, unreadable, highest, line_room}
use Rattle.events.specs.AnswerLine.{in_decimal, in_hex}

-- SHIFT-24: the fields of an event. (One that cannot be read has one field, which is empty.)
unfoldable pub fields_of : Event → List (List ℕ)
fields_of (frame port side octets) = text "frame" ∷ in_decimal port ∷ in_decimal side ∷ in_hex octets ∷ []
fields_of (tick reading) = text "tick" ∷ in_decimal reading ∷ []
fields_of (allow flow) = text "allow" ∷ in_decimal flow ∷ []
fields_of (prohibit flow) = text "prohibit" ∷ in_decimal flow ∷ []
fields_of notice = text "notice" ∷ []
fields_of (restart reading) = text "restart" ∷ in_decimal reading ∷ []
fields_of unreadable = [] ∷ []

-- SHIFT-24: an event written as a line.
unfoldable pub event_line : Event → List ℕ
event_line e = tabbed (fields_of e)

-- SHIFT-14, SHIFT-24: its numbers are in range, and its octets are octets.
unfoldable pub numbers_fit : Event → Bool
numbers_fit (frame port side octets) = leb port highest && leb side highest && every (λ x. leb x 255) octets
numbers_fit (tick reading) = leb reading highest
numbers_fit (allow flow) = leb flow highest
numbers_fit (prohibit flow) = leb flow highest
numbers_fit notice = true
numbers_fit (restart reading) = leb reading highest
numbers_fit unreadable = true

-- SHIFT-16, SHIFT-24: its numbers are in range, and its line is not too long.
unfoldable pub is_logged : Event → Bool
is_logged e = numbers_fit e && leb (length (event_line e)) line_room
