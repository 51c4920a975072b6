-- An event as the code holds it: a frame's octets stand in the caller's buffer.
use Rattle.std.specs.Prelude.{◌≡◌, cond, Option, Some, None, List, [], ℕ, ◌+◌, length}
use Rattle.octets.specs.Octets.{over, splice, same}
use Rattle.octets.specs.Text.{text}
use Rattle.plan.specs.Line.{number_in}
use Rattle.events.specs.declared.Logged.{Logged}
use Rattle.events.specs.declared.Logged.TheVariants.{Frame, Tick, Allow, Prohibit, Notice, Restart}
use Rattle.events.specs.Event.{Event, frame, tick, allow, prohibit, notice, restart, unreadable}
use Rattle.events.specs.Event.{is_count, is_octets, octets_in}

-- an event by value: of a frame's octets only their count; none that cannot be read
unfoldable pub logged : Event → Option Logged
logged (frame port side octets) = Some (Frame port side (length octets))
logged (tick reading) = Some (Tick reading)
logged (allow flow) = Some (Allow flow)
logged (prohibit flow) = Some (Prohibit flow)
logged notice = Some Notice
logged (restart reading) = Some (Restart reading)
logged unreadable = None

-- the octets of a frame; no other event has any
unfoldable pub octets_of : Event → List ℕ
octets_of (frame port side octets) = octets
octets_of (tick reading) = []
octets_of (allow flow) = []
octets_of (prohibit flow) = []
octets_of notice = []
octets_of (restart reading) = []
octets_of unreadable = []

-- an event that was read: by value, and its octets at the front of a buffer
pub record ReadAs (e : Event) (r : Option Logged) (before after : List ℕ) : Type 0 where
  pub event : r ≡ logged e
  pub octets : after ≡ over (octets_of e) before

-- a field as a number; nothing if it is none
unfoldable pub count_in : List ℕ → Option ℕ
count_in l = cond (is_count l) (Some (number_in l)) None

-- a field as octets, at the front of a buffer, by how many there are; a field that is none leaves the buffer as it was
pub record HexAs (l : List ℕ) (r : Option ℕ) (before after : List ℕ) : Type 0 where
  pub told : r ≡ cond (is_octets l) (Some (length (octets_in l))) None
  pub octets : after ≡ cond (is_octets l) (over (octets_in l) before) before

-- a word with a number after it; no other word has just a number
unfoldable pub numbered : List ℕ → ℕ → Event
numbered word n =
    cond (same word (text "tick")) (tick n)
    (cond (same word (text "allow")) (allow n)
    (cond (same word (text "prohibit")) (prohibit n) (cond (same word (text "restart")) (restart n) unreadable)))

-- octets written from a place on, and the place after them
pub record Put (w : List ℕ) (at r : ℕ) (before after : List ℕ) : Type 0 where
  pub place : r ≡ at + length w
  pub written : after ≡ splice at w before
