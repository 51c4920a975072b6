-- An event that a log holds is read back from its own line.
use mathlib.Core.Path.{◌≡◌, refl}
use mathlib.Core.Bool.{true, ◌&&◌}
use mathlib.Core.List.{List, [], ◌∷◌}
use Prim.Native.Nat.{ℕ, ◌≤◌}
use native.Mathlib.Omega.{arith}
use lib.Dec.{leb}
use lib.ListN.{length}
use borrow.Author.Tests.{leb-true}
use Rattle.octets.specs.Octets.{same}
use Rattle.octets.specs.Lists.{every}
use Rattle.octets.specs.Text.{text}
use Rattle.octets.proofs.Same.{both_true}
use Rattle.plan.specs.Line.{field}
use Rattle.plan.proofs.WrittenFields.{plain, parted_tabbed}
use Rattle.events.specs.Event.{Event, frame, tick, allow, prohibit, notice, restart, unreadable, highest, line_room}
use Rattle.events.specs.Event.{as_frame, as_numbered, as_notice, by_word, event_of}
use Rattle.events.specs.AnswerLine.{in_decimal}
use Rattle.events.specs.Log.{fields_of, event_line, numbers_fit, is_logged}
use Rattle.events.proofs.FieldRound.{count_back, count_is, count_plain, octets_back, octets_is, octets_plain}

-- every event has a field, and none of its fields has a tab
fields_some : (e : Event) → 1 ≤ length (fields_of e)
unfolding fields_of
fields_some (frame port side octets) = omega arith
fields_some (tick reading) = omega arith
fields_some (allow flow) = omega arith
fields_some (prohibit flow) = omega arith
fields_some notice = omega arith
fields_some (restart reading) = omega arith
fields_some unreadable = omega arith

fields_plain : (e : Event) → every plain (fields_of e) ≡ true
unfolding fields_of every text
fields_plain (frame port side octets) = rw (count_plain port, count_plain side, octets_plain octets)
fields_plain (tick reading) = rw (count_plain reading)
fields_plain (allow flow) = rw (count_plain flow)
fields_plain (prohibit flow) = rw (count_plain flow)
fields_plain notice = refl
fields_plain (restart reading) = rw (count_plain reading)
fields_plain unreadable = refl

-- a word and its number
by_number : (event : ℕ → Event) (word : List ℕ) (x : ℕ) → leb x highest ≡ true
    → as_numbered event (word ∷ in_decimal x ∷ []) ≡ event x
unfolding as_numbered field
by_number event word x h = let p : x ≤ highest = leb-true x highest h in rw (count_is x p, count_back x p)

-- an event by its own fields
by_fields : (e : Event) → numbers_fit e ≡ true → by_word (fields_of e) ≡ e
unfolding numbers_fit by_word fields_of as_frame as_notice field same text
by_fields (frame port side octets) h =
    let b : _ = both_true (leb port highest && leb side highest) (every (λ (x : ℕ). leb x 255) octets) h in
    let n : _ = both_true (leb port highest) (leb side highest) b.0 in
    let p : port ≤ highest = leb-true port highest n.0 in
    let s : side ≤ highest = leb-true side highest n.1 in
    rw (
      count_is port p,
      count_is side s,
      octets_is octets b.1,
      count_back port p,
      count_back side s,
      octets_back octets b.1,
    )
by_fields (tick reading) h = by_number tick (text "tick") reading h
by_fields (allow flow) h = by_number allow (text "allow") flow h
by_fields (prohibit flow) h = by_number prohibit (text "prohibit") flow h
by_fields notice h = refl
by_fields (restart reading) h = by_number restart (text "restart") reading h
by_fields unreadable h = refl

-- C-11: a log's own line of an event is read as that event.
pub line_round : (e : Event) → is_logged e ≡ true → event_of (event_line e) ≡ e
unfolding is_logged event_of event_line
line_round e h =
    let b : _ = both_true (numbers_fit e) (leb (length (event_line e)) line_room) h in
    rw (b.1, parted_tabbed (fields_of e) (fields_some e) (fields_plain e)) (by_fields e b.0)
