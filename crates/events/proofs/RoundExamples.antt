-- `line_round` by example: events that a log holds, and one without each of its conditions, which its line does not give back.
use mathlib.Core.Path.{◌≡◌, refl}
use mathlib.Core.Bool.{true, false}
use mathlib.Core.List.{List, [], ◌∷◌, map}
use lib.ListN.{length, replicate}
use Rattle.octets.specs.Lists.{every}
use Rattle.events.specs.Event.{Event, frame, tick, allow, prohibit, notice, restart, unreadable, event_of}
use Rattle.events.specs.Log.{fields_of, event_line, numbers_fit, is_logged}
use Rattle.events.proofs.Examples.{read, print}
use Rattle.events.proofs.LineRound.{line_round}

-- an event's line read. To unfold it is to unfold all that this computes, and whether a log holds the event.
round : Event → Event
unfolding read print is_logged numbers_fit event_line fields_of
round e = event_of (event_line e)

-- an event of each kind, and the longest frame that a line holds
each : List Event
each =
    frame 4294967295 4294967295 (0x00 ∷ 0x1F ∷ 0xA0 ∷ 0xFF ∷ [])
    ∷ frame 1 0 []
    ∷ frame 1 0 (replicate 2045 0xAA)
    ∷ tick 4294967295
    ∷ allow 0
    ∷ prohibit 10
    ∷ notice
    ∷ restart 60000
    ∷ unreadable
    ∷ []

each_is_logged : every is_logged each ≡ true
unfolding round each
each_is_logged = refl

each_is_read_back : map (λ e. event_of (event_line e)) each ≡ each
unfolding round each
each_is_read_back = refl

-- the law's condition is met by computing
the_law_at_a_frame : event_of (event_line (frame 1 0 (0x01 ∷ 0x80 ∷ 0xC2 ∷ []))) ≡ frame 1 0 (0x01 ∷ 0x80 ∷ 0xC2 ∷ [])
unfolding round
the_law_at_a_frame = line_round (frame 1 0 (0x01 ∷ 0x80 ∷ 0xC2 ∷ [])) refl

-- numbers that are too high, an octet that is none, and a line of 4,102 octets
others : List Event
others =
    tick 4294967296
    ∷ allow 4294967296
    ∷ prohibit 4294967296
    ∷ restart 4294967296
    ∷ frame 4294967296 0 []
    ∷ frame 1 4294967296 []
    ∷ frame 1 0 (256 ∷ [])
    ∷ frame 1 0 (replicate 2046 0xAA)
    ∷ []

none_of_the_others_is_logged : map is_logged others ≡ replicate 8 false
unfolding round others
none_of_the_others_is_logged = refl

none_of_the_others_is_read_back : map (λ e. event_of (event_line e)) others ≡ replicate 8 unreadable
unfolding round others
none_of_the_others_is_read_back = refl

the_line_too_long : length (event_line (frame 1 0 (replicate 2046 0xAA))) ≡ 4102
unfolding round
the_line_too_long = refl
