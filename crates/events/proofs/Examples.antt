-- C-11 by example: what lines of a log are read as, and what lines are printed.
use mathlib.Core.Path.{◌≡◌, refl}
use mathlib.Core.Bool.{Bool, true, false}
use mathlib.Core.List.{List, [], ◌∷◌, ◌++◌, map}
use Prim.Native.Nat.{ℕ}
use Prim.Native.String.{String}
use lib.ListN.{replicate}
use Rattle.octets.specs.Octets.{same}
use Rattle.octets.specs.Lists.{within, every}
use Rattle.octets.specs.Text.{text, digit}
use Rattle.plan.specs.Line.{joined, parted, field, is_digit, is_number, spelled, number_in}
use Rattle.plan.specs.WrittenPlan.{decimal, hex_digit, tabbed}
use Rattle.events.specs.Event.{Event, frame, tick, allow, prohibit, notice, restart, unreadable}
use Rattle.plan_lines.specs.Fields.{is_hex}
use Rattle.events.specs.Event.{is_count, is_hexed, unhexed, is_octets, octets_in}
use Rattle.events.specs.Event.{as_frame, as_numbered, as_notice, by_word, event_of}
use Rattle.events.specs.AnswerLine.{Got, refused, answered, outcomes, in_decimal, hexed, in_hex, places_of, answer_line, fault_line}
use Rattle.events.specs.Log.{fields_of, event_line}

-- A line read. To unfold it is to unfold all that reading computes.
unfoldable pub read : List ℕ → Event
unfolding event_of by_word as_notice as_numbered as_frame octets_in is_octets unhexed is_hexed is_hex is_count number_in spelled is_number
    is_digit field parted joined digit text every within same
read l = event_of l

lines_of_each_word_are_read :
    map (λ s. event_of (text s))
    ("frame\t1\t0\t0180c2"
    ∷ "frame\t8\t1\t-"
    ∷ "tick\t60000"
    ∷ "allow\t1"
    ∷ "prohibit\t32"
    ∷ "notice"
    ∷ "restart\t0"
    ∷ [])
    ≡ frame 1 0 (0x01 ∷ 0x80 ∷ 0xC2 ∷ [])
    ∷ frame 8 1 []
    ∷ tick 60000
    ∷ allow 1
    ∷ prohibit 32
    ∷ notice
    ∷ restart 0
    ∷ []
unfolding read text
lines_of_each_word_are_read = refl

-- Numbers go up to 4,294,967,295, whatever the plan has.
highest_numbers_are_read :
    map (λ s. event_of (text s)) ("tick\t4294967295" ∷ "allow\t4294967295" ∷ "frame\t4294967295\t4294967295\t-" ∷ [])
    ≡ tick 4294967295 ∷ allow 4294967295 ∷ frame 4294967295 4294967295 [] ∷ []
unfolding read text
highest_numbers_are_read = refl

is_unreadable : Event → Bool
is_unreadable (frame port side octets) = false
is_unreadable (tick reading) = false
is_unreadable (allow flow) = false
is_unreadable (prohibit flow) = false
is_unreadable notice = false
is_unreadable (restart reading) = false
is_unreadable unreadable = true

odd : List String
odd =
    ""
    -- words
    ∷ "ticks\t1"
    ∷ "Tick\t1"
    ∷ "make"
    ∷ "bad"
    ∷ "got\tdone\t0\t-"
    -- blanks, a carriage return, tabs
    ∷ " notice"
    ∷ "notice "
    ∷ "notice\r"
    ∷ "tick 1"
    ∷ "tick\t1\r"
    ∷ "notice\t"
    ∷ "tick\t1\t"
    ∷ "tick\t\t1"
    ∷ "\ttick\t1"
    ∷ "frame\t1\t0\t-\t"
    ∷ "frame\t1\t0\t00\t00"
    -- a field too few, or too many
    ∷ "tick"
    ∷ "frame\t1\t0"
    ∷ "frame\t1"
    ∷ "frame"
    ∷ "notice\t1"
    ∷ "allow\t1\t2"
    -- numbers
    ∷ "tick\t"
    ∷ "tick\t01"
    ∷ "tick\t+1"
    ∷ "tick\t-1"
    ∷ "tick\t1a"
    ∷ "tick\t4294967296"
    ∷ "tick\t99999999999999999999999"
    ∷ "frame\t01\t0\t-"
    ∷ "frame\t1\t00\t-"
    ∷ "frame\t1\t\t-"
    ∷ "frame\t4294967296\t0\t-"
    ∷ "frame\t1\t4294967296\t-"
    -- hex
    ∷ "frame\t1\t0\t"
    ∷ "frame\t1\t0\t0"
    ∷ "frame\t1\t0\t000"
    ∷ "frame\t1\t0\t0G"
    ∷ "frame\t1\t0\t0A"
    ∷ "frame\t1\t0\t0g"
    ∷ "frame\t1\t0\t--"
    ∷ "frame\t1\t0\t00 00"
    ∷ "frame\t1\t0\t0x00"
    ∷ []

odd_lines_are_unreadable : every (λ s. is_unreadable (event_of (text s))) odd ≡ true
unfolding read text every odd is_unreadable
odd_lines_are_unreadable = refl

-- A line holds at most 4,100 octets: ten before the hex field, which has 4,090 digits.
the_longest_line_is_read : event_of (text "frame\t1\t0\t" ++ replicate 4090 97) ≡ frame 1 0 (replicate 2045 0xAA)
unfolding read text
the_longest_line_is_read = refl

one_octet_more_is_not : event_of (text "frame\t10\t0\t" ++ replicate 4090 97) ≡ unreadable
unfolding read text
one_octet_more_is_not = refl

-- the lines printed
unfoldable pub print : ℕ → List ℕ → Got → List ℕ
unfolding answer_line places_of in_hex hexed in_decimal outcomes decimal hex_digit tabbed text
print number word got = answer_line number word got

the_requests_own_lines :
    answer_line 1 (text "allow") (answered 6 []) ++ answer_line 2 (text "notice") (refused 7)
    ≡ text "1\tallow\tdone\t0\t-\n2\tnotice\trefused\t7\t-\n"
unfolding print text
the_requests_own_lines = refl

each_outcome_has_its_word :
    map (λ outcome. answer_line 10 (text "frame") (answered outcome (0x00 ∷ 0x1F ∷ 0xA0 ∷ []))) (1 ∷ 2 ∷ 3 ∷ 4 ∷ 5 ∷ 6 ∷ [])
    ≡ text "10\tframe\tforward\t3\t001fa0\n"
    ∷ text "10\tframe\tdrop\t3\t001fa0\n"
    ∷ text "10\tframe\tloop\t3\t001fa0\n"
    ∷ text "10\tframe\treply\t3\t001fa0\n"
    ∷ text "10\tframe\treplyforward\t3\t001fa0\n"
    ∷ text "10\tframe\tdone\t3\t001fa0\n"
    ∷ []
unfolding print text
each_outcome_has_its_word = refl

a_bad_line_is_refused_9 : answer_line 18446744073709551615 (text "bad") (refused 9) ≡ text "18446744073709551615\tbad\trefused\t9\t-\n"
unfolding print text
a_bad_line_is_refused_9 = refl

a_faulty_plan : fault_line 0 6 ≡ text "plan\t0\t6\n"
unfolding fault_line in_decimal decimal tabbed text
a_faulty_plan = refl

-- the own lines of events
own_lines :
    map event_line
    (frame 1 0 (0x01 ∷ 0x80 ∷ 0xC2 ∷ [])
    ∷ frame 8 1 []
    ∷ tick 4294967295
    ∷ allow 1
    ∷ prohibit 32
    ∷ notice
    ∷ restart 0
    ∷ unreadable
    ∷ [])
    ≡ text "frame\t1\t0\t0180c2"
    ∷ text "frame\t8\t1\t-"
    ∷ text "tick\t4294967295"
    ∷ text "allow\t1"
    ∷ text "prohibit\t32"
    ∷ text "notice"
    ∷ text "restart\t0"
    ∷ []
    ∷ []
unfolding print event_line fields_of text
own_lines = refl
