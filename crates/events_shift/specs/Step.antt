-- The program shift (C-11) (SHIFT): one step, by the seven calls' definitions.
use Rattle.std.specs.Prelude.{cond, List, [], ℕ, ◌/◌, ◌%◌, ◌^◌, take, replicate, eqb}
use Rattle.octets.specs.Text.{text}
use Rattle.calls.specs.Answer.{number_of}
use Rattle.calls.specs.declared.Answer.TheVariants.{Refused}
use Rattle.calls.specs.Calls as calls
use Rattle.calls.specs.Calls.{Entered, enter}
use Rattle.events.specs.Event.{Event, frame, tick, allow, prohibit, notice, restart, unreadable, event_of}
use Rattle.events.specs.AnswerLine.{Got, refused, answered, answer_line}

-- SHIFT-21: the call that an event is, on the image (SHIFT-9, SHIFT-10, SHIFT-11, SHIFT-12, SHIFT-13). A line that cannot be read is no
-- call: 9, and the image stays.
unfoldable pub entered : List ℕ → List ℕ → Event → Entered
entered image out (frame port side octets) = enter image (calls.frame port side octets out)
entered image out (tick reading) = enter image (calls.tick reading)
entered image out (allow flow) = enter image (calls.allow flow)
entered image out (prohibit flow) = enter image (calls.prohibit flow)
entered image out notice = enter image (calls.notice out)
entered image out (restart reading) = enter image (calls.restart reading)
entered image out unreadable = record { number = number_of (Refused 9); image = image; out = [] }

-- SHIFT-18, SHIFT-21: the line's word, `bad` for one that cannot be read.
unfoldable pub word_of : Event → List ℕ
word_of (frame port side octets) = text "frame"
word_of (tick reading) = text "tick"
word_of (allow flow) = text "allow"
word_of (prohibit flow) = text "prohibit"
word_of notice = text "notice"
word_of (restart reading) = text "restart"
word_of unreadable = text "bad"

-- SHIFT-18, SHIFT-19, SHIFT-20: what is printed of an answer: the refusal's number, or outcome and octets written, and no port or side.
unfoldable pub got_of : ℕ → List ℕ → Got
got_of number out =
    cond (eqb (number % 2 ^ 8) 0)
    (refused (number / 2 ^ 8 % 2 ^ 8))
    (answered (number % 2 ^ 8) (take (number / 2 ^ 32) out))

-- the image after a step, and the line that it prints
pub record Step : Type 0 where
  pub image : List ℕ
  pub line : List ℕ

-- SHIFT-18: a line is printed with the number of the line read, its word, and what the call gave.
unfoldable pub printed : ℕ → Event → Entered → Step
printed number e x =
    record { image = x.image; line = answer_line number (word_of e) (got_of x.number x.out) }

-- SHIFT-22: the calls are lent an output of 2,008 octets.
abbrev pub out_room : ℕ
out_room = 2008

-- room for any printed line: a number of 20 digits, a word of 8 letters and one of 12, a number again, and the hex
abbrev pub step_room : ℕ
step_room = 4082

-- SHIFT-1, SHIFT-22: a line of input is a call on the image, with an output of 2,008 octets, and gets a line.
unfoldable pub step : List ℕ → ℕ → List ℕ → Step
step image number line = printed number (event_of line) (entered image (replicate out_room 0) (event_of line))
