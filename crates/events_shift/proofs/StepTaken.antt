-- A step is taken by reading its line, making its call and printing its answer.
use mathlib.Core.Path.{◌≡◌, refl, sym, ◌∙◌, ap}
use mathlib.Core.List.{List, []}
use Prim.Native.Nat.{ℕ}
use native.Mathlib.Omega.{arith}
use lib.ListN.{length, drop, replicate, length-replicate}
use lib.Seq.{take_at}
use Rattle.octets.specs.Octets.{over}
use Rattle.octets.specs.Text.{text}
use Rattle.calls.specs.Calls.{Entered}
use Rattle.std.specs.Prelude.{Some, None}
use Rattle.calls.specs.Answer.{packed, number_of}
use Rattle.events.specs.declared.Logged.{Logged}
use Rattle.events.specs.declared.Logged.TheVariants.{Frame, Tick, Allow, Prohibit, Notice, Restart}
use Rattle.events.specs.Event.{Event, frame, tick, allow, prohibit, notice, restart, unreadable, event_of}
use Rattle.events.specs.AnswerLine.{answer_line}
use Rattle.events.specs.Read.{logged, octets_of, ReadAs, Put}
use Rattle.events_shift.specs.Step.{entered, word_of, got_of, Step, printed, step, out_room}
use Rattle.events_shift.specs.Held.{event_in, lent_to, Made, Taken}
use Rattle.events_shift.proofs.RoomFree.{room_free}
use Rattle.events.proofs.Puts.{put_as}

-- an event that was read, with its octets in the buffer, is the event again
event_back : (e : Event) (room : List ℕ) {l : Logged} → logged e ≡ Some l → event_in l (over (octets_of e) room) ≡ e
unfolding event_in logged octets_of
event_back (frame port side octets) room {l} h =
    let k : Frame port side (length octets) ≡ l = cc in rw (← k, take_at octets (drop (length octets) room) (length octets) refl)
event_back (tick reading) room {l} h = let k : Tick reading ≡ l = cc in rw (← k) refl
event_back (allow flow) room {l} h = let k : Allow flow ≡ l = cc in rw (← k) refl
event_back (prohibit flow) room {l} h = let k : Prohibit flow ≡ l = cc in rw (← k) refl
event_back notice room {l} h = let k : Notice ≡ l = cc in rw (← k) refl
event_back (restart reading) room {l} h = let k : Restart reading ≡ l = cc in rw (← k) refl
event_back unreadable room {l} h = let z : ◌≡◌ {A = ℕ} 0 1 = cc in absurd (omega arith)

word_back : (e : Event) {l : Logged} → logged e ≡ Some l → word_of (event_in l []) ≡ word_of e
unfolding event_in logged word_of
word_back (frame port side octets) {l} h = let k : Frame port side (length octets) ≡ l = cc in rw (← k) refl
word_back (tick reading) {l} h = let k : Tick reading ≡ l = cc in rw (← k) refl
word_back (allow flow) {l} h = let k : Allow flow ≡ l = cc in rw (← k) refl
word_back (prohibit flow) {l} h = let k : Prohibit flow ≡ l = cc in rw (← k) refl
word_back notice {l} h = let k : Notice ≡ l = cc in rw (← k) refl
word_back (restart reading) {l} h = let k : Restart reading ≡ l = cc in rw (← k) refl
word_back unreadable {l} h = let z : ◌≡◌ {A = ℕ} 0 1 = cc in absurd (omega arith)

-- where none was read, the line can't be
none_back : (e : Event) → logged e ≡ None → e ≡ unreadable
unfolding logged
none_back (frame port side octets) h = let z : ◌≡◌ {A = ℕ} 0 1 = cc in absurd (omega arith)
none_back (tick reading) h = let z : ◌≡◌ {A = ℕ} 0 1 = cc in absurd (omega arith)
none_back (allow flow) h = let z : ◌≡◌ {A = ℕ} 0 1 = cc in absurd (omega arith)
none_back (prohibit flow) h = let z : ◌≡◌ {A = ℕ} 0 1 = cc in absurd (omega arith)
none_back notice h = let z : ◌≡◌ {A = ℕ} 0 1 = cc in absurd (omega arith)
none_back (restart reading) h = let z : ◌≡◌ {A = ℕ} 0 1 = cc in absurd (omega arith)
none_back unreadable h = refl

module _ (image : List ℕ) (number : ℕ) (line room sent out : List ℕ) (at : ℕ) (full : length sent ≡ out_room) where
  x : Entered
  x = entered image sent (event_of line)

  same_step : printed number (event_of line) x ≡ step image number line
  unfolding x step
  same_step = room_free number image sent (replicate out_room 0) (event_of line) (full ∙ sym (length-replicate {A = ℕ} out_room 0))

  -- a line that can't be read
  module _ {held : List ℕ} (read : ReadAs (event_of line) None room held) {r : ℕ} {written : List ℕ}
      (put : Put (answer_line number (text "bad") (got_of 2304 [])) at r out written) where
    bad : event_of line ≡ unreadable
    bad = none_back (event_of line) (sym read.event)

    bad_step : printed number unreadable (entered image sent unreadable) ≡ step image number line
    unfolding x
    bad_step = rw bad at same_step

    pub bad_taken : Taken image number line room sent out at r image held sent written
    unfolding printed entered word_of number_of packed
    bad_taken =
        record {
          stored = ap (λ (s : Step). s.image) bad_step;
          printed = put_as put (ap (λ (s : Step). s.line) bad_step) refl;
          framed = read.octets;
          lent = rw bad;
        }

  -- a line that was read
  module _ {e : Logged} {held : List ℕ} (read : ReadAs (event_of line) (Some e) room held) {answer : ℕ} {left after : List ℕ}
      (made : Made (entered image sent (event_in e held)) e answer left sent after) {r : ℕ} {written : List ℕ}
      (put : Put (answer_line number (word_of (event_in e [])) (got_of answer (lent_to e after))) at r out written) where
    same_event : event_in e held ≡ event_of line
    same_event = rw read.octets (event_back (event_of line) room (sym read.event))

    asked : Made x e answer left sent after
    unfolding x
    asked = rw same_event at made

    same_line : answer_line number (word_of (event_in e [])) (got_of answer (lent_to e after)) ≡ (step image number line).line
    unfolding printed
    same_line =
        rw (word_back (event_of line) (sym read.event), asked.answered, asked.sent) (ap (λ (s : Step). s.line) same_step)

    pub step_taken : Taken image number line room sent out at r left held after written
    unfolding x printed
    step_taken =
        record {
          stored = asked.stored ∙ ap (λ (s : Step). s.image) same_step;
          printed = put_as put same_line refl;
          framed = read.octets;
          lent = asked.lent;
        }
