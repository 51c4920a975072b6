-- The program shift (C-11) (SHIFT): a step as the code takes it: an event by value, its octets in a buffer, a buffer that calls are lent.
use Rattle.std.specs.Prelude.{◌≡◌, List, [], ℕ, take}
use Rattle.octets.specs.Octets.{over}
use Rattle.calls.specs.Calls.{Entered}
use Rattle.events.specs.declared.Logged.{Logged}
use Rattle.events.specs.declared.Logged.TheVariants.{Frame, Tick, Allow, Prohibit, Notice, Restart}
use Rattle.events.specs.Event.{Event, frame, tick, allow, prohibit, notice, restart, event_of}
use Rattle.events.specs.Read.{octets_of, Put}
use Rattle.events_shift.specs.Step.{entered, step}

-- the event that was read, with its octets from the front of the buffer
unfoldable pub event_in : Logged → List ℕ → Event
event_in (Frame port side n) room = frame port side (take n room)
event_in (Tick reading) room = tick reading
event_in (Allow flow) room = allow flow
event_in (Prohibit flow) room = prohibit flow
event_in Notice room = notice
event_in (Restart reading) room = restart reading

-- CALL-27: what was lent to the event's call: frame and notice calls alone have an output.
unfoldable pub lent_to : Logged → List ℕ → List ℕ
lent_to (Frame port side n) out = out
lent_to (Tick reading) out = []
lent_to (Allow flow) out = []
lent_to (Prohibit flow) out = []
lent_to Notice out = out
lent_to (Restart reading) out = []

-- a call that was made: its number, the image, and the buffer that it was lent
pub record Made (x : Entered) (e : Logged) (number : ℕ) (image before after : List ℕ) : Type 0 where
  pub answered : number ≡ x.number
  pub stored : image ≡ x.image
  pub sent : lent_to e after ≡ x.out
  pub lent : after ≡ over x.out before

-- A step that was taken: the image, the line printed, and both buffers.
pub record Taken (image : List ℕ) (number : ℕ) (line frame sent out : List ℕ) (at r : ℕ) (image' frame' sent' out' : List ℕ)
    : Type 0 where
  pub stored : image' ≡ (step image number line).image
  pub printed : Put (step image number line).line at r out out'
  pub framed : frame' ≡ over (octets_of (event_of line)) frame
  pub lent : sent' ≡ over (entered image sent (event_of line)).out sent
