-- Requests (REQUEST): what the code of a call is asked and what it leaves: a frame that arrived, and a call that was served.
use Rattle.std.specs.Prelude.{◌≡◌, Bool, true, false, List, Option, ℕ, ◌+◌, ◌^◌, ◌<◌, ◌≤◌, eqb, length, drop, Result, Ok, Err}
use Rattle.octets.specs.Octets.{number, over}
use Rattle.octets.specs.Lists.{put}
use Rattle.codec.specs.declared.Addressed.{Addressed}
use Rattle.codec.specs.declared.Addressed.TheVariants.{Elsewhere, Unicast, Multicast}
use Rattle.codec.specs.declared.Request.{Request}
use Rattle.codec.specs.declared.Request.TheVariants.{Malformed, Reserved, Activate, Deactivate, State as StateRequest}
use Rattle.codec.specs.FrameSet.{soam}
use Rattle.codec.specs.Request.{heading_of}
use Rattle.machine.specs.declared.Session.{Session}
use Rattle.machine.specs.declared.codes.Code.{Code}
use Rattle.machine.specs.declared.codes.Code.TheVariants.{MalformedRequest, UnknownMessageType}
use Rattle.machine.specs.Table.{event_at}
use Rattle.machine.specs.Machine.{Decision, code_octet, key_of, answered}
use Rattle.plan.specs.Plan.{flow_numbered, mip}
use Rattle.state.specs.State.{State, notice_due}
use Rattle.state.specs.Image.{image, state_of, ok_image}
use Rattle.state.specs.Rows.{row_found, session_at}
use Rattle.calls.specs.declared.Answer.{Answer}
use Rattle.calls.specs.Answer.{Sent}
use Rattle.calls.specs.Frame.{Arrived, mp_of, decides}
use Rattle.calls_requests.specs.declared.Asked.{Asked}
use Rattle.calls_requests.specs.declared.Arrival.{Arrival}

-- the frame, with the flow that its number has in the image
unfoldable pub arrived_in : List ℕ → Arrival → List ℕ → Arrived
arrived_in b a frame =
    record {
      arrival = a.arrival;
      port = a.port;
      reply_source = a.replier;
      loop_source = a.looper;
      side = a.side;
      flow = flow_numbered a.flow (state_of b).plan;
      taglen = a.taglen;
      frame = frame;
    }

-- what is known of it once the call is not refused and a flow is found; of its MP, where it is service OAM
pub record Known (b : List ℕ) (a : Arrival) (frame : List ℕ) : Type 0 where
  pub ok : ok_image b ≡ true
  pub quiet : notice_due (state_of b) ≡ false
  pub long : length b ≡ 4096
  pub flow_some : 1 ≤ a.flow
  pub flow_fits : a.flow ≤ 32
  pub flow_same : (flow_numbered a.flow (state_of b).plan).number ≡ a.flow
  pub side_known : a.side ≤ 1
  pub tag_few : a.taglen ≤ 4
  pub tag_whole : 14 + a.taglen ≤ length frame
  pub read_once : a.heading ≡ heading_of a.taglen frame
  pub source_fits : a.heading.source < 2 ^ 48
  pub level_fits : a.heading.level < 8
  pub mp_same : soam a.taglen frame ≡ true → a.mp ≡ mp_of (arrived_in b a frame)
  pub frame_fits : length frame ≤ 2000

-- REQUEST-3, REQUEST-16: a MIP lets a multicast request pass; here by what was read.
unfoldable pub onward : Arrival → Addressed → Bool
onward a Elsewhere = false
onward a Unicast = false
onward a Multicast = eqb a.mp mip

-- MACHINE-16: the session that an Activate would open, of what was read.
unfoldable pub session_of : Arrival → List ℕ → Session
session_of a frame =
    record {
      flow = a.flow;
      source = a.heading.source;
      level = a.heading.level;
      side = a.side;
      taglen = a.taglen;
      tag = number a.taglen (drop 12 frame);
      left = 0;
      notice = 0;
    }

-- a session that can be put into an image: this row is that of its key, if it has one, and there is room for it
pub record Placed (b : List ℕ) (row : Option ℕ) (x : Session) : Type 0 where
  pub source_fits : x.source < 2 ^ 48
  pub found : row ≡ row_found (session_at (key_of x) b)
  pub room : length (put key_of x (state_of b).sessions) ≤ 16

-- REQUEST-5, REQUEST-13, REQUEST-14: what a request asks: an event of the machine with its seconds; or code 1 or 10 without the machine.
unfoldable pub asked_of : Request → Result Asked Code
asked_of Malformed = Err MalformedRequest
asked_of Reserved = Err UnknownMessageType
asked_of (Activate n) = Ok (record { event = 0; seconds = n })
asked_of Deactivate = Ok (record { event = 1; seconds = 0 })
asked_of StateRequest = Ok (record { event = 2; seconds = 0 })

-- REQUEST-14: the machine decides what it is asked; else the reply has that code, and nothing changes.
unfoldable pub settled : State → Arrived → Result Asked Code → Decision
settled s a (Ok q) = decides s a (event_at q.event) q.seconds
settled s a (Err code) = answered (code_octet code)

-- REQUEST-5, REQUEST-13, REQUEST-14: the code of its reply, and what becomes of the session.
unfoldable pub decision : State → Arrived → Request → Decision
decision s a r = settled s a (asked_of r)

-- a call that was served: its answer, the image after it, and the output before and after it
pub record Served (x : Sent) (answer : Answer) (left before after : List ℕ) : Type 0 where
  pub answered : answer ≡ x.answer
  pub stored : left ≡ image x.state
  pub written : after ≡ over x.octets before
