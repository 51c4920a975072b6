-- Calls and answers (CALL) and Refusals (REFUSAL): the seven calls.
use Rattle.std.specs.Prelude.{List, [], map, Bool, true, false, cond, ◌&&◌, ◌||◌, not, ℕ, ◌-◌, length, set, eqb, ltb}
use Rattle.octets.specs.Octets.{over}
use Rattle.octets.specs.Lists.{within}
use Rattle.codec.specs.FrameSet.{external, cen}
use Rattle.machine.specs.declared.Machine.TheVariants.{Inactive}
use Rattle.machine.specs.Table.{Event, active, mgmt_allow, mgmt_prohibit, action_of}
use Rattle.machine.specs.Machine.{condition_of}
use Rattle.machine.specs.Management.{managed_by, allowed_after}
use Rattle.machine.specs.Time.{elapsed, jumped, ticked}
use Rattle.plan.specs.Plan.{port_numbered, flow_numbered, in_plan}
use Rattle.plan.specs.PlanText.{Reading, fault, planned, plan_in}
use Rattle.state.specs.State.{State, with_clock, with_allowed, with_sessions, made, is_allowed, notice_due}
use Rattle.state.specs.Image.{image, state_of, ok_image}
use Rattle.calls.specs.declared.Answer.{Answer}
use Rattle.calls.specs.declared.Answer.TheVariants.{
  Refused,
  Forwarded,
  Dropped,
  Looped,
  Replied,
  RepliedForwarded,
  Noticed,
  Done,
  Faulty,
}
use Rattle.calls.specs.Answer.{Sent, leaves, number_of}
use Rattle.calls.specs.Frame.{frame_served}
use Rattle.calls.specs.Notice.{notice_served}

-- UNIT-3: the host's seven calls (CALL-1, CALL-2, CALL-3, CALL-4, CALL-5, CALL-6, CALL-7), and what each takes beside the image.
pub data Call : Type 0 where
  make : (text : List ℕ) (clock : ℕ) → Call
  frame : (port side : ℕ) (octets out : List ℕ) → Call
  tick : (clock : ℕ) → Call
  allow : (flow : ℕ) → Call
  prohibit : (flow : ℕ) → Call
  notice : (out : List ℕ) → Call
  restart : (clock : ℕ) → Call

-- REFUSAL-1, CALL-13: no port of the plan has this number, or the side is another number than 0 and 1; both are compared in full.
unfoldable pub no_such_place : State → ℕ → ℕ → Bool
no_such_place s port side = not (in_plan (port_numbered port s.plan).number) || not (within external cen side)

-- REFUSAL-2, BENCH-14: the frame is shorter than 14 octets or longer than 2,000.
unfoldable pub bad_length : List ℕ → Bool
bad_length l = not (within 14 2000 (length l))

-- REFUSAL-3, CALL-14, REPLY-17, BENCH-15: the output is shorter than 2,008 octets, which are enough for any reply; a longer one is fine.
unfoldable pub short_output : List ℕ → Bool
short_output out = ltb (length out) 2008

-- REFUSAL-6, CALL-13: no flow of the plan has this number, compared in full.
unfoldable pub no_such_flow : State → ℕ → Bool
no_such_flow s flow = not (in_plan (flow_numbered flow s.plan).number)

-- CALL-8, CALL-10, CALL-11, REFUSAL-7: the first check of the call's row that applies: with a notice due 4, whatever the call would do, and
-- with none to take 7; make and restart have none here. 0: none applies. (`enter` makes check 8.)
unfoldable pub refusal : State → Call → ℕ
refusal s (make text clock) = 0
refusal s (frame port side octets out) =
    cond (no_such_place s port side) 1
    (cond (bad_length octets) 2 (cond (short_output out) 3 (cond (notice_due s) 4 0)))
refusal s (tick clock) = cond (notice_due s) 4 (cond (jumped clock s.clock) 5 0)
refusal s (allow flow) = cond (notice_due s) 4 (cond (no_such_flow s flow) 6 0)
refusal s (prohibit flow) = cond (notice_due s) 4 (cond (no_such_flow s flow) 6 0)
refusal s (notice out) = cond (short_output out) 3 (cond (notice_due s) 0 7)
refusal s (restart clock) = 0

-- CALL-1, PLAN-29, PLAN-30: after a plan fault the state is as before; a good plan makes all of it new.
unfoldable pub make_served : State → ℕ → Reading → Sent
make_served s clock (fault line reason) = leaves (Faulty line reason) s
make_served s clock (planned plan) = leaves Done (made plan clock)

-- TIME-2, TIME-4, TIME-5: the elapsed time is taken off each open session, or closes it; the reading is accepted.
unfoldable pub ticked_to : ℕ → State → State
ticked_to reading s =
    with_clock reading (with_sessions (map (ticked (elapsed reading s.clock)) s.sessions) s)

-- FLOW-1, FLOW-2, FLOW-3, FLOW-4: allow takes back a prohibition; prohibit makes one and closes the flow's open sessions. The table is
-- asked about the flow, as about a machine without a session, and about an active machine.
unfoldable pub managed : Event → ℕ → State → State
managed e flow s =
    let now = is_allowed flow s in
    with_allowed (set s.allowed (flow - 1) (allowed_after (action_of (condition_of now Inactive) e) now))
    (with_sessions (map (managed_by (action_of active e) flow) s.sessions) s)

-- TIME-8: no session and no notice is left; plan and allowed flows stay; the reading becomes the last accepted one.
unfoldable pub restarted_at : ℕ → State → State
restarted_at reading s = with_clock reading (with_sessions [] s)

-- CALL-1, CALL-2, CALL-3, CALL-4: what a call does that is not refused, and what it answers; likewise CALL-5, CALL-6, CALL-7.
unfoldable pub served : State → Call → Sent
served s (make text clock) = make_served s clock (plan_in text)
served s (frame port side octets out) = frame_served s port side octets
served s (tick clock) = leaves Done (ticked_to clock s)
served s (allow flow) = leaves Done (managed mgmt_allow flow s)
served s (prohibit flow) = leaves Done (managed mgmt_prohibit flow s)
served s (notice out) = notice_served s
served s (restart clock) = leaves Done (restarted_at clock s)

-- CALL-27: frame and notice calls alone have an output.
unfoldable pub lent : Call → List ℕ
lent (make text clock) = []
lent (frame port side octets out) = out
lent (tick clock) = []
lent (allow flow) = []
lent (prohibit flow) = []
lent (notice out) = out
lent (restart clock) = []

-- a call's answer, the state after it, and the lent output after it
pub record Called : Type 0 where
  pub answer : Answer
  pub state : State
  pub out : List ℕ

-- CALL-27: what is written stands at the front of the output; all octets after it stay as they were.
unfoldable pub handed : Call → Sent → Called
handed c r = record { answer = r.answer; state = r.state; out = over r.octets (lent c) }

-- CALL-9: a refused call changes nothing: state, last reading and output stay.
unfoldable pub call : State → Call → Called
call s c = handed c (cond (eqb (refusal s c) 0) (served s c) (leaves (Refused (refusal s c)) s))

-- the same on the lent image: its number for the host, and every octet of image and output
pub record Entered : Type 0 where
  pub number : ℕ
  pub image : List ℕ
  pub out : List ℕ

-- CALL-12: is it a make, which tests the image's length and not its content?
unfoldable pub makes : Call → Bool
makes (make text clock) = true
makes (frame port side octets out) = false
makes (tick clock) = false
makes (allow flow) = false
makes (prohibit flow) = false
makes (notice out) = false
makes (restart clock) = false

-- CALL-9, PLAN-29: after a refusal and after a plan fault each octet of the image is as before.
unfoldable pub keeps_image : Answer → Bool
keeps_image (Refused n) = true
keeps_image Forwarded = false
keeps_image Dropped = false
keeps_image (Looped n) = false
keeps_image (Replied n) = false
keeps_image (RepliedForwarded n) = false
keeps_image (Noticed port side n) = false
keeps_image Done = false
keeps_image (Faulty line reason) = true

-- CALL-9, PLAN-29, PLAN-30: the number, the output, and the image: its old octets, or all of it new.
unfoldable pub stored : List ℕ → Called → Entered
stored l r =
    record { number = number_of r.answer; image = cond (keeps_image r.answer) l (image r.state); out = r.out }

-- REFUSAL-8, CALL-9, CALL-12: 8, and no change, if the image is not 4,096 octets long or, in all calls but make, not a valid state's image.
unfoldable pub enter : List ℕ → Call → Entered
enter l c =
    cond (eqb (length l) 4096 && (makes c || ok_image l))
    (stored l (call (state_of l) c))
    (record { number = number_of (Refused 8); image = l; out = lent c })
