-- Frame sets (SET), Maintenance points (MP), Requests (REQUEST) and The machine (MACHINE), joined: a frame call that is not refused.
use Rattle.std.specs.Prelude.{List, [], ◌∷◌, Bool, false, cond, ◌&&◌, ℕ, length, drop, eqb, ltb}
use Rattle.octets.specs.Octets.{number}
use Rattle.octets.specs.Lists.{put, without}
use Rattle.codec.specs.declared.FrameSet.{FrameSet}
use Rattle.codec.specs.declared.Addressed.{Addressed}
use Rattle.codec.specs.declared.Addressed.TheVariants.{Elsewhere, Unicast, Multicast}
use Rattle.codec.specs.declared.Request.{Request}
use Rattle.codec.specs.declared.Request.TheVariants.{Malformed, Reserved, Activate, Deactivate, State as StateRequest}
use Rattle.codec.specs.FrameSet.{Member, member, sets_of, destination, source, soam, pdu_of}
use Rattle.codec.specs.Request.{is_request, addressed, request_of, copies_of, level_of, type_of}
use Rattle.codec_replies.specs.Reply.{reply_frame, reply_pdu, tag_of, looped}
use Rattle.machine.specs.declared.Session.{Session}
use Rattle.machine.specs.declared.Machine.{Machine}
use Rattle.machine.specs.declared.Change.{Change}
use Rattle.machine.specs.declared.Change.TheVariants.{Same, Opened, Restarted, Closed}
use Rattle.machine.specs.declared.Fate.{Fate}
use Rattle.machine.specs.declared.Fate.TheVariants.{Forward, Drop, Loop}
use Rattle.machine.specs.Table.{Event, rqst_activate, rqst_deactivate, rqst_state, action_of}
use Rattle.machine.specs.Machine.{Decision, key, key_of, condition_of, decided, fate_of, data_event, status_of}
use Rattle.plan.specs.declared.Port.{Port}
use Rattle.plan.specs.declared.Flow.{Flow}
use Rattle.plan.specs.Plan.{Plan, port_numbered, flow_of_set, in_plan, mp_at, mip, faces}
use Rattle.state.specs.State.{State, with_sessions, is_allowed, machine_of, full_for}
use Rattle.calls.specs.declared.Answer.TheVariants.{Forwarded, Dropped, Looped, Replied, RepliedForwarded}
use Rattle.calls.specs.Answer.{Sent, leaves, sends}

-- A frame that arrived, in one of its sets. It has the number of the port that it arrived at, the port whose machine it is for, the
-- source of a reply to it and the source of a looped group frame; its side, its flow, and how many octets of tag its set has.
pub record Arrived : Type 0 where
  pub arrival : ℕ
  pub port : Port
  pub reply_source : ℕ
  pub loop_source : ℕ
  pub side : ℕ
  pub flow : Flow
  pub taglen : ℕ
  pub frame : List ℕ

-- UNIT-8, SET-10: each MP has its port's address, so the first four are of the port of arrival; the flow is that of port and set.
unfoldable pub arrived_at : Plan → Port → ℕ → List ℕ → FrameSet → ℕ → Arrived
arrived_at plan p side frame set taglen =
    record {
      arrival = p.number;
      port = p;
      reply_source = p.address;
      loop_source = p.address;
      side = side;
      flow = flow_of_set p.number set plan;
      taglen = taglen;
      frame = frame;
    }

-- SET-14: the PDU is all that follows the type.
unfoldable pub pdu : Arrived → List ℕ
pdu a = pdu_of a.taglen a.frame

-- MP-2: the MP of the frame's flow at the PDU's level.
unfoldable pub mp_of : Arrived → ℕ
mp_of a = mp_at (level_of (pdu a)) a.flow

-- MP-2, MP-4, MP-6: for an MP is SOAM with opcode 57, to the port's address or the multicast one, if the flow has an MP at that level which
-- faces the frame's side. All else is data, other OAM too (UNIT-6).
unfoldable pub for_mp : Arrived → Addressed
for_mp a =
    cond (is_request a.taglen a.frame && faces (mp_of a) a.side)
    (addressed a.port.address (destination a.frame) (pdu a))
    Elsewhere

-- SET-12: port, whole set and all 48 bits of the source determine the machine; flow number and source are its key.
unfoldable pub own_key : Arrived → ℕ
own_key a = key a.flow.number (source a.frame)

unfoldable pub own : State → Arrived → Machine
own s a = machine_of (own_key a) s.sessions

-- MACHINE-2, FORM-2: what the table says of an event at the frame's machine, which is prohibited if the flow is.
unfoldable pub own_action : State → Arrived → Event → ℕ
own_action s a e = action_of (condition_of (is_allowed a.flow.number s) (own s a)) e

-- CALL-17, CALL-18, CALL-19, MACHINE-35: forward, drop, or loop with the looped frame; no state changes.
unfoldable pub by_fate : State → Arrived → Fate → Sent
by_fate s a Forward = leaves Forwarded s
by_fate s a Drop = leaves Dropped s
by_fate s a Loop = sends Looped s (looped a.loop_source a.frame)

-- MACHINE-28, MACHINE-29, MACHINE-30, MACHINE-31: data is forwarded, looped or dropped, as its own machine has it.
unfoldable pub data_served : State → Arrived → Sent
data_served s a =
    by_fate s a
    (fate_of (own_action s a (data_event a.side)) (soam a.taglen a.frame) (level_of (pdu a)) a.side (own s a))

-- REQUEST-3, REQUEST-16: a MIP lets a multicast request pass, with a reply or, on a prohibited flow, without.
unfoldable pub goes_on : Arrived → Addressed → Bool
goes_on a Elsewhere = false
goes_on a Unicast = false
goes_on a Multicast = eqb (mp_of a) mip

-- MACHINE-16: the session that an Activate would open takes level, side, source and tag octets from it.
unfoldable pub new_session : Arrived → Session
new_session a =
    record {
      flow = a.flow.number;
      source = source a.frame;
      level = level_of (pdu a);
      side = a.side;
      taglen = a.taglen;
      tag = number a.taglen (drop 12 a.frame);
      left = 0;
      notice = 0;
    }

-- MACHINE-15, MACHINE-18: the state after a change of the session with this key; closed, it leaves its place free.
unfoldable pub changed : ℕ → Change → State → State
changed k Same s = s
changed k (Opened x) s = with_sessions (put key_of x s.sessions) s
changed k (Restarted x) s = with_sessions (put key_of x s.sessions) s
changed k Closed s = with_sessions (without key_of k s.sessions) s

-- REPLY-1, REPLY-2, REPLY-3, REPLY-6: a reply to the request's source, from the port, with the request's tag, level and type (REPLY-5) and
-- the machine's status once the call is done (REPLY-7, REPLY-13). A MIP that replies to a multicast request forwards it too (REQUEST-16).
unfoldable pub replied : State → Arrived → Addressed → ℕ → List ℕ → Sent
replied s a whom code copies =
    sends (cond (goes_on a whom) RepliedForwarded Replied) s
    (reply_frame (source a.frame) a.reply_source (tag_of a.taglen a.frame)
    (reply_pdu (level_of (pdu a)) (type_of (pdu a)) code a.port.address (status_of (own s a)) copies))

-- REQUEST-14: the machine answers a request of type 1, 2 or 3.
unfoldable pub decides : State → Arrived → Event → ℕ → Decision
decides s a e seconds = decided (own_action s a e) (full_for a.flow s) seconds (new_session a) (own s a)

-- REQUEST-14, REPLY-14: the reply has the machine's code and copies the unknown TLVs.
unfoldable pub machine_served : State → Arrived → Addressed → Event → ℕ → Sent
machine_served s a whom e seconds =
    let d = decides s a e seconds in
    replied (changed (own_key a) d.change s) a whom d.code (copies_of (pdu a))

-- REQUEST-5, REQUEST-13, REQUEST-14, REPLY-15: malformed gets code 1 and no copies, a reserved type code 10; the machine answers the rest.
unfoldable pub answers : State → Arrived → Addressed → Request → Sent
answers s a whom Malformed = replied s a whom 1 []
answers s a whom Reserved = replied s a whom 10 (copies_of (pdu a))
answers s a whom (Activate seconds) = machine_served s a whom rqst_activate seconds
answers s a whom Deactivate = machine_served s a whom rqst_deactivate 0
answers s a whom StateRequest = machine_served s a whom rqst_state 0

-- REQUEST-1, REQUEST-2, REQUEST-3, REQUEST-4: on a prohibited flow a request is dropped, whatever it says (FLOW-5), except that a MIP
-- forwards a multicast one; a PDU of fewer than 12 octets is dropped; all others are answered.
unfoldable pub request_served : State → Arrived → Addressed → Sent
request_served s a whom =
    cond (is_allowed a.flow.number s)
    (cond (ltb (length (pdu a)) 12) (leaves Dropped s) (answers s a whom (request_of whom (destination a.frame) (pdu a))))
    (leaves (cond (goes_on a whom) Forwarded Dropped) s)

-- MP-6, MP-7: whatever is not for an MP is data; what is for an MP is not.
unfoldable pub by_whom : State → Arrived → Addressed → Sent
by_whom s a Elsewhere = data_served s a
by_whom s a Unicast = request_served s a Unicast
by_whom s a Multicast = request_served s a Multicast

-- SET-10, SET-11: a set for which the plan has no flow on the port counts as no set, and the frame is forwarded.
unfoldable pub in_flow : State → Arrived → Sent
in_flow s a = cond (in_plan a.flow.number) (by_whom s a (for_mp a)) (leaves Forwarded s)

-- SET-11: a frame without a set is forwarded. (It has at most one.)
unfoldable pub in_sets : State → Port → ℕ → List ℕ → List Member → Sent
in_sets s port side frame [] = leaves Forwarded s
in_sets s port side frame (member set taglen ∷ more) = in_flow s (arrived_at s.plan port side frame set taglen)

-- CALL-2: a frame call, by the set that the frame has at a port of this kind.
unfoldable pub frame_served : State → ℕ → ℕ → List ℕ → Sent
frame_served s port side frame =
    in_sets s (port_numbered port s.plan) side frame (sets_of (port_numbered port s.plan).kind frame)
