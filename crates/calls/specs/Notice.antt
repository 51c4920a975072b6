-- Notices (NOTICE): a notice, and the call that takes one.
use Rattle.std.specs.Prelude.{List, [], ℕ}
use Rattle.octets.specs.Octets.{octets}
use Rattle.octets.specs.Lists.{without}
use Rattle.codec_replies.specs.Reply.{reply_frame, reply_pdu}
use Rattle.machine.specs.declared.Session.{Session}
use Rattle.machine.specs.declared.Machine.TheVariants.{Inactive}
use Rattle.machine.specs.Machine.{key_of, status_of}
use Rattle.plan.specs.declared.Port.{Port}
use Rattle.plan.specs.Plan.{port_numbered, flow_numbered}
use Rattle.state.specs.State.{State, with_sessions, first_owed}
use Rattle.calls.specs.declared.Answer.TheVariants.{Noticed}
use Rattle.calls.specs.Answer.{Sent, sends}

-- NOTICE-7: the port that the session's flow is on.
unfoldable pub port_of : State → Session → Port
port_of s x = port_numbered (flow_numbered x.flow s.plan).port s.plan

-- NOTICE-5, NOTICE-6: a reply of type 2 to the session's source, with the session's tag, level and code, flags 0, and no TLV but End.
unfoldable pub notice_frame : Port → Session → List ℕ
notice_frame port x =
    reply_frame x.source port.address (octets x.taglen x.tag)
    (reply_pdu x.level 2 x.notice port.address (status_of Inactive) [])

-- NOTICE-3, NOTICE-7, CALL-25: the answer names the flow's port and the session's side; the session is then gone.
unfoldable pub noticed : State → Session → Sent
noticed s x =
    sends (Noticed (port_of s x).number x.side) (with_sessions (without key_of (key_of x) s.sessions) s)
    (notice_frame (port_of s x) x)

-- NOTICE-3, NOTICE-4: a notice call gives one notice, the one that goes first.
unfoldable pub notice_served : State → Sent
notice_served s = noticed s (first_owed s)
