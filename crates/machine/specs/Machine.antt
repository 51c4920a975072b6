-- The machine (MACHINE): what a request and a data frame do to the session of one machine.
use Rattle.std.specs.Prelude.{ℕ, ◌+◌, ◌*◌, ◌/◌, ◌^◌, Bool, cond, ◌&&◌, ◌==◌, nat_le}
use Rattle.std.specs.Prelude.{Some, None}
use Rattle.octets.specs.Lists.{within}
use Rattle.codec.specs.FrameSet.{external}
use Rattle.codec.specs.declared.Status.{Status}
use Rattle.machine.specs.declared.Session.{Session}
use Rattle.machine.specs.declared.Machine.{Machine}
use Rattle.machine.specs.declared.Machine.TheVariants.{Inactive, Active}
use Rattle.machine.specs.declared.Change.{Change}
use Rattle.machine.specs.declared.Change.TheVariants.{Same, Opened, Restarted, Closed}
use Rattle.machine.specs.declared.codes.Code.{Code}
use Rattle.machine.specs.declared.codes.Code.TheVariants.{
  NoError,
  MalformedRequest,
  MaxSessionsExceeded,
  AlreadyActive,
  AlreadyInactive,
  Unsupported,
  WrongMp,
  Timeout,
  Prohibited,
  UnknownMessageType,
  UnknownError,
  Other,
}
use Rattle.machine.specs.declared.Decided.{Decided}
use Rattle.machine.specs.declared.Fate.{Fate}
use Rattle.machine.specs.declared.Fate.TheVariants.{Forward, Drop, Loop}
use Rattle.machine.specs.Table.{Condition, prohibited, inactive, active, Event, ingress_data, egress_data}
use Rattle.machine.specs.Table.{forward, turn, admit, report, already, restart, close}

-- MACHINE-2: a machine of an allowed flow is inactive or active.
unfoldable pub activity : Machine → Condition
activity Inactive = inactive
activity (Active s) = active

-- MACHINE-2: all machines of a prohibited flow are prohibited.
unfoldable pub condition_of : Bool → Machine → Condition
condition_of allowed m = cond allowed (activity m) prohibited

-- STATE-1: a session is open or owed a notice; 0 stands for no notice.
unfoldable pub is_open : Session → Bool
is_open s = s.notice == 0

-- SET-12: a flow is a port and a set, so flow number and source, all 48 bits, are the key.
unfoldable pub key : ℕ → ℕ → ℕ
key flow source = flow * 2 ^ 48 + source

unfoldable pub key_of : Session → ℕ
key_of s = key s.flow s.source

-- MACHINE-16, MACHINE-17: the session with so many milliseconds left, and nothing else changed.
unfoldable pub lasting : ℕ → Session → Session
lasting ms s =
    record {
      flow = s.flow;
      source = s.source;
      level = s.level;
      side = s.side;
      taglen = s.taglen;
      tag = s.tag;
      left = ms;
      notice = s.notice;
    }

-- NOTICE-1, STATE-10: the session closed, owed a notice with this code and with 0 ms left.
unfoldable pub owed : ℕ → Session → Session
owed code s =
    record {
      flow = s.flow;
      source = s.source;
      level = s.level;
      side = s.side;
      taglen = s.taglen;
      tag = s.tag;
      left = 0;
      notice = code;
    }

-- MACHINE-3, MACHINE-4, MACHINE-14: are the seconds 1 to 86,400?
unfoldable pub good_seconds : ℕ → Bool
good_seconds seconds = within 1 86400 seconds

-- MACHINE-19: the octet of each response code.
abbrev pub code_octet : Code → ℕ
code_octet NoError = 0
code_octet MalformedRequest = 1
code_octet MaxSessionsExceeded = 2
code_octet AlreadyActive = 4
code_octet AlreadyInactive = 5
code_octet Unsupported = 6
code_octet WrongMp = 7
code_octet Timeout = 8
code_octet Prohibited = 9
code_octet UnknownMessageType = 10
code_octet UnknownError = 255
code_octet (Other n) = n

-- and the code of each octet, by its name if it has one
unfoldable pub code_of : ℕ → Code
code_of octet =
    cond (octet == 0) NoError
    (cond (octet == 1) MalformedRequest
    (cond (octet == 2) MaxSessionsExceeded
    (cond (octet == 4) AlreadyActive
    (cond (octet == 5) AlreadyInactive
    (cond (octet == 6) Unsupported
    (cond (octet == 7) WrongMp
    (cond (octet == 8) Timeout
    (cond (octet == 9) Prohibited
    (cond (octet == 10) UnknownMessageType
    (cond (octet == 255) UnknownError
    (Other octet)))))))))))

-- the answer to a request in numbers: the octet of its code, and what becomes of the session
pub record Decision : Type 0 where
  pub code : ℕ
  pub change : Change

-- what the code answers, in numbers
abbrev pub numbered : Decided → Decision
numbered d = record { code = code_octet d.code; change = d.change }

-- MACHINE-15: a code, and no change.
unfoldable pub answered : ℕ → Decision
answered code = record { code = code; change = Same }

-- MACHINE-3, MACHINE-13, MACHINE-16, TIME-6: at an inactive machine 6 with bad seconds, else the code `full` if it is not 0, else 0 and a
-- session opens, whose time runs from the last accepted reading.
unfoldable pub admitted : ℕ → ℕ → Session → Decision
admitted full seconds new =
    cond (good_seconds seconds)
    (cond (full == 0) (record { code = 0; change = Opened (lasting (seconds * 1000) new) }) (answered full))
    (answered 6)

-- MACHINE-12: does the request, which would open the session `new`, come from the level and side of session s?
unfoldable pub same_mp : Session → Session → Bool
same_mp new s = new.level == s.level && new.side == s.side

-- MACHINE-4, MACHINE-5, MACHINE-13, MACHINE-17: an Activate at an active machine: 7 at another MP, whatever the seconds; 6 with bad
-- seconds; else 4, and only the time left changes.
unfoldable pub refreshed : ℕ → Session → Session → Decision
refreshed seconds new s =
    cond (same_mp new s)
    (cond (good_seconds seconds) (record { code = 4; change = Restarted (lasting (seconds * 1000) s) }) (answered 6))
    (answered 7)

-- MACHINE-4, MACHINE-5: the same, said of any machine. (The table asks for this, and for a close, of an active machine alone.)
unfoldable pub restarted : ℕ → Session → Machine → Decision
restarted seconds new Inactive = answered 7
restarted seconds new (Active s) = refreshed seconds new s

-- MACHINE-7, MACHINE-8: a Deactivate at an active machine: 7 at another MP; else 0, and the session closes.
unfoldable pub closed : Session → Machine → Decision
closed new Inactive = answered 7
closed new (Active s) = cond (same_mp new s) (record { code = 0; change = Closed }) (answered 7)

-- FORM-2: what a request's action does, on an allowed flow: MACHINE-3, MACHINE-4, MACHINE-5, MACHINE-6, MACHINE-7, MACHINE-8, MACHINE-9,
-- MACHINE-10, MACHINE-11. `new` is the session that an Activate would open. Any other number gets 255; no call comes to that.
unfoldable pub decided : ℕ → ℕ → ℕ → Session → Machine → Decision
decided action full seconds new m =
    cond (action == admit) (admitted full seconds new)
    (cond (action == restart) (restarted seconds new m)
    (cond (action == already) (answered 5)
    (cond (action == close) (closed new m)
    (cond (action == report) (answered 0)
    (answered 255)))))

-- MACHINE-15, MACHINE-18: the machine after a change: as it was, active, or inactive.
unfoldable pub after : Change → Machine → Machine
after Same m = m
after (Opened s) m = Active s
after (Restarted s) m = Active s
after Closed m = Inactive

-- MACHINE-29: is it SOAM up to and including the session's level?
unfoldable pub passes : Bool → ℕ → Session → Bool
passes soam level s = soam && nat_le level s.level

-- MACHINE-29, MACHINE-30, MACHINE-31: an active machine (no other is asked) forwards that, loops other data from its side, drops the rest.
unfoldable pub turned : Bool → ℕ → ℕ → Machine → Fate
turned soam level side Inactive = Drop
turned soam level side (Active s) =
    cond (passes soam level s) Forward (cond (side == s.side) Loop Drop)

-- MACHINE-28, MACHINE-29, MACHINE-30, MACHINE-31: what a data frame's action does. (Any other number drops it; no call comes to that.)
unfoldable pub fate_of : ℕ → Bool → ℕ → ℕ → Machine → Fate
fate_of action soam level side m =
    cond (action == forward) Forward (cond (action == turn) (turned soam level side m) Drop)

-- MACHINE-23, MACHINE-24: data from the External side, and data from the CEN side.
unfoldable pub data_event : ℕ → Event
data_event side = cond (side == external) ingress_data egress_data

-- REPLY-12: seconds left, a started one counted whole.
unfoldable pub seconds_left : ℕ → ℕ
seconds_left ms = (ms + 999) / 1000

-- REPLY-7, REPLY-8, REPLY-12: what a reply says of a machine: its session's side if it is active, and the seconds left, 0 if inactive.
unfoldable pub status_of : Machine → Status
status_of Inactive = record { side = None; seconds = 0 }
status_of (Active s) = record { side = Some s.side; seconds = seconds_left s.left }
