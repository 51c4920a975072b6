-- Frame sets (SET), Maintenance points (MP), Requests (REQUEST) and The machine (MACHINE): a frame call that is not refused. It touches its
-- own machine alone.
use Rattle.std.specs.Prelude.{List, [], ◌∷◌, Bool, true, false, cond, ℕ, length, ltb}
use Rattle.codec.specs.declared.FrameSet.{FrameSet}
use Rattle.codec.specs.declared.Addressed.{Addressed}
use Rattle.codec.specs.declared.Addressed.TheVariants.{Elsewhere, Unicast, Multicast}
use Rattle.codec.specs.declared.Request.{Request}
use Rattle.codec.specs.declared.Request.TheVariants.{Malformed, Reserved, Activate, Deactivate, State as StateRequest}
use Rattle.codec.specs.FrameSet.{Member, member, sets_of, destination, source, soam}
use Rattle.codec.specs.Request.{request_of, copies_of, level_of, type_of}
use Rattle.codec_replies.specs.Reply.{reply_frame, reply_pdu, tag_of, looped}
use Rattle.machine.specs.declared.Fate.{Fate}
use Rattle.machine.specs.declared.Fate.TheVariants.{Forward, Drop, Loop}
use Rattle.plan.specs.Plan.{port_numbered, in_plan}
use Rattle.calls.specs.declared.Answer.{Answer}
use Rattle.calls.specs.declared.Answer.TheVariants.{Forwarded, Dropped, Looped, Replied, RepliedForwarded}
use Rattle.calls.specs.Frame.{Arrived, arrived_at, pdu, for_mp, goes_on}
use Rattle.demands.specs.Machine.{Machine, Step, gets, activate, deactivate, status_of, fate, is_prohibited}
use Rattle.demands.specs.World.{World, become, full_for}

-- an answer, the world after it, and the octets that are written at the front of the lent output
pub record Told : Type 0 where
  pub answer : Answer
  pub world : World
  pub octets : List ℕ

-- CALL-27: with this answer no octet of the output is written.
unfoldable pub leaves : Answer → World → Told
leaves a w = record { answer = a; world = w; octets = [] }

-- CALL-26: the answer holds how many octets are written.
unfoldable pub sends : (ℕ → Answer) → World → List ℕ → Told
sends a w l = record { answer = a (length l); world = w; octets = l }

-- SET-12, MACHINE-1: each port, whole set and source has a machine to itself.
unfoldable pub own : World → FrameSet → Arrived → Machine
own w set a = w.machine a.port.number set (source a.frame)

-- CALL-17, CALL-18, CALL-19: forward, drop, or loop with the looped frame.
unfoldable pub by_fate : World → Arrived → Fate → Told
by_fate w a Forward = leaves Forwarded w
by_fate w a Drop = leaves Dropped w
by_fate w a Loop = sends Looped w (looped a.loop_source a.frame)

-- MACHINE-28, MACHINE-29, MACHINE-30, MACHINE-31: data is forwarded, looped or dropped, as its own machine has it.
unfoldable pub data_served : World → FrameSet → Arrived → Told
data_served w set a = by_fate w a (fate (soam a.taglen a.frame) (level_of (pdu a)) a.side (own w set a))

-- REPLY-1, REPLY-2, REPLY-3, REPLY-6: a reply to the request's source, from the port, with the request's tag, level and type (REPLY-5) and
-- the machine's status once the call is done (REPLY-7, REPLY-13). A MIP that replies to a multicast request forwards it too (REQUEST-16).
unfoldable pub replied : World → FrameSet → Arrived → Addressed → ℕ → List ℕ → Told
replied w set a whom code copies =
    sends (cond (goes_on a whom) RepliedForwarded Replied) w
    (reply_frame (source a.frame) a.reply_source (tag_of a.taglen a.frame)
    (reply_pdu (level_of (pdu a)) (type_of (pdu a)) code a.port.address (status_of (own w set a)) copies))

-- REQUEST-14: the machine takes its step, and the reply has the step's code.
unfoldable pub stepped : World → FrameSet → Arrived → Addressed → Step → Told
stepped w set a whom step =
    replied (become a.port.number set (source a.frame) step.next w) set a whom step.code (copies_of (pdu a))

-- MP-7: is it for an MP, and so not data?
unfoldable pub is_for : Addressed → Bool
is_for Elsewhere = false
is_for Unicast = true
is_for Multicast = true

-- a frame of a set at a port, from a side
unfoldable pub arrived : World → ℕ → ℕ → FrameSet → ℕ → List ℕ → Arrived
arrived w port side set taglen f = arrived_at w.plan (port_numbered port w.plan) side f set taglen

-- MACHINE-6, MACHINE-7, MACHINE-8: the step of a Deactivate.
abbrev pub deactivated : World → FrameSet → Arrived → Step
deactivated w set a = deactivate (level_of (pdu a)) a.side (own w set a)

module _ (keys : ℕ) where
  -- MACHINE-3, MACHINE-4, MACHINE-5: the step of an Activate of so many seconds.
  abbrev pub activated : World → FrameSet → Arrived → ℕ → Step
  activated w set a seconds =
      activate (full_for keys a.flow w) seconds (level_of (pdu a)) a.side (tag_of a.taglen a.frame) (own w set a)

  -- REQUEST-5, REQUEST-13, REQUEST-14, REPLY-15: malformed gets code 1 and no copies, a reserved type code 10; the machine answers the
  -- rest, a State request with code 0 and no change (MACHINE-9, MACHINE-10, MACHINE-11).
  unfoldable pub answers : World → FrameSet → Arrived → Addressed → Request → Told
  answers w set a whom Malformed = replied w set a whom 1 []
  answers w set a whom Reserved = replied w set a whom 10 (copies_of (pdu a))
  answers w set a whom (Activate seconds) = stepped w set a whom (activated w set a seconds)
  answers w set a whom Deactivate = stepped w set a whom (deactivated w set a)
  answers w set a whom StateRequest = stepped w set a whom (gets 0 (own w set a))

  -- REQUEST-1, REQUEST-2, REQUEST-3, REQUEST-4: on a prohibited flow a request is dropped, whatever it says (FLOW-5), except that a MIP
  -- forwards a multicast one; a PDU of fewer than 12 octets is dropped; all others are answered.
  unfoldable pub request_served : World → FrameSet → Arrived → Addressed → Told
  request_served w set a whom =
      cond (is_prohibited (own w set a)) (leaves (cond (goes_on a whom) Forwarded Dropped) w)
      (cond (ltb (length (pdu a)) 12) (leaves Dropped w)
      (answers w set a whom (request_of whom (destination a.frame) (pdu a))))

  -- MP-6, MP-7: whatever is not for an MP is data; what is for an MP is not.
  unfoldable pub by_whom : World → FrameSet → Arrived → Addressed → Told
  by_whom w set a Elsewhere = data_served w set a
  by_whom w set a Unicast = request_served w set a Unicast
  by_whom w set a Multicast = request_served w set a Multicast

  -- SET-10, SET-11: a set for which the plan has no flow on the port counts as no set, and the frame is forwarded.
  unfoldable pub in_flow : World → FrameSet → Arrived → Told
  in_flow w set a = cond (in_plan a.flow.number) (by_whom w set a (for_mp a)) (leaves Forwarded w)

  -- SET-11: a frame without a set is forwarded. (It has at most one.)
  unfoldable pub in_sets : World → ℕ → ℕ → List ℕ → List Member → Told
  in_sets w port side frame [] = leaves Forwarded w
  in_sets w port side frame (member set taglen ∷ more) = in_flow w set (arrived w port side set taglen frame)

  -- CALL-2: a frame call, by the set that the frame has at a port of this kind.
  unfoldable pub frame_served : World → ℕ → ℕ → List ℕ → Told
  frame_served w port side frame = in_sets w port side frame (sets_of (port_numbered port w.plan).kind frame)
