-- What a frame call writes has at most 2,008 octets, and a notice has fewer.
use mathlib.Core.Path.{◌≡◌, refl}
use mathlib.Core.Bool.{Bool, true, false, cond}
use mathlib.Core.List.{List, [], ◌∷◌}
use Prim.Native.Nat.{ℕ, ◌+◌, ◌≤◌}
use native.Mathlib.Nat.{min-le_left}
use native.Mathlib.Omega.{arith}
use lib.Dec.{ltb}
use lib.ListN.{length, get_or, drop, length-take, length-drop}
use borrow.Author.Tests.{ltb-false}
use Rattle.octets.specs.Octets.{octets}
use Rattle.octets.proofs.Laws.{octets_length}
use Rattle.codec.specs.declared.Addressed.{Addressed}
use Rattle.codec.specs.declared.Addressed.TheVariants.{Elsewhere, Unicast, Multicast}
use Rattle.codec.specs.declared.Request.{Request}
use Rattle.codec.specs.declared.Request.TheVariants.{Malformed, Reserved, Activate, Deactivate, State as StateRequest}
use Rattle.codec.specs.FrameSet.{Member, member, sets_of, destination, source, pdu_of}
use Rattle.codec_tlvs.specs.Tlv.{timers}
use Rattle.codec.specs.Request.{malformed, by_type, request_of, copies_of, level_of, type_of, tlvs_of}
use Rattle.codec.specs.declared.Status.{Status}
use Rattle.codec_replies.specs.Reply.{tag_of, carries_timer, timer_part, reply_pdu}
use Rattle.codec.proofs.Short.{copies_short}
use Rattle.codec_replies.proofs.Lengths.{reply_short, malformed_reply_short, looped_length, frame_length, pdu_length}
use Rattle.machine.specs.declared.Session.{Session}
use Rattle.machine.specs.declared.Machine.TheVariants.{Inactive}
use Rattle.machine.specs.declared.Fate.{Fate}
use Rattle.machine.specs.declared.Fate.TheVariants.{Forward, Drop, Loop}
use Rattle.machine.specs.Machine.{status_of}
use Rattle.plan.specs.declared.Port.{Port}
use Rattle.plan.specs.Plan.{port_numbered, in_plan}
use Rattle.state.specs.State.{State, is_allowed}
use Rattle.calls.specs.Notice.{notice_frame}
use Rattle.calls.specs.declared.Answer.{Answer}
use Rattle.calls.specs.declared.Answer.TheVariants.{Forwarded, Dropped}
use Rattle.calls.specs.Answer.{Sent, leaves, sends}
use Rattle.calls.specs.Frame.{Arrived, arrived_at, pdu, own, by_fate, data_served, goes_on, replied, machine_served, answers}
use Rattle.calls.specs.Frame.{request_served, by_whom, for_mp, in_flow, in_sets, frame_served}

abbrev Fits : Sent → Type 0
Fits r = length r.octets ≤ 2008

nothing_written : (s : State) (x : Answer) → Fits (leaves x s)
unfolding leaves
nothing_written s x = omega arith

module _ (s : State) (a : Arrived) (low : 14 ≤ length a.frame) (high : length a.frame ≤ 2000) where
  fate_fits : (f : Fate) → Fits (by_fate s a f)
  unfolding by_fate sends
  fate_fits Forward = nothing_written s Forwarded
  fate_fits Drop = nothing_written s Dropped
  fate_fits Loop = omega (arith, looped_length a.loop_source a.frame (omega arith))

  module _ (enough : 12 ≤ length (pdu a)) where
    tag_short : length (tag_of a.taglen a.frame) + 14 + length (pdu a) ≤ length a.frame
    unfolding tag_of pdu pdu_of
    tag_short =
        omega (
          arith,
          length-take a.taglen (drop 12 a.frame),
          min-le_left a.taglen (length (drop 12 a.frame)),
          length-drop (14 + a.taglen) a.frame,
          enough,
        )

    replied_fits : (s' : State) (whom : Addressed) (code : ℕ) (copies : List ℕ) → length copies + 13 ≤ length (pdu a)
        → Fits (replied s' a whom code copies)
    unfolding replied sends
    replied_fits s' whom code copies h =
        omega (
          arith,
          tag_short,
          reply_short (source a.frame) a.reply_source (level_of (pdu a)) (type_of (pdu a)) a.port.address
              (tag_of a.taglen a.frame) (status_of (own s' a)) code copies (length (pdu a)) h,
        )

    malformed_fits : (whom : Addressed) → Fits (answers s a whom Malformed)
    unfolding answers replied sends
    malformed_fits whom =
        omega (
          arith,
          tag_short,
          malformed_reply_short (source a.frame) a.reply_source (level_of (pdu a)) (type_of (pdu a)) a.port.address
              (tag_of a.taglen a.frame) (status_of (own s a)),
        )

    module _ (whom : Addressed) where
      -- whatever a well-formed request says
      good_fits : length (copies_of (pdu a)) + 13 ≤ length (pdu a) → (r : Request) → Fits (answers s a whom r)
      unfolding answers machine_served
      good_fits h Malformed = malformed_fits whom
      good_fits h Reserved = replied_fits s whom 10 (copies_of (pdu a)) h
      good_fits h (Activate n) = replied_fits _ whom _ (copies_of (pdu a)) h
      good_fits h Deactivate = replied_fits _ whom _ (copies_of (pdu a)) h
      good_fits h StateRequest = replied_fits _ whom _ (copies_of (pdu a)) h

      answers_fit : Fits (answers s a whom (request_of whom (destination a.frame) (pdu a)))
      unfolding request_of
      answers_fit = go (malformed whom (destination a.frame) (pdu a)) refl
        where
          said : Request
          said = by_type (type_of (pdu a)) (get_or (timers (tlvs_of (pdu a)).tlvs) 0 0)

          go : (b : Bool) → malformed whom (destination a.frame) (pdu a) ≡ b → Fits (answers s a whom (cond b Malformed said))
          go true e = malformed_fits whom
          go false e = good_fits (copies_short whom (destination a.frame) (pdu a) e) said

  request_fits : (whom : Addressed) → Fits (request_served s a whom)
  unfolding request_served
  request_fits whom = go (is_allowed a.flow.number s) (ltb (length (pdu a)) 12) refl
    where
      go : (b short : Bool) → ltb (length (pdu a)) 12 ≡ short
          → Fits
          (cond b (cond short (leaves Dropped s) (answers s a whom (request_of whom (destination a.frame) (pdu a))))
          (leaves (cond (goes_on a whom) Forwarded Dropped) s))
      go true true e = nothing_written s Dropped
      go true false e = answers_fit (ltb-false (length (pdu a)) 12 e) whom
      go false short e = nothing_written s (cond (goes_on a whom) Forwarded Dropped)

  whom_fits : (whom : Addressed) → Fits (by_whom s a whom)
  unfolding by_whom data_served
  whom_fits Elsewhere = fate_fits _
  whom_fits Unicast = request_fits Unicast
  whom_fits Multicast = request_fits Multicast

  flow_fits_lem : Fits (in_flow s a)
  unfolding in_flow
  flow_fits_lem = go (in_plan a.flow.number)
    where
      go : (b : Bool) → Fits (cond b (by_whom s a (for_mp a)) (leaves Forwarded s))
      go true = whom_fits (for_mp a)
      go false = nothing_written s Forwarded

pub frame_fits : (s : State) (port side : ℕ) (frame : List ℕ) → 14 ≤ length frame → length frame ≤ 2000
    → length (frame_served s port side frame).octets ≤ 2008
unfolding frame_served in_sets arrived_at
frame_fits s port side frame low high = go (sets_of (port_numbered port s.plan).kind frame)
  where
    go : (sets : List Member) → Fits (in_sets s (port_numbered port s.plan) side frame sets)
    go [] = nothing_written s Forwarded
    go (member set taglen ∷ more) = flow_fits_lem s _ low high

-- a notice has its tag and 27 octets more
pub notice_length : (port : Port) (x : Session) → length (notice_frame port x) ≡ 27 + x.taglen
unfolding notice_frame timer_part carries_timer
notice_length port x =
    let address : ℕ = port.address in
    let inactive : Status = status_of Inactive in
    omega (
      arith,
      frame_length x.source address (octets x.taglen x.tag) (reply_pdu x.level 2 x.notice address inactive []),
      pdu_length x.level 2 x.notice address inactive [],
      octets_length x.taglen x.tag,
    )
