-- How long replies and looped frames are: a reply is at most eight octets longer than its request.
use mathlib.Core.Path.{◌≡◌, ap}
use mathlib.Core.Bool.{Bool, true, false, cond, ◌||◌, and-false}
use mathlib.Core.List.{List, [], ◌++◌}
use Prim.Native.Nat.{ℕ, ◌+◌, ◌-◌, ◌≤◌}
use native.Mathlib.Omega.{arith}
use lib.Dec.{eqb}
use lib.ListN.{length, take, drop, length-append, length-drop}
use lib.Seq.{length-take-le}
use Rattle.octets.specs.Octets.{octets}
use Rattle.codec.specs.declared.Status.{Status}
use Rattle.codec.specs.FrameSet.{destination, group}
use Rattle.codec_replies.specs.Reply.{header, timer_tlv, carries_timer, timer_part, reply_pdu, reply_frame, looped}

pub timer_short : (kind code seconds : ℕ) → length (timer_part kind code seconds) ≤ 8
unfolding timer_part timer_tlv octets
timer_short kind code seconds = go (carries_timer kind code)
  where
    go : (b : Bool) → length (cond b (timer_tlv seconds) []) ≤ 8
    go true = omega arith
    go false = omega arith

no_timer : (kind seconds : ℕ) → timer_part kind 1 seconds ≡ []
unfolding timer_part carries_timer
no_timer kind seconds = rw (and-false (eqb kind 1 || eqb kind 3))

pub pdu_length : (level kind code port : ℕ) (status : Status) (copies : List ℕ)
    → length (reply_pdu level kind code port status copies) ≡ 13 + length (timer_part kind code status.seconds) + length copies
unfolding reply_pdu header octets
pdu_length level kind code port status copies = simp length-append (omega arith)

pub frame_length : (requester from : ℕ) (tag pdu : List ℕ)
    → length (reply_frame requester from tag pdu) ≡ 14 + length tag + length pdu
unfolding reply_frame octets
frame_length requester from tag pdu = simp length-append (omega arith)

module _ (requester from level kind port : ℕ) (tag : List ℕ) (status : Status) where
  -- the reply to a well-formed request is at most eight octets longer than the request, n being the length of its PDU
  pub reply_short : (code : ℕ) (copies : List ℕ) (n : ℕ) → length copies + 13 ≤ n
      → length (reply_frame requester from tag (reply_pdu level kind code port status copies)) ≤ 14 + length tag + n + 8
  reply_short code copies n h =
      omega (
        arith,
        frame_length requester from tag (reply_pdu level kind code port status copies),
        pdu_length level kind code port status copies,
        timer_short kind code status.seconds,
        h,
      )

  -- that to a malformed one has 13 octets of PDU
  pub malformed_reply_short : length (reply_frame requester from tag (reply_pdu level kind 1 port status [])) ≡ 27 + length tag
  malformed_reply_short =
      omega (
        arith,
        frame_length requester from tag (reply_pdu level kind 1 port status []),
        pdu_length level kind 1 port status [],
        ap (λ (l : List ℕ). length l) (no_timer kind status.seconds),
      )

-- a looped frame is as long as it was
pub looped_length : (port : ℕ) (frame : List ℕ) → 12 ≤ length frame → length (looped port frame) ≡ length frame
unfolding looped octets
looped_length port frame h = go (group (destination frame))
  where
    start : length (take 6 (drop 6 frame)) ≡ 6
    start = length-take-le 6 (drop 6 frame) (omega (arith, length-drop 6 frame))

    rest : length (drop 12 frame) ≡ length frame - 12
    rest = length-drop 12 frame

    go : (b : Bool)
        → length (take 6 (drop 6 frame) ++ cond b (octets 6 port) (take 6 frame) ++ drop 12 frame) ≡ length frame
    go true = simp length-append (omega (arith, start, rest))
    go false = simp length-append (omega (arith, start, rest, length-take-le 6 frame (omega arith)))
