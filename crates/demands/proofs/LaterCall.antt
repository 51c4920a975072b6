-- A request and the same one rewritten, in one world: the same outcome and the same world after it, and replies that match.
use mathlib.Core.Path.{◌≡◌, refl, sym, ap}
use mathlib.Core.Bool.{Bool, true, false, cond, true≢false}
use mathlib.Core.List.{List}
use Prim.Native.Nat.{ℕ}
use lib.Dec.{eqb}
use Rattle.codec.specs.declared.FrameSet.{FrameSet}
use Rattle.codec.specs.declared.Addressed.{Addressed}
use Rattle.codec.specs.declared.Addressed.TheVariants.{Elsewhere, Unicast, Multicast}
use Rattle.codec.specs.declared.Request.{Request}
use Rattle.codec.specs.declared.Request.TheVariants.{Malformed, Reserved, Activate, Deactivate, State as StateRequest}
use Rattle.codec.specs.FrameSet.{destination, source}
use Rattle.codec.specs.Request.{level_of, type_of, request_of, copies_of}
use Rattle.codec_tlvs.specs.Tlv.{Tlv}
use Rattle.codec_replies.specs.Reply.{reply_frame, reply_pdu, tag_of}
use Rattle.plan.specs.Plan.{port_numbered}
use Rattle.calls.specs.declared.Answer.{Answer}
use Rattle.calls.specs.declared.Answer.TheVariants.{Refused, Forwarded, Dropped, Replied, RepliedForwarded}
use Rattle.calls.specs.Frame.{Arrived, arrived_at, pdu, for_mp, goes_on}
use Rattle.calls.specs.Calls.{Call, frame, lent}
use Rattle.demands.specs.Machine.{Step, status_of, is_prohibited}
use Rattle.demands.specs.World.{World, become}
use Rattle.demands.specs.Frame.{Told, leaves, sends, own, replied, stepped, answers, request_served, by_whom, in_flow, in_sets}
use Rattle.demands.specs.Frame.{frame_served}
use Rattle.demands.specs.Calls.{refusal, served, call}
use Rattle.demands.specs.Runs.{seen}
use Rattle.demands.specs.Frame.{is_for, arrived}
use Rattle.demands.specs.LaterRuns.{Asks, rewritten, Reply, reply, reply_and_forward, Silent, refused, forwarded, dropped}
use Rattle.demands.specs.LaterRuns.{Matches, silent, replied as repliedBoth}
use Rattle.demands.proofs.ReplyShape.{replies_are}
use Rattle.demands.proofs.LaterFrames.{Twins}

module _ (keys : ℕ) {w : World} {port side taglen : ℕ} {set : FrameSet} {f g : List ℕ} {ts us : List Tlv}
    (asks : Asks w port side set taglen f) (t : Twins w port side set taglen f g ts us) (out : List ℕ) where
  abbrev a : Arrived
  a = arrived w port side set taglen f

  abbrev b : Arrived
  b = arrived w port side set taglen g

  abbrev c : Call
  c = frame port side f out

  abbrev d : Call
  d = frame port side g out

  -- what is told of them: one world after them, and what is seen matches
  pub record Agree (x y : Told) : Type 0 where
    pub world_same : y.world ≡ x.world
    pub matches : Matches c (rewritten taglen ts us) (seen c x) (seen d y)

  own_same : (v : World) → own v set b ≡ own v set a
  unfolding own arrived arrived_at
  own_same v = ap (v.machine (port_numbered port w.plan).number set) t.from_same

  agree_silent : {x : Answer} → Silent x → (v : World) → Agree (leaves x v) (leaves x v)
  unfolding leaves seen lent
  agree_silent s v = record { world_same = refl; matches = silent s }

  agree_sent : {x : ℕ → Answer} → Reply x → (v : World) (code : ℕ)
      → Agree
      (sends x v (reply_frame (source f) a.reply_source (tag_of taglen f)
      (reply_pdu (level_of (pdu a)) (type_of (pdu a)) code a.port.address (status_of (own v set a)) (copies_of (pdu a)))))
      (sends x v (reply_frame (source g) b.reply_source (tag_of taglen g)
      (reply_pdu (level_of (pdu b)) (type_of (pdu b)) code b.port.address (status_of (own v set b)) (copies_of (pdu b)))))
  unfolding sends seen lent arrived arrived_at
  agree_sent x v code =
      rw (own_same v, t.from_same, t.tag_same, t.level_same, t.type_same, t.new_copies, t.old_copies)
      (record {
        world_same = refl;
        matches =
            repliedBoth x
            (rw t.tag_length at (replies_are (source f) (port_numbered port w.plan).address (level_of (pdu a)) (type_of (pdu a)) code
            (port_numbered port w.plan).address (tag_of taglen f) (status_of (own v set a)) ts us));
      })

  agree_replied : (v : World) (whom : Addressed) (code : ℕ)
      → Agree (replied v set a whom code (copies_of (pdu a))) (replied v set b whom code (copies_of (pdu b)))
  unfolding replied arrived arrived_at
  agree_replied v whom code = rw (t.goes_same whom) (go (goes_on a whom))
    where
      go : (on : Bool)
          → Agree
          (sends (cond on RepliedForwarded Replied) v (reply_frame (source f) a.reply_source (tag_of a.taglen f)
          (reply_pdu (level_of (pdu a)) (type_of (pdu a)) code a.port.address (status_of (own v set a)) (copies_of (pdu a)))))
          (sends (cond on RepliedForwarded Replied) v (reply_frame (source g) b.reply_source (tag_of b.taglen g)
          (reply_pdu (level_of (pdu b)) (type_of (pdu b)) code b.port.address (status_of (own v set b)) (copies_of (pdu b)))))
      go true = agree_sent reply_and_forward v code
      go false = agree_sent reply v code

  agree_stepped : (whom : Addressed) (x y : Step) → y ≡ x → Agree (stepped w set a whom x) (stepped w set b whom y)
  unfolding stepped arrived arrived_at
  agree_stepped whom x y e =
      rw (e, t.from_same)
      (agree_replied (become (port_numbered port w.plan).number set (source f) x.next w) whom x.code)

  agree_answers : (x : Request) → request_of (for_mp a) (destination f) (pdu a) ≡ x
      → Agree (answers keys w set a (for_mp a) x) (answers keys w set b (for_mp a) x)
  unfolding answers arrived arrived_at
  agree_answers Malformed e = absurd (t.formed e)
  agree_answers Reserved e = agree_replied w (for_mp a) 10
  agree_answers (Activate seconds) e = agree_stepped (for_mp a) _ _ (rw (own_same w, t.level_same, t.tag_same))
  agree_answers Deactivate e = agree_stepped (for_mp a) _ _ (rw (own_same w, t.level_same))
  agree_answers StateRequest e = agree_stepped (for_mp a) _ _ (rw (own_same w))

  agree_request : Agree (request_served keys w set a (for_mp a)) (request_served keys w set b (for_mp a))
  unfolding request_served arrived arrived_at
  agree_request =
      rw (own_same w, t.goes_same (for_mp a), t.new_long, t.old_long, t.request_same)
      (go (is_prohibited (own w set a)) (goes_on a (for_mp a)))
    where
      go : (p on : Bool)
          → Agree
          (cond p (leaves (cond on Forwarded Dropped) w)
          (answers keys w set a (for_mp a) (request_of (for_mp a) (destination f) (pdu a))))
          (cond p (leaves (cond on Forwarded Dropped) w)
          (answers keys w set b (for_mp a) (request_of (for_mp a) (destination f) (pdu a))))
      go true true = agree_silent forwarded w
      go true false = agree_silent dropped w
      go false on = agree_answers (request_of (for_mp a) (destination f) (pdu a)) refl

  agree_for : (whom : Addressed) → is_for whom ≡ true → Agree (request_served keys w set a whom) (request_served keys w set b whom)
      → Agree (by_whom keys w set a whom) (by_whom keys w set b whom)
  unfolding is_for by_whom
  agree_for Elsewhere h x = absurd (true≢false (sym h))
  agree_for Unicast h x = x
  agree_for Multicast h x = x

  agree_frame : Agree (frame_served keys w port side f) (frame_served keys w port side g)
  unfolding frame_served in_sets in_flow arrived arrived_at
  agree_frame =
      rw (asks.placed, t.placed, asks.in_plan_is, t.for_same) (agree_for (for_mp a) asks.for_mp_is agree_request)

  pub agree_call : Agree (call keys w c) (call keys w d)
  unfolding call refusal served
  agree_call = rw t.length_same (go (refusal keys w c) (eqb (refusal keys w c) 0))
    where
      go : (n : ℕ) (b : Bool) → Agree (cond b (frame_served keys w port side f) (leaves (Refused n) w))
          (cond b (frame_served keys w port side g) (leaves (Refused n) w))
      go n true = agree_frame
      go n false = agree_silent refused w
