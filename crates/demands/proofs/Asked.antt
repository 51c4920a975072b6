-- A request for an MP whose machine is not prohibited: the machine after an Activate, and what a State reply says.
use mathlib.Core.Path.{◌≡◌, refl, subst, ◌∙◌}
use mathlib.Core.Bool.{true, false, false≢true}
use mathlib.Core.List.{List}
use Prim.Native.Nat.{ℕ, ◌*◌}
use lib.Dec.{eqb}
use lib.ListN.{length}
use borrow.Author.Tests.{eq-eqb, le-ltb}
use Rattle.octets.specs.Lists.{within}
use Rattle.codec.specs.declared.FrameSet.{FrameSet}
use Rattle.codec.specs.declared.Addressed.{Addressed}
use Rattle.codec.specs.declared.Addressed.TheVariants.{Elsewhere, Unicast, Multicast}
use Rattle.codec.specs.declared.Request.{Request}
use Rattle.codec.specs.declared.Request.TheVariants.{Activate, State as StateRequest}
use Rattle.codec.specs.declared.Status.{Status}
use Rattle.codec.specs.FrameSet.{source, pdu_of}
use Rattle.codec.specs.Request.{level_of, type_of, copies_of}
use Rattle.codec_replies.specs.Reply.{reply_frame, reply_pdu, tag_of}
use Rattle.plan.specs.Plan.{port_numbered, flow_of_set}
use Rattle.calls.specs.Frame.{Arrived, arrived_at, pdu}
use Rattle.calls.specs.Calls.{frame}
use Rattle.demands.specs.Machine.{Machine, Owed, inactive, active, gets, activate, is_prohibited, status_of}
use Rattle.demands.specs.World.{World, same_set, become, full_for}
use Rattle.demands.specs.Frame.{sends, own, replied, stepped, answers, request_served, by_whom}
use Rattle.demands.specs.Calls.{refusal, call}
use Rattle.demands.specs.Frame.{is_for, arrived}
use Rattle.demands.specs.Data.{Carries}
use Rattle.demands.proofs.FrameWorlds.{own_becomes}
use Rattle.demands.proofs.Served.{port_is, set_is}

by_mp : (keys : ℕ) (w : World) (set : FrameSet) (a : Arrived) (whom : Addressed) → is_for whom ≡ true
    → by_whom keys w set a whom ≡ request_served keys w set a whom
unfolding by_whom is_for
by_mp keys w set a Elsewhere h = absurd (false≢true h)
by_mp keys w set a Unicast h = refl
by_mp keys w set a Multicast h = refl

pub own_becomes_lem : (w : World) (set : FrameSet) (a : Arrived) (m : Machine) → own (own_becomes w set a m) set a ≡ m
unfolding own become same_set
own_becomes_lem w set a m =
    rw (
      eq-eqb a.port.number a.port.number refl,
      eq-eqb set.kind set.kind refl,
      eq-eqb set.vid set.vid refl,
      eq-eqb (source a.frame) (source a.frame) refl,
    )

module _ (keys : ℕ) (w : World) (port side : ℕ) (set : FrameSet) (taglen : ℕ) (f out : List ℕ)
    (free : refusal keys w (frame port side f out) ≡ 0) where
  t : eqb (refusal keys w (frame port side f out)) 0 ≡ true
  t = rw free

  -- the frame's own machine
  abbrev m : Machine
  m = w.machine port set (source f)

  abbrev a : Arrived
  a = arrived w port side set taglen f

  own_is : own w set a ≡ m
  unfolding own arrived arrived_at
  own_is = rw (port_is keys w port side f out t)

  flow_is : a.flow ≡ flow_of_set port set w.plan
  unfolding arrived arrived_at
  flow_is = rw (port_is keys w port side f out t)

  request_is : {r : Request} → (q : Carries w port side set taglen f r) → is_prohibited m ≡ false
      → call keys w (frame port side f out) ≡ answers keys w set a q.whom r
  unfolding request_served arrived arrived_at pdu
  request_is q may =
      set_is keys w port side f out set taglen t q.placed q.planned
      ∙ rw (
        q.for_mp_is,
        by_mp keys w set a q.whom q.some_mp,
        own_is,
        may,
        le-ltb (length (pdu_of taglen f)) 12 q.long,
        q.request,
      )

  own_after : (next : Machine) → (own_becomes w set a next).machine port set (source f) ≡ next
  unfolding own arrived arrived_at
  own_after next =
      subst (λ n. (own_becomes w set a next).machine n set (source f) ≡ next) (port_is keys w port side f out t)
      (own_becomes_lem w set a next)

  -- the machine after an Activate is its step's
  activated : {seconds : ℕ} → Carries w port side set taglen f (Activate seconds) → is_prohibited m ≡ false
      → (call keys w (frame port side f out)).world.machine port set (source f)
      ≡ (activate (full_for keys (flow_of_set port set w.plan) w) seconds (level_of (pdu_of taglen f)) side (tag_of taglen f) m).next
  unfolding answers stepped replied sends arrived arrived_at pdu
  activated {seconds = seconds} q may =
      rw (request_is q may)
      (own_after (activate (full_for keys a.flow w) seconds (level_of (pdu_of taglen f)) side (tag_of taglen f) (own w set a)).next
      ∙ rw (own_is, flow_is))

  -- An Activate of so many seconds, where the machine is inactive and the unit is not full for the flow, opens a session of so many.
  pub opened : {seconds : ℕ} {owed : Owed} → Carries w port side set taglen f (Activate seconds) → m ≡ inactive owed
      → within 1 86400 seconds ≡ true → full_for keys (flow_of_set port set w.plan) w ≡ 0
      → (call keys w (frame port side f out)).world.machine port set (source f)
      ≡ active (level_of (pdu_of taglen f)) side (seconds * 1000) (tag_of taglen f)
  unfolding activate gets is_prohibited
  opened q is good space = activated q (rw is) ∙ rw (is, good, space)

  -- One of the session's own level and side starts it again.
  pub restarted : {seconds left : ℕ} {tag : List ℕ} → Carries w port side set taglen f (Activate seconds)
      → m ≡ active (level_of (pdu_of taglen f)) side left tag
      → within 1 86400 seconds ≡ true
      → (call keys w (frame port side f out)).world.machine port set (source f)
      ≡ active (level_of (pdu_of taglen f)) side (seconds * 1000) tag
  unfolding activate gets is_prohibited
  restarted q is good =
      activated q (rw is)
      ∙ rw (is, eq-eqb (level_of (pdu_of taglen f)) (level_of (pdu_of taglen f)) refl, eq-eqb side side refl, good)

  -- A State reply says the status of the machine.
  pub state_says : {status : Status} → Carries w port side set taglen f StateRequest → is_prohibited m ≡ false → status_of m ≡ status
      → (call keys w (frame port side f out)).octets
      ≡ reply_frame (source f) (port_numbered port w.plan).address (tag_of taglen f)
      (reply_pdu (level_of (pdu_of taglen f)) (type_of (pdu_of taglen f)) 0 (port_numbered port w.plan).address status
      (copies_of (pdu_of taglen f)))
  unfolding answers stepped replied sends gets arrived arrived_at pdu
  state_says q may is = rw (request_is q may, own_becomes_lem w set a (own w set a), own_is, is)
