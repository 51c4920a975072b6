-- Frames that are never turned round: those of no set of the plan, and requests for an MP.
use mathlib.Core.Path.{◌≡◌, refl}
use mathlib.Core.Bool.{Bool, true, false, cond, false≢true}
use mathlib.Core.List.{List, [], ◌∷◌}
use Prim.Native.Nat.{ℕ}
use lib.Dec.{eqb, ltb}
use lib.ListN.{length}
use Rattle.codec.specs.declared.FrameSet.{FrameSet}
use Rattle.codec.specs.declared.Addressed.{Addressed}
use Rattle.codec.specs.declared.Addressed.TheVariants.{Elsewhere, Unicast, Multicast}
use Rattle.codec.specs.declared.Request.{Request}
use Rattle.codec.specs.declared.Request.TheVariants.{Malformed, Reserved, Activate, Deactivate, State as StateRequest}
use Rattle.codec.specs.FrameSet.{Member, member, destination}
use Rattle.codec.specs.Request.{request_of}
use Rattle.plan.specs.Plan.{port_numbered, flow_of_set, in_plan}
use Rattle.calls.specs.declared.Answer.TheVariants.{Forwarded, Dropped, Replied, RepliedForwarded}
use Rattle.calls.specs.Frame.{Arrived, arrived_at, pdu, goes_on}
use Rattle.calls.specs.Calls.{frame}
use Rattle.demands.specs.Machine.{is_prohibited}
use Rattle.demands.specs.World.{World}
use Rattle.demands.specs.Frame.{Told, leaves, sends, own, replied, stepped, answers, request_served, by_whom, in_flow}
use Rattle.demands.specs.Frame.{in_sets, frame_served}
use Rattle.demands.specs.Calls.{refusal, served, call}
use Rattle.demands.specs.Frame.{is_for, arrived}
use Rattle.demands.specs.Data.{sets_at, in_set, is_looped}
use Rattle.state.proofs.OwedRow.{by_test}
use Rattle.demands.proofs.Served.{served_is, port_is}

abbrev Not : Told → Type 0
Not t = is_looped t.answer ≡ false

module _ (keys : ℕ) (w : World) (set : FrameSet) (a : Arrived) (whom : Addressed) where
  replied_not : (u : World) (code : ℕ) (copies : List ℕ) → Not (replied u set a whom code copies)
  unfolding replied sends is_looped
  replied_not u code copies = go (goes_on a whom) _
    where
      go : (b : Bool) (n : ℕ) → is_looped ((cond b RepliedForwarded Replied) n) ≡ false
      go true n = refl
      go false n = refl

  answers_not : (r : Request) → Not (answers keys w set a whom r)
  unfolding answers stepped
  answers_not Malformed = replied_not w _ _
  answers_not Reserved = replied_not w _ _
  answers_not (Activate seconds) = replied_not _ _ _
  answers_not Deactivate = replied_not _ _ _
  answers_not StateRequest = replied_not _ _ _

  request_not : Not (request_served keys w set a whom)
  unfolding request_served leaves is_looped
  request_not = go (is_prohibited (own w set a)) (ltb (length (pdu a)) 12) (goes_on a whom)
    where
      go : (barred short on : Bool)
          → Not (cond barred (leaves (cond on Forwarded Dropped) w)
          (cond short (leaves Dropped w) (answers keys w set a whom (request_of whom (destination a.frame) (pdu a)))))
      go true short true = refl
      go true short false = refl
      go false true on = refl
      go false false on = answers_not _

-- a request for an MP
pub whom_not : (keys : ℕ) (w : World) (set : FrameSet) (a : Arrived) (whom : Addressed) → is_for whom ≡ true
    → Not (by_whom keys w set a whom)
unfolding by_whom is_for
whom_not keys w set a Elsewhere h = absurd (false≢true h)
whom_not keys w set a Unicast h = request_not keys w set a Unicast
whom_not keys w set a Multicast h = request_not keys w set a Multicast

module _ (keys : ℕ) (w : World) (port side : ℕ) (f out : List ℕ) where
  pub refused_not : eqb (refusal keys w (frame port side f out)) 0 ≡ false → Not (call keys w (frame port side f out))
  unfolding call leaves is_looped
  refused_not e = rw e

  -- A frame in no set of the plan is never turned round.
  pub never_turned : in_set w port (sets_at w port f) ≡ false → is_looped (call keys w (frame port side f out)).answer ≡ false
  unfolding served frame_served sets_at in_sets in_flow in_set arrived arrived_at leaves is_looped
  never_turned gone =
      by_test (eqb (refusal keys w (frame port side f out)) 0)
      (λ t. rw (served_is keys w (frame port side f out) t) (go (sets_at w port f) (port_is keys w port side f out t) gone))
      refused_not
    where
      go : (sets : List Member) → (port_numbered port w.plan).number ≡ port → in_set w port sets ≡ false
          → Not (in_sets keys w port side f sets)
      go [] n e = refl
      go (member set taglen ∷ more) n e =
          let none : in_plan (flow_of_set (port_numbered port w.plan).number set w.plan).number ≡ false = rw n e in
          rw none
