-- A frame call that is not refused: the world answers it as the unit does.
use mathlib.Core.Path.{◌≡◌, refl, sym, subst}
use mathlib.Core.Bool.{Bool, true, false, cond}
use mathlib.Core.List.{List, [], ◌∷◌}
use Prim.Native.Nat.{ℕ, ◌≤◌}
use native.Mathlib.Omega.{arith}
use lib.ListN.{length, drop, length-drop}
use borrow.Author.Tests.{not-false}
use Rattle.octets.specs.Lists.{within}
use Rattle.octets.proofs.Laws.{Octets, octets_drop}
use Rattle.octets.proofs.Round.{octets_number}
use Rattle.codec.specs.declared.FrameSet.{FrameSet}
use Rattle.codec.specs.declared.Addressed.{Addressed}
use Rattle.codec.specs.declared.Addressed.TheVariants.{Elsewhere, Unicast, Multicast}
use Rattle.codec.specs.FrameSet.{Member, member, sets_of}
use Rattle.codec.proofs.Places.{tag_whole}
use Rattle.codec.proofs.FrameParts.{source_fits}
use Rattle.codec_replies.specs.Reply.{tag_of}
use Rattle.plan.specs.declared.Port.{Port}
use Rattle.plan.specs.declared.Flow.{Flow}
use Rattle.plan.specs.Plan.{Plan, port_numbered, in_plan}
use Rattle.state.specs.State.{State, full_for, notice_due, valid}
use Rattle.octets.proofs.ListLaws.{within_low}
use Rattle.calls.specs.declared.Answer.TheVariants.{Forwarded}
use Rattle.calls.specs.Answer.{leaves}
use Rattle.calls.specs.Frame.{Arrived, arrived_at, for_mp, by_whom, in_flow, in_sets, frame_served}
use Rattle.calls.specs.Calls.{no_such_place, bad_length}
use Rattle.calls.proofs.PlaceSets.{InPlace, in_place}
use Rattle.demands.specs.World.{World, full_for as fullForIn}
use Rattle.demands.specs.Frame.{leaves as leavesIn, by_whom as byWhomIn, in_flow as inFlowIn, in_sets as inSetsIn}
use Rattle.demands.specs.Frame.{frame_served as frameServedIn, arrived}
use Rattle.demands.proofs.Shows.{Shows, Alike, leaves_alike}
use Rattle.demands.proofs.OwnShown.{OfFlow}
use Rattle.demands.proofs.DataAlike.{data_alike}
use Rattle.demands.proofs.RequestAlike.{request_alike}

of_flow_lem : (plan : Plan) (port : Port) (side : ℕ) (set : FrameSet) (taglen : ℕ) {more : List Member} (f : List ℕ) → Octets f
    → 14 ≤ length f → sets_of port.kind f ≡ member set taglen ∷ more
    → in_plan (arrived_at plan port side f set taglen).flow.number ≡ true
    → OfFlow plan set (arrived_at plan port side f set taglen)
unfolding tag_of arrived_at
of_flow_lem plan port side set taglen f o long e there =
    let p : InPlace f set = in_place f port.kind set taglen e in
    record {
      flow_same = refl;
      there = there;
      small = record { kind_small = p.kind_small; vid_small = p.vid_small };
      source_fits = source_fits f o;
      tag_same =
          octets_number taglen (drop 12 f) (octets_drop 12 f o)
          (omega (arith, length-drop 12 f, tag_whole f port.kind e long));
    }

module _ (keys : ℕ) (s : State) (w : World) (h : valid s ≡ true) (k : Shows s w) (settled : notice_due s ≡ false)
    (same : (f : Flow) → fullForIn keys f w ≡ full_for f s) where
  whom_alike : (set : FrameSet) (a : Arrived) → OfFlow s.plan set a → (whom : Addressed)
      → Alike (by_whom s a whom) (byWhomIn keys w set a whom)
  unfolding by_whom byWhomIn
  whom_alike set a f Elsewhere = data_alike s w k set a f h settled
  whom_alike set a f Unicast = request_alike set a Unicast s w k f h settled keys same
  whom_alike set a f Multicast = request_alike set a Multicast s w k f h settled keys same

  flow_alike : (set : FrameSet) (a : Arrived) → (in_plan a.flow.number ≡ true → OfFlow s.plan set a)
      → Alike (in_flow s a) (inFlowIn keys w set a)
  unfolding in_flow inFlowIn
  flow_alike set a f = go (in_plan a.flow.number) refl
    where
      go : (b : Bool) → in_plan a.flow.number ≡ b
          → Alike (cond b (by_whom s a (for_mp a)) (leaves Forwarded s))
          (cond b (byWhomIn keys w set a (for_mp a)) (leavesIn Forwarded w))
      go true e = whom_alike set a (f e) (for_mp a)
      go false e = leaves_alike s w k Forwarded

  sets_alike : (port side : ℕ) (f : List ℕ) → Octets f → 14 ≤ length f → (sets : List Member)
      → sets_of (port_numbered port s.plan).kind f ≡ sets
      → Alike (in_sets s (port_numbered port s.plan) side f sets) (inSetsIn keys w port side f sets)
  unfolding in_sets inSetsIn arrived
  sets_alike port side f o long [] e = leaves_alike s w k Forwarded
  sets_alike port side f o long (member set taglen ∷ more) e =
      let a : Plan → Arrived = λ plan. arrived_at plan (port_numbered port plan) side f set taglen in
      subst (λ plan. Alike (in_flow s (a s.plan)) (inFlowIn keys w set (a plan))) (sym k.plan_same)
      (flow_alike set (a s.plan) (of_flow_lem s.plan (port_numbered port s.plan) side set taglen f o long e))

pub frame_alike : (keys : ℕ) (s : State) (w : World) → valid s ≡ true → Shows s w → notice_due s ≡ false
    → ((f : Flow) → fullForIn keys f w ≡ full_for f s)
    → (port side : ℕ) (octets : List ℕ) → Octets octets → no_such_place s port side ≡ false → bad_length octets ≡ false
    → Alike (frame_served s port side octets) (frameServedIn keys w port side octets)
unfolding frame_served frameServedIn bad_length
frame_alike keys s w h k settled same port side octets o place sized =
    subst
    (λ (plan : Plan). Alike (frame_served s port side octets)
    (inSetsIn keys w port side octets (sets_of (port_numbered port plan).kind octets)))
    (sym k.plan_same)
    (sets_alike keys s w h k settled same port side octets o
    (within_low 14 2000 (length octets) (not-false (within 14 2000 (length octets)) sized)) _ refl)
