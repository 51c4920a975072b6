-- A frame leaves a valid state.
use mathlib.Core.Path.{◌≡◌, refl}
use mathlib.Core.Bool.{Bool, true, false, cond, ◌&&◌}
use mathlib.Core.List.{List, [], ◌∷◌}
use Prim.Native.Nat.{ℕ, ◌≤◌}
use lib.ListN.{length, drop}
use Rattle.octets.proofs.Same.{both_true}
use Rattle.octets.proofs.Laws.{Octets, octets_drop}
use Rattle.octets.proofs.Round.{number_fits}
use Rattle.codec.specs.declared.Addressed.{Addressed}
use Rattle.codec.specs.declared.Addressed.TheVariants.{Elsewhere, Unicast, Multicast}
use Rattle.codec.specs.declared.FrameSet.{FrameSet}
use Rattle.codec.specs.FrameSet.{Member, member, sets_of, destination, source, set_of}
use Rattle.codec.specs.Request.{is_request, addressed}
use Rattle.codec.proofs.Places.{tag_fits_lem}
use Rattle.machine.specs.declared.Fate.{Fate}
use Rattle.machine.specs.declared.Fate.TheVariants.{Forward, Drop, Loop}
use Rattle.plan.specs.declared.Port.{Port}
use Rattle.plan.specs.Plan.{port_numbered, flow_of_set, in_plan, faces}
use Rattle.state.specs.State.{State, notice_due, valid}
use Rattle.state.proofs.Rules.{valid_parts}
use Rattle.calls.specs.declared.Answer.TheVariants.{Forwarded}
use Rattle.calls.specs.Answer.{leaves, sends}
use Rattle.calls.specs.Frame.{Arrived, arrived_at, pdu, mp_of, by_fate, data_served}
use Rattle.calls.specs.Frame.{by_whom, for_mp, in_flow, in_sets, frame_served}
use Rattle.calls.proofs.PlaceSets.{InPlace, in_place}
use Rattle.calls.proofs.SetFlows.{OfSet, of_set}
use Rattle.calls.proofs.RequestValid.{Leaves, Brings, request_valid}

-- what a frame of a set of the plan brings
brings : (s : State) (port : Port) (side : ℕ) (set : FrameSet) (taglen : ℕ) {more : List Member} (f : List ℕ) → valid s ≡ true
    → Octets f → 14 ≤ length f → sets_of port.kind f ≡ member set taglen ∷ more
    → in_plan (arrived_at s.plan port side f set taglen).flow.number ≡ true
    → Brings s (arrived_at s.plan port side f set taglen)
unfolding source set_of arrived_at
brings s port side set taglen f h o long e there =
    let p : InPlace f set = in_place f port.kind set taglen e in
    let q : OfSet s.plan set (flow_of_set port.number set s.plan)
    = of_set s.plan port.number set (valid_parts s h).plan_kept p.kind_small p.vid_small there in
    record {
      numbered = q.numbered;
      source_fits = number_fits 6 (drop 6 f) (octets_drop 6 f o);
      unicast = p.unicast;
      fits = rw (q.kind_same, q.vid_same) (tag_fits_lem f port.kind e long o);
    }

module _ (s : State) (h : valid s ≡ true) (settled : notice_due s ≡ false) where
  fate_valid : (a : Arrived) (f : Fate) → Leaves (by_fate s a f)
  unfolding by_fate leaves sends
  fate_valid a Forward = h
  fate_valid a Drop = h
  fate_valid a Loop = h

  data_valid : (a : Arrived) → Leaves (data_served s a)
  unfolding data_served
  data_valid a = fate_valid a _

  module _ (a : Arrived) where
    whom_valid : (whom : Addressed) → Brings s a → in_plan a.flow.number ≡ true → faces (mp_of a) a.side ≡ true
        → Leaves (by_whom s a whom)
    unfolding by_whom
    whom_valid Elsewhere b there faced = data_valid a
    whom_valid Unicast b there faced = request_valid s h settled a b there Unicast faced
    whom_valid Multicast b there faced = request_valid s h settled a b there Multicast faced

    mp_valid : Brings s a → in_plan a.flow.number ≡ true → Leaves (by_whom s a (for_mp a))
    unfolding for_mp by_whom
    mp_valid b there = go (is_request a.taglen a.frame && faces (mp_of a) a.side) refl
      where
        whom : Addressed
        whom = addressed a.port.address (destination a.frame) (pdu a)

        go : (t : Bool) → (is_request a.taglen a.frame && faces (mp_of a) a.side) ≡ t
            → Leaves (by_whom s a (cond t whom Elsewhere))
        go true e = whom_valid whom b there (both_true (is_request a.taglen a.frame) (faces (mp_of a) a.side) e).1
        go false e = data_valid a

    flow_valid : (in_plan a.flow.number ≡ true → Brings s a) → Leaves (in_flow s a)
    unfolding in_flow leaves
    flow_valid b = go (in_plan a.flow.number) refl
      where
        go : (t : Bool) → in_plan a.flow.number ≡ t → Leaves (cond t (by_whom s a (for_mp a)) (leaves Forwarded s))
        go true e = mp_valid (b e) e
        go false e = h

  pub frame_valid : (port side : ℕ) (f : List ℕ) → Octets f → 14 ≤ length f → Leaves (frame_served s port side f)
  unfolding frame_served in_sets leaves
  frame_valid port side f o long = go (sets_of p.kind f) refl
    where
      p : Port
      p = port_numbered port s.plan

      go : (x : List Member) → sets_of p.kind f ≡ x → Leaves (in_sets s p side f x)
      go [] e = h
      go (member set taglen ∷ more) e = flow_valid _ (brings s p side set taglen f h o long e)
