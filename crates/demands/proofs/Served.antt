-- A call of a world: refused it changes nothing; and what a frame call that is not refused is served by.
use mathlib.Core.Path.{◌≡◌, refl, ap, ◌∙◌}
use mathlib.Core.Bool.{Bool, true, false, not}
use mathlib.Core.List.{List, [], ◌∷◌}
use Prim.Native.Nat.{ℕ, ◌≤◌}
use lib.Dec.{eqb}
use lib.ListN.{length}
use borrow.Author.Tests.{not-false}
use Rattle.octets.specs.Lists.{within}
use Rattle.codec.specs.declared.FrameSet.{FrameSet}
use Rattle.codec.specs.FrameSet.{Member, member, only, external, cen}
use Rattle.plan.specs.Plan.{port_numbered, flow_of_set, in_plan}
use Rattle.octets.proofs.ListLaws.{neither, within_low}
use Rattle.codec.proofs.Places.{set_alone}
use Rattle.plan.proofs.Found.{port_found}
use Rattle.calls.specs.Frame.{arrived_at, for_mp}
use Rattle.calls.specs.Calls.{Call, frame, bad_length}
use Rattle.calls.proofs.CallValid.{passed}
use Rattle.demands.specs.World.{World}
use Rattle.demands.specs.Frame.{leaves, data_served, by_whom, in_flow, in_sets, frame_served}
use Rattle.demands.specs.Calls.{no_such_place, refusal, served, call}
use Rattle.demands.specs.Frame.{arrived}
use Rattle.demands.specs.Data.{sets_at, in_set, IsData}
use Rattle.state.proofs.OwedRow.{by_test}
use Rattle.demands.proofs.FrameWorlds.{Steps, flow_world}

module _ (keys : ℕ) (w : World) where
  pub refused_is : (c : Call) → eqb (refusal keys w c) 0 ≡ false → (call keys w c).world ≡ w
  unfolding call leaves
  refused_is c e = rw e

  pub served_is : (c : Call) → eqb (refusal keys w c) 0 ≡ true → call keys w c ≡ served keys w c
  unfolding call
  served_is c e = rw e

  module _ (port side : ℕ) (f out : List ℕ) where
    -- The port of a frame that is not refused is in the plan.
    pub port_is : eqb (refusal keys w (frame port side f out)) 0 ≡ true → (port_numbered port w.plan).number ≡ port
    unfolding refusal no_such_place
    port_is e =
        let there : Bool = in_plan (port_numbered port w.plan).number in
        let a : _ = passed (no_such_place w port side) 0 _ e in
        let b : _ = neither (not there) (not (within external cen side)) a.0 in
        port_found w.plan port (not-false there b.0)

    -- The frame has 14 octets or more,
    long_is : eqb (refusal keys w (frame port side f out)) 0 ≡ true → 14 ≤ length f
    unfolding refusal bad_length
    long_is e =
        let a : _ = passed (no_such_place w port side) 0 _ e in
        let b : _ = passed (bad_length f) 1 _ a.1 in
        within_low 14 2000 (length f) (not-false (within 14 2000 (length f)) b.0)

    -- and no set, or one alone.
    pub by_sets : {A : Type 0} → eqb (refusal keys w (frame port side f out)) 0 ≡ true → (sets_at w port f ≡ [] → A)
        → ((set : FrameSet) (taglen : ℕ) → sets_at w port f ≡ only set taglen → A) → A
    unfolding sets_at
    by_sets {A = A} t none one = go (sets_at w port f) refl
      where
        go : (sets : List Member) → sets_at w port f ≡ sets → A
        go [] e = none e
        go (member set taglen ∷ more) e =
            one set taglen (rw (set_alone f (port_numbered port w.plan).kind e (long_is t)) at e)

    -- A frame of a set of the plan is served by its own machine.
    pub set_is : (set : FrameSet) (taglen : ℕ) → eqb (refusal keys w (frame port side f out)) 0 ≡ true
        → sets_at w port f ≡ only set taglen → in_set w port (only set taglen) ≡ true
        → call keys w (frame port side f out)
        ≡ by_whom keys w set (arrived w port side set taglen f) (for_mp (arrived w port side set taglen f))
    unfolding served frame_served sets_at in_sets in_flow in_set arrived arrived_at
    set_is set taglen t placed planned =
        let there : in_plan (flow_of_set (port_numbered port w.plan).number set w.plan).number ≡ true
        = rw (port_is t) planned in
        served_is (frame port side f out) t ∙ ap (in_sets keys w port side f) placed ∙ rw there

    pub data_is : {set : FrameSet} {taglen : ℕ} → eqb (refusal keys w (frame port side f out)) 0 ≡ true
        → IsData w port side set taglen f
        → call keys w (frame port side f out) ≡ data_served w set (arrived w port side set taglen f)
    unfolding by_whom
    data_is {set = set} {taglen = taglen} t d = set_is set taglen t d.placed d.planned ∙ rw d.for_no_mp

    -- the world after it
    pub frame_world : (P : World → Type 0) → P w
        → ((set : FrameSet) (taglen : ℕ) → sets_at w port f ≡ only set taglen → (port_numbered port w.plan).number ≡ port
        → Steps keys w P set (arrived w port side set taglen f))
        → P (call keys w (frame port side f out)).world
    unfolding served frame_served sets_at in_sets leaves
    frame_world P same steps =
        by_test (eqb (refusal keys w (frame port side f out)) 0)
        (λ t. rw (served_is (frame port side f out) t)
        (by_sets t (λ e. rw e same)
        (λ set taglen e. rw e (flow_world keys w P same set (arrived w port side set taglen f) (steps set taglen e (port_is t))))))
        (λ t. rw (refused_is (frame port side f out) t) same)
