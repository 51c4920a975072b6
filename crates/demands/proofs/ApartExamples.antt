-- What the theorems on one machine and another say of the unit of the examples, and where they would not hold.
use mathlib.Core.Path.{◌≡◌, refl, sym, ◌∙◌}
use mathlib.Core.Bool.{true, false, cond}
use mathlib.Core.List.{List, [], ◌∷◌}
use Prim.Native.Nat.{ℕ, ◌*◌, ◌≤◌, ◌^◌}
use native.Mathlib.Omega.{arith}
use lib.Dec.{eqb}
use Rattle.octets.specs.Text.{hex}
use Rattle.codec.specs.declared.FrameSet.{FrameSet}
use Rattle.codec.specs.FrameSet.{cen, set_of}
use Rattle.plan.specs.declared.Flow.{Flow}
use Rattle.state.specs.Image.{state_of, ok_image}
use Rattle.calls.specs.Calls.{Call, frame}
use Rattle.calls.specs.Bench.{room, to_port, activate60}
use Rattle.demands.specs.Machine.{Machine, nothing, inactive, active, is_active, is_notice, owes, fate}
use Rattle.demands.specs.World.{World, become, flow_of, source_of, at, at_flow, counted, least, full_for, first_owing, notice_due}
use Rattle.demands.specs.Frame.{leaves, sends, by_fate, data_served, replied, stepped, answers, request_served, by_whom, in_flow, in_sets}
use Rattle.demands.specs.Frame.{frame_served}
use Rattle.demands.specs.Calls.{refusal, served, call}
use Rattle.demands.specs.Shown.{world_of}
use Rattle.demands.specs.Runs.{Seen, EntriesRun}
use Rattle.demands.specs.Data.{is_own, is_looped}
use Rattle.demands.proofs.CallShown.{sent}
use Rattle.demands.proofs.Limit.{full_same}
use Rattle.demands.proofs.EntryShown.{state_shows}
use Rattle.demands.proofs.ImageShown.{world_in}
use Rattle.demands.proofs.EntriesApart.{entries_others_alone, entries_own_decides}
use Rattle.demands.proofs.TypedCalls.{typed}
use Rattle.demands.proofs.ExampleUnit.{plan, vlan, tester, idle, unit, busy, close}
use Rattle.demands.proofs.ExampleSteps.{computed, idle_valid, unit_valid, busy_valid, due_is, on_image}
use Rattle.demands.proofs.RunExamples.{tag, vlan_small}

-- another tester
abbrev other : ℕ
other = 0x0200000000BB

-- the tester's Deactivate
abbrev closes : List ℕ
closes = to_port (hex "80 39 00 08 02 00 02 00 00 00 00 01 00")

-- ---- the C entries, on an image of the busy unit

module _ (keys : ℕ) (big : 33 * 2 ^ 48 ≤ keys) (l : List ℕ) (ok : ok_image l ≡ true) (e : state_of l ≡ busy) where
  -- The tester's Deactivate leaves the other's session alone.
  other_stays : {left : List ℕ} {cs : List Call} {x : Seen} {xs : List Seen} {ls : List (List ℕ)}
      → EntriesRun l (close ∷ cs) (x ∷ xs) (left ∷ ls)
      → (world_in left).machine 1 vlan other ≡ active 4 cen 1000 tag
  unfolding computed
  other_stays run =
      entries_others_alone keys big 1 cen closes room (typed close refl) run ok 1 vlan other vlan_small (omega arith)
      (on_image busy l e (λ w. is_own w 1 closes 1 vlan other ≡ false) refl)
      ∙ rw e

  -- and is answered as where the other has none.
  same_answer : (k : List ℕ) → ok_image k ≡ true → state_of k ≡ unit
      → {left-k left : List ℕ} {bs cs : List Call} {x y : Seen} {xs ys : List Seen} {ks ls : List (List ℕ)}
      → EntriesRun k (close ∷ bs) (x ∷ xs) (left-k ∷ ks)
      → EntriesRun l (close ∷ cs) (y ∷ ys) (left ∷ ls)
      → x ≡ y
  unfolding computed
  same_answer k ok-k e-k run-k run =
      let room_for : (f : Flow) → full_for keys f (world_in k) ≡ full_for keys f (world_in l)
      = λ f. on_image unit k e-k (λ w. full_for keys f w ≡ full_for keys f (world_in l))
      (full_same keys unit (world_of unit) big unit_valid (state_shows unit) f
      ∙ sym (on_image busy l e (λ w. full_for keys f w ≡ 0) (full_same keys busy (world_of busy) big busy_valid (state_shows busy) f))) in
      (entries_own_decides keys big 1 cen closes room (typed close refl) run-k run ok-k ok vlan 4
      (on_image unit k e-k (λ w. refusal keys w close ≡ 0) (rw (due_is keys big unit unit_valid)))
      (on_image busy l e (λ w. refusal keys w close ≡ 0) (rw (due_is keys big busy busy_valid)))
      (rw e) (rw e) (rw (e-k, e)) (rw (e-k, e)) (λ h. room_for _)).0

-- ---- where they would not hold

-- Its own machine a frame changes: after the Deactivate the tester has no session.
own_changes : (sent unit close).state ≡ idle
unfolding computed
own_changes = refl

-- A set that no frame has is shown as another: its machine is that of the tester's VLAN, and is none of the frame's own.
wide : FrameSet
wide = set_of 1 65556

wide_is_another : ((world_of unit).machine 1 wide tester ≡ (world_of unit).machine 1 vlan tester)
    × (is_own (world_of unit) 1 closes 1 wide tester ≡ false)
unfolding computed wide
wide_is_another = (refl, refl)

-- Another own machine, another answer: a data frame is turned round where the tester has a session, and not where it has none.
traffic : Call
traffic = frame 1 cen (hex "02 00 00 00 00 01 02 00 00 00 00 AA 81 00 00 14 08 00 45 00") room

module _ (keys : ℕ) (big : 33 * 2 ^ 48 ≤ keys) where
  own_turns : (is_looped (call keys (world_of unit) traffic).answer ≡ true) × (is_looped (call keys (world_of idle) traffic).answer ≡ false)
  unfolding computed traffic call served frame_served in_sets in_flow by_whom data_served by_fate fate leaves sends is_looped
  own_turns = (rw (due_is keys big unit unit_valid), rw (due_is keys big idle idle_valid))

-- Another count of sessions, another answer: of two worlds where the tester has none, one full, the other opens one for it.
among : Machine → World
among m = record { plan = plan; clock = 0; machine = λ p s x. cond (eqb x tester) (inactive nothing) m }

full_refuses : (is_active ((call 16 (among (inactive nothing)) activate60).world.machine 1 vlan tester) ≡ true)
    × (is_active ((call 16 (among (active 4 cen 1000 [])) activate60).world.machine 1 vlan tester) ≡ false)
unfolding computed among call served frame_served in_sets in_flow by_whom request_served answers stepped replied leaves sends become full_for
    counted least first_owing notice_due at at_flow flow_of source_of owes is_notice
full_refuses = (refl, refl)
