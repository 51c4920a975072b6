-- What the C entries tell the tester of the examples, and the notice that they give: as in BENCH-8 and BENCH-9.
use mathlib.Core.Path.{◌≡◌, refl, ◌∙◌}
use mathlib.Core.Bool.{true, false}
use mathlib.Core.List.{List, [], ◌∷◌}
use Prim.Native.Nat.{ℕ, ◌*◌, ◌≤◌, ◌^◌}
use native.Mathlib.Omega.{arith}
use Rattle.octets.specs.Text.{hex}
use Rattle.codec.specs.declared.Addressed.TheVariants.{Unicast}
use Rattle.codec.specs.declared.Request.TheVariants.{Activate, State as StateRequest}
use Rattle.codec.specs.FrameSet.{cen}
use Rattle.machine.specs.Machine.{key}
use Rattle.plan.specs.declared.Flow.{Flow}
use Rattle.plan.specs.Plan.{flow_of_set}
use Rattle.state.specs.Image.{state_of, ok_image}
use Rattle.calls.specs.declared.Answer.TheVariants.{Noticed}
use Rattle.calls.specs.Answer.{number_of}
use Rattle.calls.specs.Calls.{Call, notice}
use Rattle.calls.specs.Bench.{room, written, to_port, to_tester, activate60, state_request}
use Rattle.demands.specs.Machine.{nothing, notice as owing, inactive, owed_by, idle as none}
use Rattle.demands.specs.World.{full_for, notice_due, first_owing}
use Rattle.demands.specs.Calls.{refusal}
use Rattle.demands.specs.Shown.{world_of}
use Rattle.demands.specs.Runs.{Seen, EntriesRun, octets_after}
use Rattle.demands.specs.Data.{Carries}
use Rattle.demands.proofs.Limit.{full_same, first_same}
use Rattle.demands.proofs.EntryShown.{state_shows}
use Rattle.demands.proofs.EntriesSeconds.{entries_seconds_told}
use Rattle.demands.proofs.NoticeGiven.{entries_notice}
use Rattle.demands.proofs.TypedCalls.{typed, all_typed}
use Rattle.demands.proofs.ExampleUnit.{vlan, tester, idle, unit, closed}
use Rattle.demands.proofs.ExampleSteps.{computed, idle_valid, unit_valid, closed_valid, activate_opens, step_left, due_is, on_image}
use Rattle.demands.proofs.RunExamples.{tag, vlan_small}

-- the frames of B1 and of a State request
abbrev activates : List ℕ
activates = to_port (hex "80 39 00 08 01 00 02 00 00 00 00 01 25 00 05 01 00 00 00 3C 00")

abbrev asks : List ℕ
asks = to_port (hex "80 39 00 08 03 00 02 00 00 00 00 01 00")

idle_carries : Carries (world_of idle) 1 cen vlan 4 activates (Activate 60)
unfolding computed
idle_carries =
    record { placed = refl; planned = refl; whom = Unicast; for_mp_is = refl; some_mp = refl; long = omega arith; request = refl }

unit_carries : Carries (world_of unit) 1 cen vlan 4 asks StateRequest
unfolding computed
unit_carries =
    record { placed = refl; planned = refl; whom = Unicast; for_mp_is = refl; some_mp = refl; long = omega arith; request = refl }

module _ (keys : ℕ) (big : 33 * 2 ^ 48 ≤ keys) where
  idle_due : notice_due keys (world_of idle) ≡ false
  unfolding computed
  idle_due = due_is keys big idle idle_valid

  unit_due : notice_due keys (world_of unit) ≡ false
  unfolding computed
  unit_due = due_is keys big unit unit_valid

  closed_due : notice_due keys (world_of closed) ≡ true
  unfolding computed
  closed_due = due_is keys big closed closed_valid

  idle_room : (f : Flow) → full_for keys f (world_of idle) ≡ 0
  unfolding computed
  idle_room f = full_same keys idle (world_of idle) big idle_valid (state_shows idle) f

  -- B1, then a State request: 60 seconds
  pub sixty_told : (l : List ℕ) → ok_image l ≡ true → state_of l ≡ idle
      → {from left : List ℕ} {z x : Seen} {ds : List Call} {ys : List Seen} {ks : List (List ℕ)}
      → EntriesRun l (activate60 ∷ []) (z ∷ []) (from ∷ [])
      → EntriesRun from (state_request ∷ ds) (x ∷ ys) (left ∷ ks)
      → x.out ≡ written (to_tester (hex "80 38 01 08 03 00 02 00 00 00 00 01 25 00 05 01 00 00 00 3C 00"))
  unfolding computed octets_after
  sixty_told l ok e {from = from} run then =
      let opened : state_of from ≡ unit = step_left l run ok (typed activate60 refl) ∙ rw e activate_opens in
      entries_seconds_told keys big 1 cen vlan 4 60 activates room cen 4 asks room run then ok (all_typed (activate60 ∷ []) refl)
      (typed state_request refl)
      (on_image idle l e (λ w. refusal keys w activate60 ≡ 0) (rw idle_due))
      (on_image idle l e (λ w. Carries w 1 cen vlan 4 activates (Activate 60)) idle_carries)
      (on_image idle l e (λ w. w.machine 1 vlan tester ≡ inactive nothing) refl)
      refl
      (on_image idle l e (λ w. full_for keys (flow_of_set 1 vlan w.plan) w ≡ 0) (idle_room _))
      refl
      (omega arith)
      (on_image unit from opened (λ w. refusal keys w state_request ≡ 0) (rw unit_due))
      (on_image unit from opened (λ w. Carries w 1 cen vlan 4 asks StateRequest) unit_carries)
      refl
      ∙ rw opened

  -- the notice that B9 takes
  pub closed_noticed : (l : List ℕ) → ok_image l ≡ true → state_of l ≡ closed
      → {left : List ℕ} {x : Seen} {cs : List Call} {xs : List Seen} {ls : List (List ℕ)}
      → EntriesRun l (notice room ∷ cs) (x ∷ xs) (left ∷ ls)
      → x ≡ record { number = number_of (Noticed 1 cen 31); out = written (to_tester (hex "80 38 00 08 02 08 02 00 00 00 00 01 00")) }
  unfolding computed none
  closed_noticed l ok e run =
      entries_notice keys big room run ok 1 vlan tester vlan_small (omega arith)
      (on_image closed l e (λ w. owed_by (w.machine 1 vlan tester) ≡ owing 8 4 cen tag) refl)
      (on_image closed l e (λ w. refusal keys w (notice room) ≡ 0) (rw closed_due))
      (on_image closed l e (λ w. first_owing keys w ≡ key (flow_of_set 1 vlan w.plan).number tester) (first_same keys closed (world_of closed) big closed_valid (state_shows closed) refl))
      ∙ rw e
