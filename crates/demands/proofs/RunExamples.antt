-- What the theorems on runs of the C entries say of the unit of the examples.
use mathlib.Core.Path.{◌≡◌, refl, ap, ◌∙◌}
use mathlib.Core.Bool.{true, false}
use mathlib.Core.List.{List, [], ◌∷◌}
use Prim.Native.Nat.{ℕ, ◌-◌, ◌*◌, ◌≤◌, ◌^◌}
use native.Mathlib.Omega.{arith}
use Rattle.octets.specs.Octets.{octets}
use Rattle.codec.specs.FrameSet.{cen}
use Rattle.state.specs.Image.{image, state_of, ok_image}
use Rattle.state.proofs.ImageLaws.{state_image, image_ok}
use Rattle.calls.specs.Calls.{Call, tick}
use Rattle.calls.specs.Bench.{activate60}
use Rattle.demands.specs.Machine.{notice as owing, inactive, active}
use Rattle.demands.specs.World.{World, notice_due}
use Rattle.demands.specs.Calls.{refusal, call}
use Rattle.demands.specs.Runs.{Seen, world_after, EntriesRun, octets_after}
use Rattle.demands.specs.Elapsed.{elapsed_over, is_left_alone}
use Rattle.demands.proofs.Shows.{SmallSet, Shows}
use Rattle.demands.proofs.CallShown.{sent}
use Rattle.demands.proofs.Limit.{due_same}
use Rattle.demands.proofs.RunParts.{left_by, every_run}
use Rattle.demands.proofs.ImageShown.{world_in}
use Rattle.demands.proofs.EntriesSeconds.{entries_time_left, entries_expires}
use Rattle.demands.proofs.TypedCalls.{typed, all_typed}
use Rattle.demands.proofs.ExampleUnit.{vlan, tester, session, unit_at, unit, world, slip}
use Rattle.demands.proofs.ExampleSteps.{computed, unit_valid, slip_keeps, step_shows, on_image}
use Rattle.demands.proofs.AloneExamples.{past_a_slip, past_a_slip_and_tick}

abbrev pub tag : List ℕ
tag = octets 4 0x81000014

pub vlan_small : SmallSet vlan
unfolding computed
vlan_small = record { kind_small = omega arith; vid_small = omega arith }

module _ (keys : ℕ) (big : 33 * 2 ^ 48 ≤ keys) where
  -- ---- a slip, and what elapsed

  abbrev slipped : World
  slipped = (call keys world slip).world

  slip_shows : Shows unit slipped
  unfolding computed
  slip_shows = step_shows keys big unit unit unit_valid slip (typed slip refl) slip_keeps

  slip_due : notice_due keys slipped ≡ false
  unfolding computed
  slip_due = due_same keys unit slipped big unit_valid slip_shows

  -- a tick then, and one that reaches the session's end
  tick_elapsed : elapsed_over keys world (slip ∷ tick 1000 ∷ []) ≡ 1000
  unfolding computed
  tick_elapsed = rw (slip_due, slip_shows.clock_same)

  end_elapsed : elapsed_over keys world (slip ∷ tick 60000 ∷ []) ≡ 60000
  unfolding computed
  end_elapsed = rw (slip_due, slip_shows.clock_same)

  end_free : refusal keys slipped (tick 60000) ≡ 0
  unfolding computed
  end_free = rw (slip_due, slip_shows.clock_same)

  module _ (l : List ℕ) (ok : ok_image l ≡ true) (e : state_of l ≡ unit) where
    own_is : (world_in l).machine 1 vlan tester ≡ active 4 cen 60000 tag
    unfolding computed
    own_is = rw e

    -- 59 of 60 seconds are left past a slip and a second.
    a_second_passes : {xs : List Seen} {ls : List (List ℕ)} → EntriesRun l (slip ∷ tick 1000 ∷ []) xs ls
        → (world_in (octets_after l ls)).machine 1 vlan tester ≡ active 4 cen 59000 tag
    unfolding computed
    a_second_passes run =
        let cs : List Call = slip ∷ tick 1000 ∷ [] in
        let passed : elapsed_over keys (world_in l) cs ≡ 1000 = on_image unit l e (λ w. elapsed_over keys w cs ≡ 1000) tick_elapsed in
        entries_time_left keys big cs ok 1 vlan tester vlan_small (omega arith) own_is
        (on_image unit l e (λ w. is_left_alone keys 1 vlan tester w cs ≡ true) (past_a_slip_and_tick keys))
        (omega (arith, passed)) run (all_typed cs refl)
        ∙ ap (λ n. active 4 cen (60000 - n) tag) passed

    -- And it closes past a slip and 60, with a code 8 notice.
    an_end_comes : {xs : List Seen} {ls : List (List ℕ)} → EntriesRun l (slip ∷ tick 60000 ∷ []) xs ls
        → (world_in (octets_after l ls)).machine 1 vlan tester ≡ inactive (owing 8 4 cen tag)
    unfolding computed world_after
    an_end_comes run =
        let passed : elapsed_over keys (world_in l) (slip ∷ tick 60000 ∷ []) ≡ 60000
        = on_image unit l e (λ w. elapsed_over keys w (slip ∷ tick 60000 ∷ []) ≡ 60000) end_elapsed in
        entries_expires keys big (slip ∷ []) ok 1 vlan tester vlan_small (omega arith) own_is
        (on_image unit l e (λ w. is_left_alone keys 1 vlan tester w (slip ∷ []) ≡ true) (past_a_slip keys))
        (omega arith) 60000 run (all_typed (slip ∷ tick 60000 ∷ []) refl)
        (on_image unit l e (λ w. refusal keys (call keys w slip).world (tick 60000) ≡ 0) end_free) (omega (arith, passed))

-- There is such an image, and such a run on it.
a_second_passed : (keys : ℕ) → 33 * 2 ^ 48 ≤ keys
    → (world_in (octets_after (image unit) (left_by (image unit) (slip ∷ tick 1000 ∷ [])))).machine 1 vlan tester ≡ active 4 cen 59000 tag
a_second_passed keys big =
    a_second_passes keys big (image unit) (image_ok unit unit_valid) (state_image unit unit_valid)
    (every_run (image unit) (slip ∷ tick 1000 ∷ []))

-- Not left alone, it has other times left: a refresh, after a second, has 60 of them left again.
refresh_restarts : (sent (unit_at 1000 (session tester 59000 0 ∷ [])) activate60).state ≡ unit_at 1000 (session tester 60000 0 ∷ [])
unfolding computed
refresh_restarts = refl
