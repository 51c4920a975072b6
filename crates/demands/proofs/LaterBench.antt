-- Demand 3 on the bench: B1 is a request such as it speaks of, and the C entries answer B2 as they answer B1.
use mathlib.Core.Path.{◌≡◌, refl}
use mathlib.Core.Bool.{true}
use mathlib.Core.List.{List, [], ◌∷◌}
use Prim.Native.Nat.{ℕ, ◌*◌, ◌^◌, ◌≤◌}
use native.Mathlib.Omega.{arith}
use Rattle.octets.specs.Lists.{every}
use Rattle.codec.specs.declared.FrameSet.{FrameSet}
use Rattle.codec.specs.FrameSet.{cen, c_tagged, set_of}
use Rattle.plan.proofs.Examples.{bench_plan}
use Rattle.state.specs.Image.{state_of, ok_image}
use Rattle.calls.specs.Calls.{frame}
use Rattle.calls.specs.Bench.{room}
use Rattle.demands.specs.World.{World}
use Rattle.demands.specs.Runs.{Seen, EntriesRun}
use Rattle.demands.specs.Shown.{world_of}
use Rattle.demands.specs.LaterRuns.{Asks, Became, rewritten, Rewritten, ended as run-ended, later, AllMatch}
use Rattle.demands.proofs.TypedCalls.{each_small}
use Rattle.demands.proofs.DemandThree.{demand_three}
use Rattle.demands.proofs.BenchLater.{b1, b2, timer, unknown9, computed, b2_later}

abbrev pub became : Became
became = rewritten 4 (timer ∷ []) (unknown9 ∷ timer ∷ [])

abbrev pub set20 : FrameSet
set20 = set_of c_tagged 20

-- ---- B1 is such a request, in every world with the bench's plan

module _ (w : World) (p : w.plan ≡ bench_plan) where
  b1_asks : Asks w 1 cen set20 4 b1
  unfolding computed
  b1_asks = record { placed = rw p; in_plan_is = rw p; for_mp_is = rw p; long = omega arith; type_known = refl; well_formed = rw p }

  -- so the run of B1 alone is rewritten to that of B2
  b2_run : (keys : ℕ) → Rewritten keys w (frame 1 cen b1 room ∷ []) (frame 1 cen b2 room ∷ []) (became ∷ [])
  unfolding computed b2_later
  b2_run keys = later b1_asks b2_later refl run-ended

-- ---- and the C entries answer them alike, on every image of a unit with that plan, whoever has sessions

pub bench_three : (keys : ℕ) → 33 * 2 ^ 48 ≤ keys → {l : List ℕ} {xs ys : List Seen} {ls ks : List (List ℕ)} → ok_image l ≡ true
    → (state_of l).plan ≡ bench_plan
    → EntriesRun l (frame 1 cen b1 room ∷ []) xs ls
    → EntriesRun l (frame 1 cen b2 room ∷ []) ys ks
    → AllMatch (frame 1 cen b1 room ∷ []) (became ∷ []) xs ys × (ks ≡ ls)
unfolding computed every world_of
bench_three keys big {l = l} ok p =
    demand_three keys big ok (b2_run (world_of (state_of l)) p keys) (each_small b1 refl, tt) (each_small b2 refl, tt)
