-- Seconds left come from accepted readings: over any calls that leave a machine alone, its time left is what it was less what
-- elapsed.
use mathlib.Core.Path.{◌≡◌, ◌∙◌}
use mathlib.Core.Bool.{true, ◌||◌, not}
use mathlib.Core.List.{List, [], ◌∷◌, ◌++◌}
use Prim.Native.Nat.{ℕ, ◌+◌, ◌-◌, ◌/◌, ◌<◌, ◌≤◌}
use native.Mathlib.Omega.{arith}
use lib.Dec.{eqb}
use borrow.Author.Tests.{le-leb}
use Rattle.std.specs.Prelude.{Some}
use Rattle.octets.proofs.Same.{both_true}
use Rattle.codec.specs.declared.FrameSet.{FrameSet}
use Rattle.machine.specs.Time.{elapsed}
use Rattle.calls.specs.Calls.{Call, tick}
use Rattle.demands.specs.Machine.{notice, inactive, active, status_of, ticked}
use Rattle.demands.specs.World.{World, all}
use Rattle.demands.specs.Frame.{leaves}
use Rattle.demands.specs.Calls.{refusal, served, call}
use Rattle.demands.specs.Runs.{world_after}
use Rattle.demands.specs.Elapsed.{elapsed_by, elapsed_over, spares, is_left_alone}
use Rattle.demands.proofs.LastCall.{after_last}
use Rattle.demands.proofs.Served.{served_is}
use Rattle.demands.proofs.Spared.{call_counts}

module _ (keys : ℕ) where
  elapsed_last : (w : World) (cs : List Call) (c : Call)
      → elapsed_over keys w (cs ++ (c ∷ [])) ≡ elapsed_over keys w cs + elapsed_by keys (world_after keys w cs) c
  unfolding world_after elapsed_over
  elapsed_last w [] c = omega arith
  elapsed_last w (d ∷ cs) c = rw (elapsed_last (call keys w d).world cs c) (omega arith)

module _ (keys : ℕ) (p : ℕ) (s : FrameSet) (x : ℕ) where
  -- Left alone, an active machine has so much less left as elapsed, while that is less than it had.
  pub time_left : (w : World) (cs : List Call) (level side left : ℕ) (tag : List ℕ) → w.machine p s x ≡ active level side left tag
      → is_left_alone keys p s x w cs ≡ true
      → elapsed_over keys w cs < left
      → (world_after keys w cs).machine p s x ≡ active level side (left - elapsed_over keys w cs) tag
  unfolding world_after elapsed_over is_left_alone
  time_left w [] level side left tag m a low = let all_left : left - 0 ≡ left = omega arith in rw all_left m
  time_left w (c ∷ cs) level side left tag m a low =
      let u : World = (call keys w c).world in
      let e : ℕ = elapsed_by keys w c in
      let b : _ = both_true (not (eqb (refusal keys w c) 0) || spares keys p s x w c) (is_left_alone keys p s x u cs) a in
      let first : u.machine p s x ≡ active level side (left - e) tag
      = call_counts keys p s x w level side left tag m c b.0 (omega (arith, low)) in
      let rest : _ = time_left u cs level side (left - e) tag first b.1 (omega (arith, low)) in
      let sum : left - e - elapsed_over keys u cs ≡ left - (e + elapsed_over keys u cs) = omega arith in
      rw (← sum) rest

  module _ (w : World) (cs : List Call) {level side left : ℕ} {tag : List ℕ} (m : w.machine p s x ≡ active level side left tag)
      (a : is_left_alone keys p s x w cs ≡ true) (low : elapsed_over keys w cs < left) where
    -- So it is reported: rounded up.
    pub seconds_left_lem : status_of ((world_after keys w cs).machine p s x)
        ≡ record { side = Some side; seconds = (left - elapsed_over keys w cs + 999) / 1000 }
    unfolding status_of
    seconds_left_lem = rw (time_left w cs level side left tag m a low)

    -- And at the first accepted tick where what elapsed reaches it, it closes and owes a code 8 notice.
    pub expires : (clock : ℕ) → refusal keys (world_after keys w cs) (tick clock) ≡ 0
        → left ≤ elapsed_over keys w (cs ++ (tick clock ∷ []))
        → (world_after keys w (cs ++ (tick clock ∷ []))).machine p s x ≡ inactive (notice 8 level side tag)
    unfolding served all leaves ticked elapsed_by
    expires clock free over =
        let u : World = world_after keys w cs in
        let t : eqb (refusal keys u (tick clock)) 0 ≡ true = rw free in
        let sum : elapsed_over keys w (cs ++ (tick clock ∷ [])) ≡ elapsed_over keys w cs + elapsed clock u.clock
        = elapsed_last keys w cs (tick clock) ∙ rw t in
        let late : left - elapsed_over keys w cs ≤ elapsed clock u.clock = omega (arith, sum, over) in
        rw (
          after_last keys w cs (tick clock),
          served_is keys u (tick clock) t,
          time_left w cs level side left tag m a low,
          le-leb (left - elapsed_over keys w cs) (elapsed clock u.clock) late,
        )
