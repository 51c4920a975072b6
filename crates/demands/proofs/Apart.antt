-- One machine and another: a frame changes none but its own, and that one only by a request that is carried out.
use mathlib.Core.Path.{◌≡◌, refl, sym, ◌∙◌}
use mathlib.Core.Bool.{Bool, true, false, ◌&&◌, true≢false}
use mathlib.Core.List.{List}
use Prim.Native.Nat.{ℕ}
use lib.Dec.{eqb}
use Rattle.codec.specs.declared.FrameSet.{FrameSet}
use Rattle.codec.specs.FrameSet.{source}
use Rattle.calls.specs.Frame.{Arrived, arrived_at, for_mp}
use Rattle.calls.specs.Calls.{frame}
use Rattle.demands.specs.Machine.{Machine}
use Rattle.demands.specs.World.{World, same_set, become}
use Rattle.demands.specs.Frame.{own, arrived}
use Rattle.demands.specs.Calls.{call}
use Rattle.demands.specs.Data.{sets_at, is_of, is_own}
use Rattle.demands.specs.Elapsed.{asks_change, asks}
use Rattle.state.proofs.OwedRow.{by_test}
use Rattle.demands.proofs.SetsApart.{same_told}
use Rattle.demands.proofs.FrameWorlds.{own_becomes}
use Rattle.demands.proofs.Served.{frame_world}

module _ (keys : ℕ) (w : World) (port side : ℕ) (f out : List ℕ) (p : ℕ) (s : FrameSet) (x : ℕ) where
  abbrev Kept : World → Type 0
  Kept u = u.machine p s x ≡ w.machine p s x

  -- is it the frame's?
  abbrev mine : FrameSet → Arrived → Bool
  mine set a = eqb p a.port.number && (same_set s set && eqb x (source a.frame))

  kept_beside : (set : FrameSet) (a : Arrived) (m : Machine) → mine set a ≡ false → Kept (own_becomes w set a m)
  unfolding become
  kept_beside set a m e = rw e

  kept_own : (set : FrameSet) (a : Arrived) → Kept (own_becomes w set a (own w set a))
  unfolding become own
  kept_own set a =
      by_test (mine set a)
      (λ t. rw t (sym (same_told w.machine p a.port.number s set x (source a.frame) t)))
      (λ t. rw t)

  left_false : (b : Bool) {c : Bool} → c ≡ true → (b && c) ≡ false → b ≡ false
  left_false true t h = absurd (true≢false (sym t ∙ h))
  left_false false t h = refl

  pub frame_keeps : (is_own w port f p s x && asks keys w port side f (sets_at w port f)) ≡ false
      → Kept (call keys w (frame port side f out)).world
  unfolding is_own is_of asks arrived arrived_at
  frame_keeps e =
      frame_world keys w port side f out Kept refl
      (λ set taglen placed n.
      let a : Arrived = arrived w port side set taglen f in
      let other : asks_change keys w set a (for_mp a) ≡ true → mine set a ≡ false
      = λ c. rw n (left_false (eqb p port && (same_set s set && eqb x (source f))) c (rw placed at e)) in
      record {
        asked = kept_own set a;
        activates = λ c seconds. kept_beside set a _ (other c);
        deactivates = λ c. kept_beside set a _ (other c);
      })

  -- B12, for all: a frame call changes no machine but that of its own port, set and source.
  pub others_alone : is_own w port f p s x ≡ false → (call keys w (frame port side f out)).world.machine p s x ≡ w.machine p s x
  others_alone e = frame_keeps (rw e)

  -- And where it asks for no change, or for one that is not carried out, that one neither.
  pub failed_alone : asks keys w port side f (sets_at w port f) ≡ false
      → (call keys w (frame port side f out)).world.machine p s x ≡ w.machine p s x
  failed_alone e = frame_keeps (rw e (neither_way (is_own w port f p s x)))
    where
      neither_way : (b : Bool) → (b && false) ≡ false
      neither_way true = refl
      neither_way false = refl
