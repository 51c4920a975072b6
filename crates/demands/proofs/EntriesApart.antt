-- Down to the octets: on a valid image a frame call of the C entries changes no machine but the frame's own, and is answered by that
-- one alone and by whether the unit is full for its flow.
use mathlib.Core.Path.{◌≡◌, sym, ◌∙◌}
use mathlib.Core.Bool.{true, false}
use mathlib.Core.List.{List, ◌∷◌}
use Prim.Native.Nat.{ℕ, ◌*◌, ◌≤◌, ◌<◌, ◌^◌}
use Rattle.codec.specs.declared.FrameSet.{FrameSet}
use Rattle.codec.specs.FrameSet.{only, source}
use Rattle.codec.proofs.FrameParts.{source_fits}
use Rattle.state.specs.Image.{ok_image}
use Rattle.calls.specs.Calls.{Call, frame}
use Rattle.demands.specs.Calls.{refusal, call}
use Rattle.demands.specs.Runs.{Seen, seen, EntriesRun, Typed}
use Rattle.demands.specs.Data.{sets_at, is_own, in_set, AsFull}
use Rattle.demands.specs.Elapsed.{asks}
use Rattle.demands.proofs.Shows.{SmallSet}
use Rattle.demands.proofs.EntryShown.{EntryShown}
use Rattle.demands.proofs.ImageShown.{world_in, machine_shown, small_set, first_shown}
use Rattle.demands.proofs.Apart.{others_alone, failed_alone}
use Rattle.demands.proofs.OwnDecides.{own_decides}

module _ (keys : ℕ) (big : 33 * 2 ^ 48 ≤ keys) (port side : ℕ) (f out : List ℕ) (typed : Typed (frame port side f out)) where
  module _ {l left : List ℕ} {cs : List Call} {x : Seen} {xs : List Seen} {ls : List (List ℕ)}
      (run : EntriesRun l (frame port side f out ∷ cs) (x ∷ xs) (left ∷ ls)) (ok : ok_image l ≡ true) where
    shown : EntryShown keys big (world_in l) (frame port side f out) x left
    shown = first_shown keys big run ok typed

    module _ (p : ℕ) (s : FrameSet) (y : ℕ) (small : SmallSet s) (low : y < 2 ^ 48) where
      after_is : (world_in left).machine p s y ≡ (call keys (world_in l) (frame port side f out)).world.machine p s y
      after_is = machine_shown left _ shown.shows p s y small low

      pub entries_others_alone : is_own (world_in l) port f p s y ≡ false → (world_in left).machine p s y ≡ (world_in l).machine p s y
      entries_others_alone e = after_is ∙ others_alone keys (world_in l) port side f out p s y e

      pub entries_failed_alone : asks keys (world_in l) port side f (sets_at (world_in l) port f) ≡ false
          → (world_in left).machine p s y ≡ (world_in l).machine p s y
      entries_failed_alone e = after_is ∙ failed_alone keys (world_in l) port side f out p s y e

  -- two runs that start with the frame
  pub entries_own_decides : {k l left-k left-l : List ℕ} {bs cs : List Call} {x y : Seen} {xs ys : List Seen} {ks ls : List (List ℕ)}
      → EntriesRun k (frame port side f out ∷ bs) (x ∷ xs) (left-k ∷ ks)
      → EntriesRun l (frame port side f out ∷ cs) (y ∷ ys) (left-l ∷ ls)
      → ok_image k ≡ true
      → ok_image l ≡ true
      → (set : FrameSet) (taglen : ℕ)
      → refusal keys (world_in k) (frame port side f out) ≡ 0
      → refusal keys (world_in l) (frame port side f out) ≡ 0
      → sets_at (world_in l) port f ≡ only set taglen
      → in_set (world_in l) port (only set taglen) ≡ true
      → (world_in k).plan ≡ (world_in l).plan
      → (world_in k).machine port set (source f) ≡ (world_in l).machine port set (source f)
      → AsFull keys (world_in l) port side set taglen f (world_in k)
      → (x ≡ y) × ((world_in left-k).machine port set (source f) ≡ (world_in left-l).machine port set (source f))
  unfolding seen
  entries_own_decides {k = k} {l = l} run-k run-l ok-k ok-l set taglen sk sl placed planned plans machines full =
      let a : _ = own_decides keys (world_in l) port side set taglen f out (world_in k) sk sl placed planned plans machines full in
      let small : SmallSet set = small_set (world_in l) port f set taglen placed in
      let low : source f < 2 ^ 48 = source_fits f typed in
      let seen_same : seen (frame port side f out) (call keys (world_in k) (frame port side f out))
      ≡ seen (frame port side f out) (call keys (world_in l) (frame port side f out))
      = rw (a.answer_same, a.octets_same) in (
        (shown run-k ok-k).told ∙ seen_same ∙ sym (shown run-l ok-l).told,
        after_is run-k ok-k port set (source f) small low ∙ a.own_same ∙ sym (after_is run-l ok-l port set (source f) small low),
      )
