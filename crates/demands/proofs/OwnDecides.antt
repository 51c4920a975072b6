-- A frame's answer depends on its own machine alone, and on whether the unit is full for its flow.
use mathlib.Core.Path.{◌≡◌, refl, subst, ◌∙◌}
use mathlib.Core.Bool.{true, false, ◌&&◌, false≢true}
use mathlib.Core.List.{List}
use Prim.Native.Nat.{ℕ}
use lib.Dec.{eqb}
use Rattle.octets.proofs.ListLaws.{eqb_turn}
use Rattle.codec.specs.declared.FrameSet.{FrameSet}
use Rattle.codec.specs.FrameSet.{only, source}
use Rattle.calls.specs.Frame.{Arrived, arrived_at, for_mp}
use Rattle.calls.specs.Calls.{frame}
use Rattle.demands.specs.Machine.{Machine}
use Rattle.demands.specs.World.{World, same_set, become}
use Rattle.demands.specs.Frame.{own, by_whom, is_for, arrived}
use Rattle.demands.specs.Calls.{refusal, call}
use Rattle.demands.specs.Data.{sets_at, is_of, is_own, in_set, IsData, AsFull, AnsweredAlike}
use Rattle.demands.proofs.Served.{port_is, set_is}
use Rattle.demands.proofs.ServedAlike.{whom_both}

module _ (keys : ℕ) (w : World) (port side : ℕ) (set : FrameSet) (taglen : ℕ) (f out : List ℕ) where
  -- Two worlds that have the same plan and a frame's own machine the same, and are as full for its flow, answer it alike, whatever
  -- their other machines are.
  pub own_decides : (u : World) → refusal keys u (frame port side f out) ≡ 0 → refusal keys w (frame port side f out) ≡ 0
      → sets_at w port f ≡ only set taglen
      → in_set w port (only set taglen) ≡ true
      → u.plan ≡ w.plan
      → u.machine port set (source f) ≡ w.machine port set (source f)
      → AsFull keys w port side set taglen f u
      → AnsweredAlike port set (source f) (call keys u (frame port side f out)) (call keys w (frame port side f out))
  unfolding sets_at in_set arrived arrived_at own
  own_decides u su sw placed planned plans machines full =
      let tw : eqb (refusal keys w (frame port side f out)) 0 ≡ true = rw sw in
      let n : _ = port_is keys w port side f out tw in
      let a : Arrived = arrived w port side set taglen f in
      let m : own u set a ≡ own w set a = rw n machines in
      let alike : _ = whom_both set a keys u w m (for_mp a) (λ h. rw n (full h)) in
      let of_u : call keys u (frame port side f out) ≡ by_whom keys u set a (for_mp a)
      = set_is keys u port side f out set taglen (rw su) (rw plans placed) (rw plans planned) ∙ rw plans in
      rw (of_u, set_is keys w port side f out set taglen tw placed planned)
      (subst (λ p. AnsweredAlike p set (source f) (by_whom keys u set a (for_mp a)) (by_whom keys w set a (for_mp a))) n alike)

  -- Data is for no MP.
  pub data_as_full : IsData w port side set taglen f → (u : World) → AsFull keys w port side set taglen f u
  unfolding is_for
  data_as_full d u h = absurd (false≢true (rw d.for_no_mp at h))

  -- A data frame: they need not be as full.
  pub data_decides : (u : World) → refusal keys u (frame port side f out) ≡ 0 → refusal keys w (frame port side f out) ≡ 0
      → IsData w port side set taglen f
      → u.plan ≡ w.plan
      → u.machine port set (source f) ≡ w.machine port set (source f)
      → AnsweredAlike port set (source f) (call keys u (frame port side f out)) (call keys w (frame port side f out))
  data_decides u su sw d plans machines = own_decides u su sw d.placed d.planned plans machines (data_as_full d u)

  -- So another machine matters to a frame only by owing a notice, which refuses it, and to a request by making the unit full: where
  -- neither changes, whatever that machine becomes, the frame is answered as before.
  pub not_by_another : (p : ℕ) (s : FrameSet) (x : ℕ) (m : Machine)
      → refusal keys (become p s x m w) (frame port side f out) ≡ 0
      → refusal keys w (frame port side f out) ≡ 0
      → sets_at w port f ≡ only set taglen
      → in_set w port (only set taglen) ≡ true
      → is_own w port f p s x ≡ false
      → AsFull keys w port side set taglen f (become p s x m w)
      → AnsweredAlike port set (source f) (call keys (become p s x m w) (frame port side f out)) (call keys w (frame port side f out))
  unfolding become is_own is_of same_set
  not_by_another p s x m su sw placed planned other full =
      let apart : (eqb p port && (eqb s.kind set.kind && eqb s.vid set.vid && eqb x (source f))) ≡ false
      = rw placed at other in
      own_decides (become p s x m w) su sw placed planned refl
      (rw (eqb_turn port p, eqb_turn set.kind s.kind, eqb_turn set.vid s.vid, eqb_turn (source f) x, apart))
      full
