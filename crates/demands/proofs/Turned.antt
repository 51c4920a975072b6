-- A frame is turned round exactly when its own machine is active and has its side.
use mathlib.Core.Path.{◌≡◌, refl, sym, ◌∙◌}
use mathlib.Core.Bool.{Bool, true, false, cond, ◌&&◌, not, false≢true}
use mathlib.Core.List.{List}
use Prim.Native.Nat.{ℕ}
use lib.Dec.{eqb, leb}
use borrow.Author.Tests.{eqb-true, not-true}
use Rattle.octets.proofs.Same.{both_true}
use Rattle.codec.specs.declared.FrameSet.{FrameSet}
use Rattle.codec.specs.declared.Addressed.{Addressed}
use Rattle.codec.specs.declared.Addressed.TheVariants.{Elsewhere, Unicast, Multicast}
use Rattle.codec.specs.FrameSet.{only, source, soam, pdu_of}
use Rattle.codec.specs.Request.{level_of}
use Rattle.machine.specs.declared.Fate.TheVariants.{Forward, Drop, Loop}
use Rattle.plan.specs.Plan.{port_numbered}
use Rattle.calls.specs.Frame.{Arrived, arrived_at, pdu, for_mp}
use Rattle.calls.specs.Calls.{frame}
use Rattle.demands.specs.Machine.{Machine, prohibited, inactive, active, fate}
use Rattle.demands.specs.World.{World}
use Rattle.demands.specs.Frame.{leaves, sends, own, by_fate, data_served}
use Rattle.demands.specs.Calls.{refusal, call}
use Rattle.demands.specs.Frame.{is_for, arrived}
use Rattle.demands.specs.Data.{sets_at, in_set, IsData, facing, exempt, Turned, is_looped}
use Rattle.state.proofs.OwedRow.{by_test}
use Rattle.demands.proofs.Served.{port_is, by_sets, set_is, data_is}
use Rattle.demands.proofs.NotTurned.{whom_not, refused_not, never_turned}

-- what a machine decides of data
fate_turns : (w : World) (a : Arrived) (m : Machine)
    → is_looped (by_fate w a (fate (soam a.taglen a.frame) (level_of (pdu a)) a.side m)).answer
    ≡ (facing a.side m && not (exempt a.taglen a.frame m))
unfolding by_fate fate leaves sends is_looped facing exempt pdu
fate_turns w a (prohibited owed) = refl
fate_turns w a (inactive owed) = refl
fate_turns w a (active level side left tag) =
    go (soam a.taglen a.frame && leb (level_of (pdu_of a.taglen a.frame)) level) (eqb a.side side)
  where
    go : (oam same : Bool)
        → is_looped (by_fate w a (cond oam Forward (cond same Loop Drop))).answer ≡ (same && not oam)
    go true true = refl
    go true false = refl
    go false true = refl
    go false false = refl

module _ (keys : ℕ) (w : World) (port side : ℕ) (f out : List ℕ) where
  data_turns : {set : FrameSet} {taglen : ℕ} → eqb (refusal keys w (frame port side f out)) 0 ≡ true → IsData w port side set taglen f
      → is_looped (call keys w (frame port side f out)).answer
      ≡ (facing side (w.machine port set (source f)) && not (exempt taglen f (w.machine port set (source f))))
  unfolding data_served own arrived arrived_at
  data_turns {set = set} {taglen = taglen} t d =
      let n : (port_numbered port w.plan).number ≡ port = port_is keys w port side f out t in
      rw (data_is keys w port side f out t d)
      (fate_turns w (arrived w port side set taglen f) (own w set (arrived w port side set taglen f)) ∙ rw n)

  -- A data frame that is not refused, and is no service OAM of the session's level or below, is turned round exactly when its own
  -- machine is active and has its side.
  pub turned_round : {set : FrameSet} {taglen : ℕ} → refusal keys w (frame port side f out) ≡ 0 → IsData w port side set taglen f
      → exempt taglen f (w.machine port set (source f)) ≡ false
      → is_looped (call keys w (frame port side f out)).answer ≡ facing side (w.machine port set (source f))
  turned_round {set = set} {taglen = taglen} s d e =
      rw (data_turns (rw s) d, e) (and_true (facing side (w.machine port set (source f))))
    where
      and_true : (b : Bool) → (b && true) ≡ b
      and_true true = refl
      and_true false = refl

  -- a request for an MP is not
  asked : (set : FrameSet) (taglen : ℕ) (whom : Addressed) → eqb (refusal keys w (frame port side f out)) 0 ≡ true
      → sets_at w port f ≡ only set taglen → in_set w port (only set taglen) ≡ true
      → is_for whom ≡ true → for_mp (arrived w port side set taglen f) ≡ whom
      → is_looped (call keys w (frame port side f out)).answer ≡ false
  asked set taglen whom t placed planned for e =
      rw (set_is keys w port side f out set taglen t placed planned, e)
      (whom_not keys w set (arrived w port side set taglen f) whom for)

  -- ---- what is turned round

  module _ (h : is_looped (call keys w (frame port side f out)).answer ≡ true)
      (t : eqb (refusal keys w (frame port side f out)) 0 ≡ true) where
    by_whom_lem : (set : FrameSet) (taglen : ℕ) → sets_at w port f ≡ only set taglen → in_set w port (only set taglen) ≡ true
        → (whom : Addressed) → for_mp (arrived w port side set taglen f) ≡ whom → Turned w port side f
    unfolding is_for
    by_whom_lem set taglen placed planned Elsewhere e =
        let d : IsData w port side set taglen f = record { placed = placed; planned = planned; for_no_mp = e } in
        let m : Machine = w.machine port set (source f) in
        let both : _ = both_true (facing side m) (not (exempt taglen f m)) (sym (data_turns t d) ∙ h) in
        record { set = set; taglen = taglen; is_data = d; faces = both.0; not_exempt = not-true (exempt taglen f m) both.1 }
    by_whom_lem set taglen placed planned Unicast e = absurd (false≢true (sym (asked set taglen Unicast t placed planned refl e) ∙ h))
    by_whom_lem set taglen placed planned Multicast e = absurd (false≢true (sym (asked set taglen Multicast t placed planned refl e) ∙ h))

    is_turned : Turned w port side f
    unfolding in_set
    is_turned =
        by_sets keys w port side f out t
        (λ e. absurd (false≢true (sym (never_turned keys w port side f out (rw e)) ∙ h)))
        (λ set taglen e.
        by_test (in_set w port (only set taglen))
        (λ there. by_whom_lem set taglen e there (for_mp (arrived w port side set taglen f)) refl)
        (λ gone. absurd (false≢true (sym (never_turned keys w port side f out (rw e gone)) ∙ h))))

  -- Whatever is turned round is such a frame.
  pub turned_only : is_looped (call keys w (frame port side f out)).answer ≡ true
      → (refusal keys w (frame port side f out) ≡ 0) × Turned w port side f
  turned_only h =
      by_test (eqb (refusal keys w (frame port side f out)) 0)
      (λ t. (eqb-true (refusal keys w (frame port side f out)) 0 t, is_turned h t))
      (λ t. absurd (false≢true (sym (refused_not keys w port side f out t) ∙ h)))
