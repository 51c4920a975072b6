-- A data frame: the world's fate is the one that the table's entry gives.
use mathlib.Core.Path.{◌≡◌, refl, sym, subst}
use mathlib.Core.Bool.{Bool, true, false, cond}
use Prim.Native.Nat.{ℕ}
use lib.Dec.{eqb}
use Rattle.codec.specs.declared.FrameSet.{FrameSet}
use Rattle.codec.specs.FrameSet.{external, soam}
use Rattle.codec.specs.Request.{level_of}
use Rattle.machine.specs.declared.Session.{Session}
use Rattle.machine.specs.declared.Machine.{Machine}
use Rattle.machine.specs.declared.Machine.TheVariants.{Inactive, Active}
use Rattle.machine.specs.declared.Fate.{Fate}
use Rattle.machine.specs.declared.Fate.TheVariants.{Forward, Drop, Loop}
use Rattle.machine.specs.Table.{Event, ingress_data, egress_data, action_of}
use Rattle.machine.specs.Machine.{activity, condition_of, passes, turned, fate_of, data_event}
use Rattle.state.specs.State.{State, is_allowed, notice_due, valid}
use Rattle.calls.specs.Frame.{Arrived, pdu, own, own_action, by_fate, data_served}
use Rattle.demands.specs.Machine.{fate}
use Rattle.demands.specs.World.{World}
use Rattle.demands.specs.Frame.{own as ownIn, by_fate as byFateIn, data_served as dataServedIn}
use Rattle.demands.specs.Shown.{resting}
use Rattle.demands.proofs.Shows.{Shows, Alike, leaves_alike, sends_alike}
use Rattle.demands.proofs.MachineShown.{shown}
use Rattle.demands.proofs.OwnShown.{OfFlow, own_shown, active_may}

-- data from either side has one row of entries
either_side : (P : Event → Type 0) (side : ℕ) → P ingress_data → P egress_data → P (data_event side)
unfolding data_event
either_side P side i e = go (eqb side external)
  where
    go : (b : Bool) → P (cond b ingress_data egress_data)
    go true = i
    go false = e

fate_same : (may : Bool) (m : Machine) (oam : Bool) (level side : ℕ) → ((x : Session) → m ≡ Active x → may ≡ true)
    → fate oam level side (shown may m) ≡ fate_of (action_of (condition_of may m) (data_event side)) oam level side m
unfolding fate resting fate_of action_of condition_of activity turned passes
fate_same true Inactive oam level side live =
    either_side (λ e. Forward ≡ fate_of (action_of (condition_of true Inactive) e) oam level side Inactive) side refl refl
fate_same false Inactive oam level side live =
    either_side (λ e. Forward ≡ fate_of (action_of (condition_of false Inactive) e) oam level side Inactive) side refl refl
fate_same may (Active x) oam level side live =
    rw (live x refl)
    (either_side
    (λ e. fate oam level side (shown true (Active x)) ≡ fate_of (action_of (condition_of true (Active x)) e) oam level side (Active x))
    side refl refl)

module _ (s : State) (w : World) (k : Shows s w) where
  fate_alike : (a : Arrived) (f : Fate) → Alike (by_fate s a f) (byFateIn w a f)
  unfolding by_fate byFateIn
  fate_alike a Forward = leaves_alike s w k _
  fate_alike a Drop = leaves_alike s w k _
  fate_alike a Loop = sends_alike s w k _ _

  pub data_alike : (set : FrameSet) (a : Arrived) → OfFlow s.plan set a → valid s ≡ true → notice_due s ≡ false
      → Alike (data_served s a) (dataServedIn w set a)
  unfolding data_served dataServedIn own_action
  data_alike set a f h settled =
      let oam : Bool = soam a.taglen a.frame in
      let may : Bool = is_allowed a.flow.number s in
      let same : fate oam (level_of (pdu a)) a.side (ownIn w set a)
      ≡ fate_of (action_of (condition_of may (own s a)) (data_event a.side)) oam (level_of (pdu a)) a.side (own s a)
      = rw (own_shown s set a f settled w k) (fate_same may (own s a) oam (level_of (pdu a)) a.side (active_may s set a f h)) in
      subst (λ (g : Fate). Alike (data_served s a) (byFateIn w a g)) (sym same) (fate_alike a _)
