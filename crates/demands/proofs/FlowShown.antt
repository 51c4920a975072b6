-- A change of one flow's flag and sessions, in the state, is a change of that flow's machines, whatever the source, in the world
-- that the state shows.
use mathlib.Core.Path.{◌≡◌, refl, sym, ap, ◌∙◌}
use mathlib.Core.Bool.{Bool, true, false, cond, ◌&&◌, true≢false}
use mathlib.Core.List.{List}
use Prim.Native.Nat.{ℕ, ◌-◌, ◌<◌, ◌≤◌, ◌^◌}
use native.Mathlib.Omega.{arith}
use lib.Dec.{eqb}
use lib.Seq.{get_or-set_other, get_or-set_same}
use borrow.Author.Tests.{eqb-true, leb-true}
use Rattle.octets.proofs.Same.{both_true}
use Rattle.codec.specs.declared.FrameSet.{FrameSet}
use Rattle.machine.specs.declared.Session.{Session}
use Rattle.plan.specs.declared.Flow.{Flow}
use Rattle.plan.specs.Plan.{flow_numbered, flow_of_set, in_plan, good_flow}
use Rattle.plan.proofs.Kept.{Kept, good_flow_lem, rules}
use Rattle.state.specs.State.{State, is_allowed, valid}
use Rattle.octets.proofs.ListLaws.{within_high}
use Rattle.plan.proofs.Found.{flow_found, flow_passes}
use Rattle.state.proofs.Rules.{valid_parts}
use Rattle.calls.proofs.Flags.{flagged, some_flow}
use Rattle.demands.specs.Machine.{Machine, nothing, prohibited}
use Rattle.demands.specs.World.{World, same_set, of_flow}
use Rattle.demands.specs.Shown.{machine_on, machine_at}
use Rattle.demands.proofs.Shows.{SmallSet, Shows}
use Rattle.demands.proofs.Flows.{flow_set, set_small, numbered_again}
use Rattle.demands.proofs.SetsApart.{same_set_lem, sets_apart}

module _ (s : State) (w : World) (flow : ℕ) (ok : valid s ≡ true) (shows : Shows s w)
    (there : in_plan (flow_numbered flow s.plan).number ≡ true) where
  abbrev f : Flow
  f = flow_numbered flow s.plan

  number : f.number ≡ flow
  number = flow_found s.plan flow there

  -- ---- its flag

  flow_high : flow ≤ 32
  flow_high =
      let r : Kept s.plan = rules s.plan (valid_parts s ok).plan_kept in
      let g : _ = good_flow_lem s.plan f (flow_passes s.plan (good_flow s.plan) flow r.flows_good there) in
      rw number at (within_high 1 32 f.number g.number_fits)

  pub flag_own : (b : Bool) (xs : List Session) → is_allowed flow (flagged s flow b xs) ≡ b
  unfolding is_allowed
  flag_own b xs =
      let low : 1 ≤ flow = some_flow s flow ok there in
      get_or-set_same s.allowed (flow - 1) b false (omega (arith, low, flow_high, (valid_parts s ok).allowed_length))

  pub flag_beside : (b : Bool) (xs : List Session) (n : ℕ) → in_plan n ≡ true → (n ≡ flow → ⊥)
      → is_allowed n (flagged s flow b xs) ≡ is_allowed n s
  unfolding is_allowed in_plan
  flag_beside b xs n here other =
      let low : 1 ≤ flow = some_flow s flow ok there in
      let some : 1 ≤ n = leb-true 1 n here in
      get_or-set_other s.allowed (flow - 1) (n - 1) b false (λ e. other (omega (arith, low, some)))

  -- ---- its machines

  again : flow_of_set f.port (flow_set f) s.plan ≡ f
  again = numbered_again s.plan (valid_parts s ok).plan_kept flow there

  -- is this port and set the flow's?
  abbrev mine : ℕ → FrameSet → Bool
  mine p q = eqb p f.port && same_set q (flow_set f)

  own_number : (p : ℕ) (q : FrameSet) → mine p q ≡ true → (flow_of_set p q s.plan).number ≡ flow
  own_number p q e =
      let t : _ = both_true (eqb p f.port) (same_set q (flow_set f)) e in
      rw (eqb-true p f.port t.0, same_set_lem q (flow_set f) t.1, again) number

  other_number : (p : ℕ) (q : FrameSet) → SmallSet q → mine p q ≡ false → (flow_of_set p q s.plan).number ≡ flow → ⊥
  other_number p q small e same =
      true≢false
      (sym (sets_apart s.plan (valid_parts s ok).plan_kept p f.port q (flow_set f) small
      (set_small s.plan (valid_parts s ok).plan_kept flow there) (rw again there)
      (same ∙ sym number ∙ ap (λ (g : Flow). g.number) (sym again)))
      ∙ e)

  -- `change` is what happens to the flow's machines; those of other flows stay
  module _ (b : Bool) (xs : List Session) (change : Machine → Machine)
      (own : (source : ℕ) → source < 2 ^ 48 → machine_on (flagged s flow b xs) flow source ≡ change (machine_on s flow source))
      (beside : (n source : ℕ) → source < 2 ^ 48 → in_plan n ≡ true → (n ≡ flow → ⊥)
      → machine_on (flagged s flow b xs) n source ≡ machine_on s n source) where
    flow_at_lem : (p : ℕ) (q : FrameSet) (source : ℕ) → SmallSet q → source < 2 ^ 48
        → cond (mine p q) (change (machine_at s p q source)) (machine_at s p q source)
        ≡ machine_at (flagged s flow b xs) p q source
    unfolding machine_at
    flow_at_lem p q source set_small small = go (mine p q) refl (in_plan n) refl
      where
        n : ℕ
        n = (flow_of_set p q s.plan).number

        go : (x : Bool) → mine p q ≡ x → (y : Bool) → in_plan n ≡ y
            → cond x (change (cond y (machine_on s n source) (prohibited nothing)))
            (cond y (machine_on s n source) (prohibited nothing))
            ≡ cond y (machine_on (flagged s flow b xs) n source) (prohibited nothing)
        go true e true h = rw (own_number p q e) (sym (own source small))
        go true e false h = absurd (true≢false (sym (rw (own_number p q e) (rw number at there)) ∙ h))
        go false e true h = sym (beside n source small h (other_number p q set_small e))
        go false e false h = refl

    pub flow_shown : Shows (flagged s flow b xs) (of_flow (flow_numbered flow w.plan) change w)
    unfolding of_flow
    flow_shown =
        record {
          plan_same = shows.plan_same;
          clock_same = shows.clock_same;
          machines =
              λ p q source set_small small.
              rw (shows.plan_same, shows.machines p q source set_small small) (flow_at_lem p q source set_small small);
        }
