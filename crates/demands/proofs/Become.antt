-- A change of the session of one key, in the state, is a change of one machine, in the world that the state shows.
use mathlib.Core.Path.{◌≡◌, refl, sym, ◌∙◌}
use mathlib.Core.Bool.{Bool, true, false, cond, ◌&&◌, false≢true}
use mathlib.Core.List.{List}
use Prim.Native.Nat.{ℕ, ◌^◌, ◌<◌}
use lib.Dec.{eqb}
use borrow.Author.Tests.{eq-eqb, ne_eqb}
use Rattle.octets.proofs.Same.{both_true}
use Rattle.codec.specs.declared.FrameSet.{FrameSet}
use Rattle.machine.specs.declared.Session.{Session}
use Rattle.machine.specs.Machine.{key}
use Rattle.plan.specs.Plan.{flow_of_set, in_plan}
use Rattle.state.specs.State.{State, with_sessions, is_allowed, valid}
use Rattle.state.proofs.Rules.{valid_parts}
use Rattle.demands.specs.Machine.{Machine}
use Rattle.demands.specs.World.{World, same_set, become}
use Rattle.demands.specs.Shown.{machine_in, machine_on, machine_at}
use Rattle.demands.proofs.Shows.{SmallSet, Shows}
use Rattle.state.proofs.OwedRow.{by_test}
use Rattle.demands.proofs.SetsApart.{same_told, sets_apart}
use Rattle.demands.proofs.Keys.{key_flow, key_source}

module _ (s : State) (w : World) (ok : valid s ≡ true) (shows : Shows s w) (port : ℕ) (set : FrameSet) (source n : ℕ)
    (small : SmallSet set) (low : source < 2 ^ 48) (flow : (flow_of_set port set s.plan).number ≡ n) (there : in_plan n ≡ true) where
  -- is it the machine of this port, set and source?
  abbrev mine : ℕ → FrameSet → ℕ → Bool
  mine p q x = eqb p port && (same_set q set && eqb x source)

  -- another has another key
  apart : (p : ℕ) (q : FrameSet) (x : ℕ) → SmallSet q → x < 2 ^ 48 → mine p q x ≡ false
      → eqb (key n source) (key (flow_of_set p q s.plan).number x) ≡ false
  apart p q x smallq lowx other =
      let j : ℕ = (flow_of_set p q s.plan).number in
      ne_eqb (key n source) (key j x)
      (λ same.
      let number : j ≡ n = sym (key_flow j x lowx) ∙ rw (← same) (key_flow n source low) in
      let twin : x ≡ source = sym (key_source j x lowx) ∙ rw (← same) (key_source n source low) in
      let one : _ = both_true (eqb p port) (same_set q set)
      (sets_apart s.plan (valid_parts s ok).plan_kept p port q set smallq small (rw flow there) (number ∙ sym flow)) in
      false≢true (sym other ∙ rw (one.0, one.1, eq-eqb x source twin)))

  -- `m` is the new machine by whether the flow is allowed, `xs` the new sessions
  pub become_shown : (m : Bool → Machine) (xs : List Session)
      → ((a : Bool) (k : ℕ) → machine_in a k xs ≡ cond (eqb (key n source) k) (m a) (machine_in a k s.sessions))
      → Shows (with_sessions xs s) (become port set source (m (is_allowed n s)) w)
  unfolding with_sessions become is_allowed machine_at machine_on
  become_shown m xs told = record {
    plan_same = shows.plan_same;
    clock_same = shows.clock_same;
    machines = λ p q x smallq lowx.
        by_test (mine p q x)
        (λ t.
        let own : eqb (key n source) (key n source) ≡ true = eq-eqb (key n source) (key n source) refl in
        let here : m (is_allowed n s) ≡ machine_at (with_sessions xs s) port set source = rw (flow, there, told, own) in
        rw t (here ∙ sym (same_told (machine_at (with_sessions xs s)) p port q set x source t)))
        (λ t.
        rw t
        (shows.machines p q x smallq lowx
        ∙ by_test (in_plan (flow_of_set p q s.plan).number)
        (λ thereq. rw (thereq, told, apart p q x smallq lowx t))
        (λ gone. rw gone)));
  }
