-- A state with one flow's flag changed: what it allows, and when it is valid.
use mathlib.Core.Path.{◌≡◌, refl}
use mathlib.Core.Bool.{Bool, true, false, not, ◌&&◌, ◌||◌}
use mathlib.Core.List.{List, [], ◌∷◌}
use Prim.Native.Nat.{ℕ, zero, suc, ◌+◌, ◌-◌, ◌≤◌}
use native.Mathlib.Nat.{add-zero}
use native.Mathlib.Omega.{arith}
use lib.ListN.{length, get_or, set, length-set}
use borrow.Author.Tests.{leb-true}
use Rattle.octets.specs.Lists.{every, ascends}
use Rattle.octets.proofs.Same.{both_true}
use Rattle.machine.specs.declared.Session.{Session}
use Rattle.machine.specs.Machine.{key_of}
use Rattle.plan.specs.Plan.{Plan, flow_numbered, in_plan}
use Rattle.plan.proofs.Found.{flow_found}
use Rattle.state.specs.State.{State, only_flows, good_session, valid}
use Rattle.state.proofs.Rules.{Valid, valid_parts}
use Rattle.calls.proofs.Standing.{valid_whole}

pub set_true : (l : List Bool) (i j : ℕ) → get_or l j false ≡ true → get_or (set l i true) j false ≡ true
set_true [] i j h = h
set_true (x ∷ l) zero zero h = refl
set_true (x ∷ l) zero (suc j) h = h
set_true (x ∷ l) (suc i) zero h = h
set_true (x ∷ l) (suc i) (suc j) h = set_true l i j h

pub set_false : (l : List Bool) (i : ℕ) → get_or (set l i false) i false ≡ false
set_false [] i = refl
set_false (x ∷ l) zero = refl
set_false (x ∷ l) (suc i) = set_false l i

-- only flows of the plan are allowed, whatever one of its flows gets
set_only : (plan : Plan) (b : Bool) (l : List Bool) (n i : ℕ) → in_plan (flow_numbered (n + i) plan).number ≡ true
    → only_flows plan n l ≡ true → only_flows plan n (set l i b) ≡ true
unfolding only_flows
set_only plan b [] n i p h = refl
set_only plan b (x ∷ l) n zero p h =
    let t : _ = both_true (not x || in_plan (flow_numbered n plan).number) (only_flows plan (n + 1) l) h in
    let q : in_plan (flow_numbered n plan).number ≡ true = rw add-zero at p in
    rw (q, t.1) (go (not b))
  where
    go : (a : Bool) → ((a || true) && true) ≡ true
    go true = refl
    go false = refl
set_only plan b (x ∷ l) n (suc i) p h =
    let t : _ = both_true (not x || in_plan (flow_numbered n plan).number) (only_flows plan (n + 1) l) h in
    let e : n + suc i ≡ n + 1 + i = omega arith in
    rw t.0 (set_only plan b l (n + 1) i (rw e at p) t.1)

-- a state with one flow's flag and its sessions changed
abbrev pub flagged : State → ℕ → Bool → List Session → State
flagged s flow b xs =
    record { plan = s.plan; clock = s.clock; allowed = set s.allowed (flow - 1) b; sessions = xs }

module _ (s : State) (flow : ℕ) (h : valid s ≡ true) (there : in_plan (flow_numbered flow s.plan).number ≡ true) where
  pub some_flow : 1 ≤ flow
  unfolding in_plan
  some_flow = omega (arith, leb-true 1 (flow_numbered flow s.plan).number there, flow_found s.plan flow there)

  pub flagged_valid : (b : Bool) (xs : List Session) → length xs ≡ length s.sessions → ascends key_of 0 xs ≡ true
      → every (good_session (flagged s flow b xs)) xs ≡ true → valid (flagged s flow b xs) ≡ true
  flagged_valid b xs long keys good =
      let v : Valid s = valid_parts s h in
      let e : 1 + (flow - 1) ≡ flow = omega (arith, some_flow) in
      valid_whole (flagged s flow b xs)
      (record {
        plan_kept = v.plan_kept;
        clock_fits = v.clock_fits;
        allowed_length = rw length-set v.allowed_length;
        flows_only = set_only s.plan b s.allowed 1 (flow - 1) (rw e there) v.flows_only;
        sessions_few = rw long v.sessions_few;
        sessions_ascend = keys;
        sessions_good = good;
      })
