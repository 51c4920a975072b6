-- The rules of a valid state, one by one.
use mathlib.Core.Path.{◌≡◌}
use mathlib.Core.Bool.{Bool, true, ◌&&◌}
use Prim.Native.Nat.{◌^◌, ◌<◌, ◌≤◌}
use lib.Dec.{eqb, ltb, leb}
use lib.ListN.{length}
use borrow.Author.Tests.{eqb-true, leb-true, ltb-true}
use Rattle.octets.specs.Lists.{every, ascends}
use Rattle.octets.proofs.Same.{both_true}
use Rattle.machine.specs.Machine.{key_of}
use Rattle.plan.specs.Plan.{keeps_rules}
use Rattle.state.specs.State.{State, only_flows, good_session, valid}

pub record Valid (s : State) : Type 0 where
  pub plan_kept : keeps_rules s.plan ≡ true
  pub clock_fits : s.clock < 2 ^ 32
  pub allowed_length : length s.allowed ≡ 32
  pub flows_only : only_flows s.plan 1 s.allowed ≡ true
  pub sessions_few : length s.sessions ≤ 16
  pub sessions_ascend : ascends key_of 0 s.sessions ≡ true
  pub sessions_good : every (good_session s) s.sessions ≡ true

pub valid_parts : (s : State) → valid s ≡ true → Valid s
unfolding valid
valid_parts s h =
    let a : Bool = keeps_rules s.plan in
    let b : Bool = ltb s.clock (2 ^ 32) in
    let c : Bool = eqb (length s.allowed) 32 in
    let d : Bool = only_flows s.plan 1 s.allowed in
    let e : Bool = leb (length s.sessions) 16 in
    let f : Bool = ascends key_of 0 s.sessions in
    let t6 : _ = both_true (a && b && c && d && e && f) (every (good_session s) s.sessions) h in
    let t5 : _ = both_true (a && b && c && d && e) f t6.0 in
    let t4 : _ = both_true (a && b && c && d) e t5.0 in
    let t3 : _ = both_true (a && b && c) d t4.0 in
    let t2 : _ = both_true (a && b) c t3.0 in
    let t1 : _ = both_true a b t2.0 in
    record {
      plan_kept = t1.0;
      clock_fits = ltb-true s.clock (2 ^ 32) t1.1;
      allowed_length = eqb-true (length s.allowed) 32 t2.1;
      flows_only = t3.1;
      sessions_few = leb-true (length s.sessions) 16 t4.1;
      sessions_ascend = t5.1;
      sessions_good = t6.1;
    }
