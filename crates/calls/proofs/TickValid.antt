-- A tick leaves a valid state: an open session keeps some of its time, or is owed code 8 on an allowed flow.
use mathlib.Core.Path.{◌≡◌, refl, ap}
use mathlib.Core.Bool.{Bool, true}
use Prim.Native.Nat.{ℕ, ◌-◌, ◌^◌, ◌<◌, ◌≤◌}
use native.Mathlib.Omega.{arith}
use lib.ListN.{length-map}
use borrow.Author.Tests.{le-leb}
use Rattle.octets.specs.Lists.{within}
use Rattle.octets.proofs.Cases.{by_eq, by_le}
use Rattle.octets.proofs.ListLaws.{every_such, every_map, within_high}
use Rattle.octets.proofs.Ordered.{map_ascends}
use Rattle.machine.specs.declared.Session.{Session}
use Rattle.machine.specs.Table.{action_of}
use Rattle.machine.specs.Machine.{key_of, is_open, lasting, owed}
use Rattle.machine.specs.Management.{closed_by}
use Rattle.machine.specs.Time.{elapsed, ticked}
use Rattle.plan.specs.Plan.{Plan}
use Rattle.state.specs.State.{State, is_allowed, good_time, good_session, valid, with_sessions, with_clock}
use Rattle.state.proofs.Rules.{Valid, valid_parts}
use Rattle.calls.specs.Calls.{ticked_to}
use Rattle.calls.proofs.Standing.{stands, good_parts, good_whole, open_time, valid_whole}

module _ (e : ℕ) (x : Session) where
  -- the three ways of a tick
  ways : (P : Session → Type 0) → P x → P (owed 8 x) → P (lasting (x.left - e) x) → P (ticked e x)
  unfolding ticked is_open closed_by action_of
  ways P same ended on =
      by_eq x.notice 0
      (λ q none. by_le x.left e (λ l h. rw (q, l) ended) (λ l h. rw (q, l) on))
      (λ q due. rw q same)

  pub ticked_key : key_of (ticked e x) ≡ key_of x
  unfolding key_of lasting owed
  ticked_key = ways (λ y. key_of y ≡ key_of x) refl refl refl

  ticked_flow : (ticked e x).flow ≡ x.flow
  unfolding lasting owed
  ticked_flow = ways (λ y. y.flow ≡ x.flow) refl refl refl

  ticked_stands : (plan : Plan) → stands plan x ≡ true → stands plan (ticked e x) ≡ true
  unfolding lasting owed
  ticked_stands plan h = ways (λ y. stands plan y ≡ true) h h h

  ticked_time : (allowed : Bool) → good_time allowed x ≡ true → good_time allowed (ticked e x) ≡ true
  unfolding ticked is_open closed_by action_of lasting owed good_time within
  ticked_time allowed h =
      by_eq x.notice 0
      (λ q none.
      let t : _ = open_time allowed x q h in
      let high : x.left ≤ 86400000 = within_high 1 86400000 x.left t.1 in
      by_le x.left e
      (λ l less. rw (q, l, t.0))
      (λ l more.
      rw (q, l, t.0, q, le-leb 1 (x.left - e) (omega arith), le-leb (x.left - e) 86400000 (omega arith))))
      (λ q due. rw q h)

ticked_good : (s : State) (e : ℕ) (x : Session) → good_session s x ≡ true → good_session s (ticked e x) ≡ true
ticked_good s e x h =
    let g : _ = good_parts s x h in
    let a : is_allowed (ticked e x).flow s ≡ is_allowed x.flow s = ap (λ n. is_allowed n s) (ticked_flow e x) in
    good_whole s (ticked e x) (ticked_stands e x s.plan g.0) (rw a (ticked_time e x (is_allowed x.flow s) g.1))

pub tick_valid : (s : State) (clock : ℕ) → clock < 2 ^ 32 → valid s ≡ true → valid (ticked_to clock s) ≡ true
unfolding ticked_to good_session is_allowed with_clock with_sessions
tick_valid s clock small h =
    let v : Valid s = valid_parts s h in
    let e : ℕ = elapsed clock s.clock in
    valid_whole (ticked_to clock s)
    (record {
      plan_kept = v.plan_kept;
      clock_fits = small;
      allowed_length = v.allowed_length;
      flows_only = v.flows_only;
      sessions_few = rw length-map v.sessions_few;
      sessions_ascend = rw (map_ascends key_of (ticked e) (ticked_key e) 0 s.sessions) v.sessions_ascend;
      sessions_good =
          rw (every_map (ticked e) (good_session s) s.sessions)
          (every_such (good_session s) (λ x. good_session s (ticked e x)) (ticked_good s e) s.sessions v.sessions_good);
    })
