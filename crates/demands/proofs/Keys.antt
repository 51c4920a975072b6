-- Flow and source as one number, and the sessions of a valid state by that number.
use mathlib.Core.Path.{◌≡◌, sym, ◌∙◌}
use mathlib.Core.Bool.{true, false, true≢false, false≢true}
use Prim.Native.Nat.{ℕ, ◌/◌, ◌%◌, ◌*◌, ◌^◌, ◌<◌, ◌≤◌}
use native.Mathlib.Omega.{arith}
use lib.Dec.{eqb, ltb}
use borrow.Author.Tests.{lt-ltb, ne_eqb}
use Rattle.octets.specs.Lists.{every, some}
use Rattle.machine.specs.declared.Session.{Session}
use Rattle.machine.specs.Machine.{is_open, key, key_of}
use Rattle.plan.specs.Plan.{flow_numbered, in_plan}
use Rattle.octets.proofs.ListLaws.{every_such, within_high}
use Rattle.state.proofs.Rules.{Valid, valid_parts}
use Rattle.state.specs.State.{State, is_allowed, good_session, valid}
use Rattle.state.proofs.Fits.{GoodSession, good_session_lem}
use Rattle.calls.proofs.Standing.{good_parts, open_time}
use Rattle.state.proofs.OwedRow.{by_test}
use Rattle.demands.proofs.Lists.{none_such}

-- ---- the number and its parts

module _ (flow source : ℕ) (small : source < 2 ^ 48) where
  pub key_flow : key flow source / 2 ^ 48 ≡ flow
  unfolding key
  key_flow = omega arith

  pub key_source : key flow source % 2 ^ 48 ≡ source
  unfolding key
  key_source = omega arith

pub key_whole : (k : ℕ) → key (k / 2 ^ 48) (k % 2 ^ 48) ≡ k
unfolding key
key_whole k = omega arith

-- ---- the sessions

module _ (s : State) (ok : valid s ≡ true) where
  v : Valid s
  v = valid_parts s ok

  fits : (x : Session) → good_session s x ≡ true → GoodSession x
  fits x good = good_session_lem s x v.plan_kept good

  pub session_flow : (x : Session) → good_session s x ≡ true → in_plan (flow_numbered x.flow s.plan).number ≡ true
  unfolding good_session
  session_flow x good =
      by_test (in_plan (flow_numbered x.flow s.plan).number) (λ e. e) (λ e. absurd (false≢true (rw e at good)))

  pub session_source : (x : Session) → good_session s x ≡ true → x.source < 2 ^ 48
  session_source x good = (fits x good).fits.source_fits

  -- one that has the key of a flow and a source is of that flow, which is allowed where it is open
  module _ (x : Session) (good : good_session s x ≡ true) (n source : ℕ) (small : source < 2 ^ 48)
      (same : key_of x ≡ key n source) where
    pub flow_of_key : x.flow ≡ n
    unfolding key_of
    flow_of_key = sym (key_flow x.flow x.source (session_source x good)) ∙ rw same (key_flow n source small)

    pub open_allowed : is_open x ≡ true → is_allowed n s ≡ true
    open_allowed o = rw flow_of_key at (open_time (is_allowed x.flow s) x o (good_parts s x good).1).0

  -- none has a flow that the plan has not
  pub no_session_lem : (k : ℕ) → in_plan (flow_numbered (k / 2 ^ 48) s.plan).number ≡ false
      → some (λ x. eqb (key_of x) k) s.sessions ≡ false
  unfolding key_of
  no_session_lem k gone = none_such (good_session s) (λ x. eqb (key_of x) k) apart s.sessions v.sessions_good
    where
      apart : (x : Session) → good_session s x ≡ true → eqb (key_of x) k ≡ false
      apart x good =
          ne_eqb (key_of x) k
          (λ same.
          let e : k / 2 ^ 48 ≡ x.flow = rw (← same) (key_flow x.flow x.source (session_source x good)) in
          absurd (true≢false (rw (e, session_flow x good) at gone)))

  -- their keys are below 33 * 2 ^ 48
  pub keys_below : (keys : ℕ) → 33 * 2 ^ 48 ≤ keys → every (λ x. ltb (key_of x) keys) s.sessions ≡ true
  unfolding key_of key
  keys_below keys big = every_such (good_session s) (λ x. ltb (key_of x) keys) low s.sessions v.sessions_good
    where
      low : (x : Session) → good_session s x ≡ true → ltb (key_of x) keys ≡ true
      low x good =
          lt-ltb (key_of x) keys
          (omega (arith, big, within_high 1 32 x.flow (fits x good).flow_within, session_source x good))
