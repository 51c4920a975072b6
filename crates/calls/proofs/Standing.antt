-- A session of a valid state: where it stands, and its time. And a valid state, put together from its parts.
use mathlib.Core.Path.{◌≡◌}
use mathlib.Core.Bool.{Bool, true, not, ◌&&◌}
use mathlib.Core.List.{List}
use Prim.Native.Nat.{◌^◌, ◌≤◌}
use native.Mathlib.Omega.{arith}
use lib.Dec.{ltb}
use lib.ListN.{length}
use borrow.Author.Tests.{lt-ltb, le-leb, leb-true, eq-eqb}
use Rattle.octets.specs.Lists.{within, every, ascends}
use Rattle.octets.proofs.Same.{both_true}
use Rattle.codec.specs.FrameSet.{group, set_of, tag_fits}
use Rattle.machine.specs.declared.Session.{Session}
use Rattle.machine.specs.Machine.{key_of, is_open}
use Rattle.plan.specs.Plan.{Plan, flow_numbered, in_plan, mp_at, faces}
use Rattle.plan.proofs.Found.{flow_found}
use Rattle.state.specs.State.{State, with_sessions, is_allowed, good_time, good_session, valid}
use Rattle.state.proofs.Rules.{Valid, valid_parts}

-- Where a session stands: its flow is in the plan, its source is unicast, its tag is of its flow's set, and an MP at its level
-- faces its side.
abbrev pub stands : Plan → Session → Bool
stands plan x =
    in_plan (flow_numbered x.flow plan).number
    && ltb x.source (2 ^ 48)
    && not (group x.source)
    && tag_fits (set_of (flow_numbered x.flow plan).kind (flow_numbered x.flow plan).vid) x.taglen x.tag
    && faces (mp_at x.level (flow_numbered x.flow plan)) x.side

pub good_parts : (s : State) (x : Session) → good_session s x ≡ true
    → (stands s.plan x ≡ true) × (good_time (is_allowed x.flow s) x ≡ true)
unfolding good_session
good_parts s x h = both_true (stands s.plan x) (good_time (is_allowed x.flow s) x) h

pub good_whole : (s : State) (x : Session) → stands s.plan x ≡ true → good_time (is_allowed x.flow s) x ≡ true
    → good_session s x ≡ true
unfolding good_session
good_whole s x p t = rw (p, t)

-- its flow has a number
pub stands_flow : (plan : Plan) (x : Session) → stands plan x ≡ true → 1 ≤ x.flow
unfolding in_plan
stands_flow plan x h =
    let a : Bool = in_plan (flow_numbered x.flow plan).number in
    let b : Bool = ltb x.source (2 ^ 48) in
    let c : Bool = not (group x.source) in
    let d : Bool = tag_fits (set_of (flow_numbered x.flow plan).kind (flow_numbered x.flow plan).vid) x.taglen x.tag in
    let t4 : _ = both_true (a && b && c && d) (faces (mp_at x.level (flow_numbered x.flow plan)) x.side) h in
    let t3 : _ = both_true (a && b && c) d t4.0 in
    let t2 : _ = both_true (a && b) c t3.0 in
    let t1 : a ≡ true = (both_true a b t2.0).0 in
    omega (arith, leb-true 1 (flow_numbered x.flow plan).number t1, flow_found plan x.flow t1)

-- an open session's flow is allowed, and it has time left
pub open_time : (allowed : Bool) (x : Session) → is_open x ≡ true → good_time allowed x ≡ true
    → (allowed ≡ true) × (within 1 86400000 x.left ≡ true)
unfolding good_time
open_time allowed x o h = both_true allowed (within 1 86400000 x.left) (rw o at h)

pub time_open : (x : Session) → is_open x ≡ true → within 1 86400000 x.left ≡ true → good_time true x ≡ true
unfolding good_time
time_open x o h = rw (o, h)

-- a valid state from its parts
pub valid_whole : (s : State) → Valid s → valid s ≡ true
unfolding valid
valid_whole s v =
    rw (
      v.plan_kept,
      lt-ltb s.clock (2 ^ 32) v.clock_fits,
      eq-eqb (length s.allowed) 32 v.allowed_length,
      v.flows_only,
      le-leb (length s.sessions) 16 v.sessions_few,
      v.sessions_ascend,
      v.sessions_good,
    )

-- a valid state with other sessions
pub with_valid : (s : State) (xs : List Session) → valid s ≡ true → length xs ≤ 16 → ascends key_of 0 xs ≡ true
    → every (good_session s) xs ≡ true → valid (with_sessions xs s) ≡ true
unfolding with_sessions good_session is_allowed
with_valid s xs h few keys good =
    let v : Valid s = valid_parts s h in
    valid_whole (with_sessions xs s)
    (record {
      plan_kept = v.plan_kept;
      clock_fits = v.clock_fits;
      allowed_length = v.allowed_length;
      flows_only = v.flows_only;
      sessions_few = few;
      sessions_ascend = keys;
      sessions_good = good;
    })
