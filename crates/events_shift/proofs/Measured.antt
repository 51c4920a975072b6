-- The length that an answer says is the length of what was written.
use mathlib.Core.Path.{◌≡◌, refl}
use mathlib.Core.Bool.{Bool, true, false, cond, not, ◌&&◌, ◌||◌, false≢true}
use mathlib.Core.List.{List}
use Prim.Native.Nat.{ℕ, ◌/◌, ◌^◌, ◌≤◌, ◌<◌}
use native.Mathlib.Omega.{arith}
use lib.Dec.{eqb, ltb, leb}
use lib.ListN.{length}
use borrow.Author.Tests.{leb-false, ltb-true, lt-ltb, ne_eqb}
use Rattle.octets.specs.Lists.{within}
use Rattle.octets.proofs.Same.{both_true}
use Rattle.octets.proofs.ListLaws.{within_high}
use Rattle.octets.proofs.Cases.{by_le}
use Rattle.machine.specs.declared.Session.{Session}
use Rattle.plan.specs.declared.Flow.{Flow}
use Rattle.codec.specs.FrameSet.{group, set_of, tag_fits}
use Rattle.plan.specs.Plan.{Plan, port_numbered, flow_numbered, in_plan, mp_at, faces, keeps_rules}
use Rattle.plan.proofs.Found.{port_found, port_number}
use Rattle.plan.proofs.Kept.{rules}
use Rattle.state.specs.State.{State, valid, notice_due, first_owed, good_session}
use Rattle.state.proofs.OwedRow.{by_test, owed_such}
use Rattle.state.proofs.Rules.{valid_parts}
use Rattle.codec.specs.declared.Addressed.{Addressed}
use Rattle.calls.specs.declared.Answer.TheVariants.{Replied, RepliedForwarded}
use Rattle.calls.specs.Answer.{Sent, packed, number_of, leaves, sends}
use Rattle.calls.specs.Frame.{Arrived, goes_on, replied, frame_served}
use Rattle.calls.specs.Notice.{port_of, noticed, notice_served}
use Rattle.calls.proofs.Standing.{good_parts}
use Rattle.calls.proofs.FrameEach.{frame_each}

-- The length that an answer's number says is that of the octets written.
abbrev pub Measured : Sent → Type 0
Measured r = number_of r.answer / 2 ^ 32 ≡ length r.octets

reply_measured : (s : State) (a : Arrived) (whom : Addressed) (code : ℕ) (copies : List ℕ) {h : Bool} → h ≡ true
    → Measured (replied s a whom code copies)
unfolding replied sends number_of packed
reply_measured s a whom code copies e = go (goes_on a whom) _
  where
    go : (b : Bool) (n : ℕ) → number_of (cond b RepliedForwarded Replied n) / 2 ^ 32 ≡ n
    go true n = omega arith
    go false n = omega arith

pub frame_measured : (s : State) (port side : ℕ) (l : List ℕ) → Measured (frame_served s port side l)
unfolding leaves sends number_of packed
frame_measured =
    frame_each Measured (λ s. refl) (λ s. refl) (λ s w. omega arith) (λ s a whom code copies e. reply_measured s a whom code copies e)

-- a port has a number of one octet, and so has a side that an MP faces
side_small : (mp side : ℕ) → faces mp side ≡ true → side < 256
unfolding faces within
side_small mp side h =
    by_le side 1 (λ e low. omega arith)
    (λ e high.
    let f : _ = rw (ne_eqb side 1 (λ z. omega arith), ne_eqb side 0 (λ z. omega arith), e) at h in
    absurd (false≢true (go (eqb mp 1) (eqb mp 2) (eqb mp 3) (leb 0 side) f)))
  where
    go : (a b c d : Bool) → ((a && false) || (b && false) || (c && (d && false))) ≡ true → false ≡ true
    go true true true true f = f
    go true true true false f = f
    go true true false d f = f
    go true false true true f = f
    go true false true false f = f
    go true false false d f = f
    go false true true true f = f
    go false true true false f = f
    go false true false d f = f
    go false false true true f = f
    go false false true false f = f
    go false false false d f = f

port_small : (plan : Plan) (n : ℕ) → keeps_rules plan ≡ true → (port_numbered n plan).number ≤ 8
unfolding in_plan
port_small plan n k =
    by_test (in_plan (port_numbered n plan).number)
    (λ there. omega (arith, port_found plan n there, within_high 1 8 n (port_number plan n (rules plan k).ports_good there)))
    (λ none. omega (arith, leb-false 1 (port_numbered n plan).number none))

session_side : (s : State) (x : Session) → good_session s x ≡ true → ltb x.side 256 ≡ true
session_side s x g =
    let f : Flow = flow_numbered x.flow s.plan in
    let a : Bool = in_plan f.number in
    let b : Bool = ltb x.source (2 ^ 48) in
    let c : Bool = not (group x.source) in
    let d : Bool = tag_fits (set_of f.kind f.vid) x.taglen x.tag in
    let e : Bool = faces (mp_at x.level f) x.side in
    lt-ltb x.side 256 (side_small (mp_at x.level f) x.side (both_true (a && b && c && d) e (good_parts s x g).0).1)

pub notice_measured : (s : State) → valid s ≡ true → notice_due s ≡ true → Measured (notice_served s)
unfolding notice_served noticed sends number_of packed port_of
notice_measured s v due =
    let k : keeps_rules s.plan ≡ true = (valid_parts s v).plan_kept in
    let side : ltb (first_owed s).side 256 ≡ true
    = owed_such s v due (λ x. ltb x.side 256) (λ x o g. session_side s x g) in
    omega (
      arith,
      ltb-true (first_owed s).side 256 side,
      port_small s.plan (flow_numbered (first_owed s).flow s.plan).port k,
    )
