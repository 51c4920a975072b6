-- A valid state's ports, flows and sessions fit their rows.
use mathlib.Core.Path.{◌≡◌}
use mathlib.Core.Bool.{Bool, true, false, cond, not, ◌&&◌, ◌||◌}
use Prim.Native.Nat.{ℕ, ◌/◌, ◌^◌, ◌<◌, ◌≤◌}
use native.Mathlib.Omega.{arith}
use lib.Dec.{eqb, ltb}
use lib.ListN.{length}
use borrow.Author.Tests.{eqb-true, leb-true, ltb-true}
use Rattle.octets.specs.Lists.{within}
use Rattle.octets.proofs.Same.{both_true}
use Rattle.octets.proofs.ListLaws.{within_low, within_high}
use Rattle.codec.specs.FrameSet.{untagged, c_tagged, c_tag, s_tag, group, set_of, vid_of, tag_fits}
use Rattle.codec.specs.declared.FrameSet.{FrameSet}
use Rattle.machine.specs.declared.Session.{Session}
use Rattle.machine.specs.Machine.{key, key_of, is_open}
use Rattle.plan.specs.declared.Port.{Port}
use Rattle.plan.specs.declared.Flow.{Flow}
use Rattle.plan.specs.Plan.{Plan, port_numbered, flow_numbered, in_plan, mp_at, faces}
use Rattle.plan.specs.Plan.{good_vid, good_port, good_flow, keeps_rules}
use Rattle.plan.proofs.Kept.{rules, good_port_lem as port-kept, good_flow_lem as flow_kept}
use Rattle.plan.proofs.Found.{port_found, flow_found, flow_passes}
use Rattle.state.specs.State.{State, is_allowed, good_time, good_session}
use Rattle.state.proofs.RowLaws.{PortFits, FlowFits, SessionFits}

-- ---- a port

pub record GoodPort (p : Port) : Type 0 where
  pub number_within : within 1 8 p.number ≡ true
  pub fits : PortFits p

pub good_port_lem : (p : Port) → good_port p ≡ true → GoodPort p
good_port_lem p h =
    let k : _ = port-kept p h in
    record { number_within = k.number_fits; fits = record { address_fits = ltb-true p.address (2 ^ 48) k.address_fits } }

-- ---- a flow

vid_fits : (kind vid : ℕ) → good_vid kind vid ≡ true → vid < 2 ^ 16
unfolding good_vid
vid_fits kind vid h = go (eqb kind untagged) h
  where
    go : (b : Bool) → cond b (eqb vid 0) (within 1 4094 vid) ≡ true → vid < 2 ^ 16
    go true e = omega (arith, eqb-true vid 0 e)
    go false e = omega (arith, within_high 1 4094 vid e)

pub record GoodFlow (f : Flow) : Type 0 where
  pub number_within : within 1 32 f.number ≡ true
  pub port_some : 1 ≤ f.port
  pub fits : FlowFits f

pub good_flow_lem : (plan : Plan) (f : Flow) → good_flow plan f ≡ true → GoodFlow f
unfolding in_plan
good_flow_lem plan f h =
    let k : _ = flow_kept plan f h in
    let p : Port = port_numbered f.port plan in
    record {
      number_within = k.number_fits;
      port_some = omega (arith, leb-true 1 p.number k.port_there, port_found plan f.port k.port_there);
      fits =
          record {
            vid_fits = vid_fits f.kind f.vid k.vid_fits;
            mps_fit = eqb-true (length f.mps) 8 k.mps_long;
          };
    }

-- ---- a session

-- the tag of a set is a number of so many octets, four or none
pub tag_fits_lem : (set : FrameSet) (count tag : ℕ) → tag_fits set count tag ≡ true
    → (count ≤ 4) × ((tag < 2 ^ 32) × (tag < 256 ^ count))
unfolding tag_fits
tag_fits_lem set count tag h = go (eqb set.kind untagged) (eqb set.kind c_tagged) h
  where
    kinds : (c : Bool) → cond c c_tag s_tag < 2 ^ 16
    kinds true = omega arith
    kinds false = omega arith

    go : (u c : Bool)
        → cond u (eqb count 0 && eqb tag 0)
        (eqb count 4 && eqb (tag / 2 ^ 16) (cond c c_tag s_tag) && eqb (vid_of tag) set.vid) ≡ true
        → (count ≤ 4) × ((tag < 2 ^ 32) × (tag < 256 ^ count))
    go true c e =
        let t : _ = both_true (eqb count 0) (eqb tag 0) e in
        rw (eqb-true count 0 t.0, eqb-true tag 0 t.1) (omega arith, (omega arith, omega arith))
    go false c e =
        let x : ℕ = cond c c_tag s_tag in
        let t : _ = both_true (eqb count 4 && eqb (tag / 2 ^ 16) x) (eqb (vid_of tag) set.vid) e in
        let r : _ = both_true (eqb count 4) (eqb (tag / 2 ^ 16) x) t.0 in
        let q : tag / 2 ^ 16 ≡ x = eqb-true (tag / 2 ^ 16) x r.1 in
        rw (eqb-true count 4 r.0) (omega arith, (omega (arith, q, kinds c), omega (arith, q, kinds c)))

left_fits : (allowed : Bool) (x : Session) → good_time allowed x ≡ true → x.left ≤ 86400000
unfolding good_time
left_fits allowed x h = go (is_open x) ((eqb x.notice 8 && allowed) || (eqb x.notice 9 && not allowed)) h
  where
    go : (running coded : Bool)
        → cond running (allowed && within 1 86400000 x.left) (eqb x.left 0 && coded) ≡ true → x.left ≤ 86400000
    go true coded e = within_high 1 86400000 x.left (both_true allowed (within 1 86400000 x.left) e).1
    go false coded e = omega (arith, eqb-true x.left 0 (both_true (eqb x.left 0) coded e).0)

pub record GoodSession (x : Session) : Type 0 where
  pub flow_within : within 1 32 x.flow ≡ true
  pub fits : SessionFits x
  pub key_some : 1 ≤ key_of x

pub good_session_lem : (s : State) (x : Session) → keeps_rules s.plan ≡ true → good_session s x ≡ true → GoodSession x
unfolding good_session key_of key
good_session_lem s x k h =
    let f : Flow = flow_numbered x.flow s.plan in
    let a : Bool = in_plan f.number in
    let b : Bool = ltb x.source (2 ^ 48) in
    let c : Bool = not (group x.source) in
    let d : Bool = tag_fits (set_of f.kind f.vid) x.taglen x.tag in
    let e : Bool = faces (mp_at x.level f) x.side in
    let g : Bool = good_time (is_allowed x.flow s) x in
    let t5 : _ = both_true (a && b && c && d && e) g h in
    let t4 : _ = both_true (a && b && c && d) e t5.0 in
    let t3 : _ = both_true (a && b && c) d t4.0 in
    let t2 : _ = both_true (a && b) c t3.0 in
    let t1 : _ = both_true a b t2.0 in
    let n : f.number ≡ x.flow = flow_found s.plan x.flow t1.0 in
    let good : good_flow s.plan f ≡ true
    = flow_passes s.plan (good_flow s.plan) x.flow (rules s.plan k).flows_good t1.0 in
    let v : within 1 32 x.flow ≡ true = rw n at (good_flow_lem s.plan f good).number_within in
    record {
      flow_within = v;
      fits =
          record {
            flow_fits = omega (arith, within_high 1 32 x.flow v);
            source_fits = ltb-true x.source (2 ^ 48) t1.1;
            left_fits = omega (arith, left_fits (is_allowed x.flow s) x t5.1);
            tag_fits = omega (arith, (tag_fits_lem (set_of f.kind f.vid) x.taglen x.tag t3.1).1.0);
          };
      key_some = omega (arith, within_low 1 32 x.flow v);
    }

pub good_fits : (s : State) (x : Session) → keeps_rules s.plan ≡ true → good_session s x ≡ true → SessionFits x
good_fits s x k h = (good_session_lem s x k h).fits
