-- What a record with no fault is: what its reason of 0 tells, and what makes its reason 0.
use mathlib.Core.Path.{◌≡◌, refl}
use mathlib.Core.Bool.{Bool, true, false, cond, not, ◌||◌}
use Prim.Native.Nat.{ℕ, suc}
use native.Mathlib.Omega.{arith}
use lib.Dec.{eqb, leb}
use borrow.Author.Tests.{not-false}
use Rattle.octets.specs.Lists.{within, some}
use Rattle.octets.proofs.ListLaws.{neither}
use Rattle.codec.specs.FrameSet.{set_of}
use Rattle.plan.specs.Plan.{Plan, port_numbered, flow_numbered, flow_of_set, in_plan, mp_at, mp_count}
use Rattle.plan.specs.Plan.{good_address, good_vid, good_kind}
use Rattle.plan.specs.PlanText.{port_reason, flow_reason, mp_reason}

-- a test for another reason failed
passed : (b : Bool) (r x : ℕ) → cond b (suc r) x ≡ 0 → (b ≡ false) × (x ≡ 0)
passed true r x h = absurd (omega arith)
passed false r x h = (refl, h)

pub record FaultlessPort (plan : Plan) (number address : ℕ) : Type 0 where
  pub number_fits : within 1 8 number ≡ true
  pub address_good : good_address address ≡ true
  pub number_new : in_plan (port_numbered number plan).number ≡ false
  pub address_new : some (λ p. eqb p.address address) plan.ports ≡ false

pub record FaultlessFlow (plan : Plan) (number port kind vid : ℕ) : Type 0 where
  pub number_fits : within 1 32 number ≡ true
  pub port_fits : within 1 8 port ≡ true
  pub vid_fits : good_vid kind vid ≡ true
  pub port_there : in_plan (port_numbered port plan).number ≡ true
  pub kind_fits : good_kind kind (port_numbered port plan).kind ≡ true
  pub number_new : in_plan (flow_numbered number plan).number ≡ false
  pub set_new : in_plan (flow_of_set port (set_of kind vid) plan).number ≡ false

pub record FaultlessMp (plan : Plan) (flow level : ℕ) : Type 0 where
  pub flow_fits : within 1 32 flow ≡ true
  pub level_fits : within 0 7 level ≡ true
  pub flow_there : in_plan (flow_numbered flow plan).number ≡ true
  pub level_new : leb 1 (mp_at level (flow_numbered flow plan)) ≡ false
  pub mp_room : leb 32 (mp_count plan.flows) ≡ false

module _ (plan : Plan) where
  pub port_cleared : (number address : ℕ) → port_reason plan number address ≡ 0 → FaultlessPort plan number address
  unfolding port_reason
  port_cleared number address h =
      let a : Bool = within 1 8 number in
      let b : Bool = good_address address in
      let c : Bool = in_plan (port_numbered number plan).number in
      let d : Bool = some (λ p. eqb p.address address) plan.ports in
      let t1 : _ = passed (not a || not b) 1 (cond (c || d) 4 0) h in
      let t2 : _ = passed (c || d) 3 0 t1.1 in
      let u1 : _ = neither (not a) (not b) t1.0 in
      let u2 : _ = neither c d t2.0 in
      record {
        number_fits = not-false a u1.0;
        address_good = not-false b u1.1;
        number_new = u2.0;
        address_new = u2.1;
      }

  pub port_clears : (number address : ℕ) → FaultlessPort plan number address → port_reason plan number address ≡ 0
  unfolding port_reason
  port_clears number address f = rw (f.number_fits, f.address_good, f.number_new, f.address_new)

  pub flow_cleared : (number port kind vid : ℕ) → flow_reason plan number port kind vid ≡ 0
      → FaultlessFlow plan number port kind vid
  unfolding flow_reason
  flow_cleared number port kind vid h =
      let a : Bool = within 1 32 number in
      let b : Bool = within 1 8 port in
      let c : Bool = good_vid kind vid in
      let d : Bool = in_plan (port_numbered port plan).number in
      let e : Bool = good_kind kind (port_numbered port plan).kind in
      let f : Bool = in_plan (flow_numbered number plan).number in
      let g : Bool = in_plan (flow_of_set port (set_of kind vid) plan).number in
      let t1 : _ = passed (not a || not b || not c) 1 (cond (not d) 3 (cond (not e) 2 (cond (f || g) 4 0))) h in
      let t2 : _ = passed (not d) 2 (cond (not e) 2 (cond (f || g) 4 0)) t1.1 in
      let t3 : _ = passed (not e) 1 (cond (f || g) 4 0) t2.1 in
      let t4 : _ = passed (f || g) 3 0 t3.1 in
      let u2 : _ = neither (not a || not b) (not c) t1.0 in
      let u1 : _ = neither (not a) (not b) u2.0 in
      let u4 : _ = neither f g t4.0 in
      record {
        number_fits = not-false a u1.0;
        port_fits = not-false b u1.1;
        vid_fits = not-false c u2.1;
        port_there = not-false d t2.0;
        kind_fits = not-false e t3.0;
        number_new = u4.0;
        set_new = u4.1;
      }

  pub flow_clears : (number port kind vid : ℕ) → FaultlessFlow plan number port kind vid
      → flow_reason plan number port kind vid ≡ 0
  unfolding flow_reason
  flow_clears number port kind vid f =
      rw (f.number_fits, f.port_fits, f.vid_fits, f.port_there, f.kind_fits, f.number_new, f.set_new)

  pub mp_cleared : (flow level : ℕ) → mp_reason plan flow level ≡ 0 → FaultlessMp plan flow level
  unfolding mp_reason
  mp_cleared flow level h =
      let a : Bool = within 1 32 flow in
      let b : Bool = within 0 7 level in
      let c : Bool = in_plan (flow_numbered flow plan).number in
      let d : Bool = leb 1 (mp_at level (flow_numbered flow plan)) in
      let e : Bool = leb 32 (mp_count plan.flows) in
      let t1 : _ = passed (not a || not b) 1 (cond (not c) 3 (cond d 4 (cond e 7 0))) h in
      let t2 : _ = passed (not c) 2 (cond d 4 (cond e 7 0)) t1.1 in
      let t3 : _ = passed d 3 (cond e 7 0) t2.1 in
      let t4 : _ = passed e 6 0 t3.1 in
      let u1 : _ = neither (not a) (not b) t1.0 in
      record {
        flow_fits = not-false a u1.0;
        level_fits = not-false b u1.1;
        flow_there = not-false c t2.0;
        level_new = t3.0;
        mp_room = t4.0;
      }

  pub mp_clears : (flow level : ℕ) → FaultlessMp plan flow level → mp_reason plan flow level ≡ 0
  unfolding mp_reason
  mp_clears flow level f = rw (f.flow_fits, f.level_fits, f.flow_there, f.level_new, f.mp_room)
