-- The session that is first owed a notice, in a valid state: it is one of the sessions, and fits a notice.
use mathlib.Core.Path.{◌≡◌, sym, ap, ◌∙◌}
use mathlib.Core.Bool.{Bool, true, not, ◌&&◌, true≢false}
use mathlib.Core.List.{List}
use Prim.Native.Nat.{ℕ, ◌^◌, ◌<◌, ◌≤◌}
use native.Mathlib.Omega.{arith}
use lib.Dec.{ltb}
use lib.ListN.{length, drop, get_or-eq_default}
use Rattle.std.specs.Prelude.{Option, is_some}
use Rattle.octets.proofs.Same.{both_true}
use Rattle.octets.proofs.Cases.{by_lt}
use Rattle.codec.specs.FrameSet.{group, set_of, tag_fits}
use Rattle.machine.specs.declared.Session.{Session}
use Rattle.machine.specs.Machine.{key_of}
use Rattle.plan.specs.declared.Flow.{Flow}
use Rattle.plan.specs.Plan.{flow_numbered, in_plan, mp_at, faces, good_flow}
use Rattle.plan.proofs.Kept.{rules}
use Rattle.plan.proofs.Found.{flow_passes}
use Rattle.state.specs.State.{State, is_allowed, good_time, good_session, valid, first_owed}
use Rattle.state.specs.Image.{session_in, state_of}
use Rattle.state.specs.Rows.{row_found, session_at, owed_at}
use Rattle.state.proofs.Rules.{Valid, valid_parts}
use Rattle.state.proofs.Fits.{good_flow_lem, good_fits, tag_fits_lem}
use Rattle.state.proofs.ImageLaws.{ok_valid}
use Rattle.state.proofs.Answers.{owed_found, notice_found}
use Rattle.state.proofs.OwedRow.{owed_such, owed_keyed}
use Rattle.calls_serving.specs.Preconditions.{NoticeKnown}

-- ---- what a notice needs of it

pub record NoticeFits (x : Session) : Type 0 where
  pub level_fits : x.level < 8
  pub count_fits : x.taglen ≤ 4
  pub tag_fits : x.tag < 2 ^ 32
  pub source_fits : x.source < 2 ^ 48

level_fits : (level side : ℕ) (f : Flow) → length f.mps ≡ 8 → faces (mp_at level f) side ≡ true → level < 8
unfolding mp_at faces
level_fits level side f eight h =
    by_lt level 8
    (λ e low. low)
    (λ e high.
    let none : mp_at level f ≡ 0 = get_or-eq_default f.mps 0 (omega arith) in
    absurd (true≢false (sym h ∙ ap (λ (mp : ℕ). faces mp side) none)))

session_fits_lem : (s : State) (x : Session) → valid s ≡ true → good_session s x ≡ true → NoticeFits x
unfolding good_session
session_fits_lem s x v h =
    let p : Valid s = valid_parts s v in
    let f : Flow = flow_numbered x.flow s.plan in
    let a : Bool = in_plan f.number in
    let b : Bool = ltb x.source (2 ^ 48) in
    let c : Bool = not (group x.source) in
    let d : Bool = tag_fits (set_of f.kind f.vid) x.taglen x.tag in
    let e : Bool = faces (mp_at x.level f) x.side in
    let t5 : _ = both_true (a && b && c && d && e) (good_time (is_allowed x.flow s) x) h in
    let t4 : _ = both_true (a && b && c && d) e t5.0 in
    let t3 : _ = both_true (a && b && c) d t4.0 in
    let t1 : _ = both_true a b (both_true (a && b) c t3.0).0 in
    let good : good_flow s.plan f ≡ true
    = flow_passes s.plan (good_flow s.plan) x.flow (rules s.plan p.plan_kept).flows_good t1.0 in
    let tag : _ = tag_fits_lem (set_of f.kind f.vid) x.taglen x.tag t3.1 in
    record {
      level_fits = level_fits x.level x.side f (good_flow_lem s.plan f good).fits.mps_fit t4.1;
      count_fits = tag.0;
      tag_fits = tag.1.0;
      source_fits = (good_fits s x p.plan_kept h).source_fits;
    }

pub owed_fits : {l out : List ℕ} → NoticeKnown l out → {x : Session} → x ≡ first_owed (state_of l) → NoticeFits x
owed_fits {l} k e =
    let v : valid (state_of l) ≡ true = ok_valid l k.ok in
    rw e (session_fits_lem (state_of l) (first_owed (state_of l)) v (owed_such (state_of l) v k.due (good_session (state_of l)) (λ x o good. good)))

-- ---- its row

-- there is one
pub owed_some : {l out : List ℕ} → NoticeKnown l out → {row : Option ℕ} → row ≡ row_found (owed_at l) → is_some row ≡ true
owed_some {l} k e = notice_found l e ∙ k.due

module _ {l out : List ℕ} (k : NoticeKnown l out) {row : ℕ} (e : row ≡ owed_at l) (there : row ≡ 0 → ⊥) where
  module _ {x : Session} (read : x ≡ session_in (drop row l)) where
    pub owed_is : x ≡ first_owed (state_of l)
    owed_is = read ∙ (owed_found l e).something there

    pub owed_at_lem : row ≡ session_at (key_of x) l
    owed_at_lem = e ∙ owed_keyed l (ok_valid l k.ok) k.due ∙ ap (λ (y : Session). session_at (key_of y) l) (sym owed_is)
