-- Laws of the tests by which a line is judged.
use mathlib.Core.Path.{◌≡◌, refl, sym, ap, ◌∙◌}
use mathlib.Core.Bool.{Bool, true, false, not, ◌||◌}
use Prim.Native.Nat.{ℕ, ◌≤◌}
use native.Mathlib.Omega.{arith}
use lib.Dec.{leb}
use borrow.Author.Tests.{eqb-true, le-leb, not-false}
use Rattle.octets.specs.Lists.{within}
use Rattle.octets.proofs.Cases.{by_eq}
use Rattle.octets.proofs.ListLaws.{neither, within_high}
use Rattle.codec.specs.FrameSet.{untagged}
use Rattle.octets.specs.Lists.{first}
use Rattle.plan.specs.Plan.{in_plan, good_vid}
use Rattle.plan.specs.Records.{held}
use mathlib.Core.Bool.{cond}
use mathlib.Core.List.{List, [], ◌∷◌}
use Rattle.std.specs.Prelude.{Option, None, Some, Ok, Err, find}
use Rattle.std.specs.Option.{is_some}
use Rattle.plan_reader.specs.declared.fault.Reason.{Reason}
use Rattle.plan_reader.specs.ReadPlan.{judged, reason_numbered}

pub or_none : (b : Bool) → (b || false) ≡ b
or_none true = refl
or_none false = refl

-- what was found by its number
module _ {A : Type 0} (number : A → ℕ) {x y : A} (e : x ≡ y) where
  pub there : (number x ≡ 0 → ⊥) → in_plan (number y) ≡ true
  unfolding in_plan
  there n =
      let h : 1 ≤ number x = omega (arith, n) in
      ap (λ z. leb 1 (number z)) (sym e) ∙ le-leb 1 (number x) h

  pub gone : number x ≡ 0 → in_plan (number y) ≡ false
  unfolding in_plan
  gone z = ap (λ z. leb 1 (number z)) (sym e) ∙ ap (leb 1) z

-- a row that is held and found, or not
module _ {A : Type 0} (number : A → ℕ) (test : A → Bool) (e : A) where
  pub first_none : (l : List A) → None ≡ find test l → first test e l ≡ e
  unfolding first
  first_none [] h = refl
  first_none (y ∷ l) h = go (test y) h (first_none l)
    where
      go : (b : Bool) → None ≡ cond b (Some y) (find test l) → (None ≡ find test l → first test e l ≡ e)
          → cond b y (first test e l) ≡ e
      go true h k = cc
      go false h k = k h

  pub first_some : {x : A} (l : List A) → Some x ≡ find test l → first test e l ≡ x
  unfolding first
  first_some [] h = cc
  first_some {x} (y ∷ l) h = go (test y) h (first_some l)
    where
      go : (b : Bool) → Some x ≡ cond b (Some y) (find test l) → (Some x ≡ find test l → first test e l ≡ x)
          → cond b y (first test e l) ≡ x
      go true h k = cc
      go false h k = k h

  pub found_used : {x : A} (l : List A) → Some x ≡ find test (held number l) → number x ≡ 0 → ⊥
  unfolding held
  found_used [] h z = cc
  found_used {x} (y ∷ l) h z =
      by_eq (number y) 0 (λ f s. let k : _ = rw f at h in cc)
      (λ f s. let k : _ = rw f at h in go (test y) s k (found_used l))
    where
      go : (b : Bool) → (number y ≡ 0 → ⊥) → Some x ≡ cond b (Some y) (find test (held number l))
          → (Some x ≡ find test (held number l) → number x ≡ 0 → ⊥) → ⊥
      go true s h k = let w : y ≡ x = cc in s (rw w z)
      go false s h k = k h z

-- what a search among the rows held says of the first row that passes, or else of e
module _ {A : Type 0} (number : A → ℕ) (test : A → Bool) (e : A) (l : List A) {o : Option A} (f : o ≡ find test (held number l)) where
  pub is_first : {x : A} → o ≡ Some x → first test e (held number l) ≡ x
  is_first s = first_some number test e (held number l) (sym s ∙ f)

  pub is_there : {x : A} → o ≡ Some x → in_plan (number (first test e (held number l))) ≡ true
  is_there s = there number (sym (is_first s)) (found_used number test e l (sym s ∙ f))

  pub is_gone : number e ≡ 0 → o ≡ None → in_plan (number (first test e (held number l))) ≡ false
  is_gone z s = gone number (sym (first_none number test e (held number l) (sym s ∙ f))) z

  pub found_there : number e ≡ 0 → is_some o ≡ in_plan (number (first test e (held number l)))
  found_there z = go o refl
    where
      go : (p : Option A) → o ≡ p → is_some p ≡ in_plan (number (first test e (held number l)))
      go None s = sym (is_gone z s)
      go (Some x) s = sym (is_there s)

-- a number that is judged: what an answer tells of it
pub judged_good : (n : ℕ) → Ok tt ≡ judged n → n ≡ 0
unfolding judged
judged_good n h = by_eq n 0 (λ f z. z) (λ f z. let k : _ = rw f at h in cc)

pub judged_bad : {e : Reason} (n : ℕ) → Err e ≡ judged n → (n ≡ 0 → ⊥) × (e ≡ reason_numbered n)
unfolding judged
judged_bad n h = by_eq n 0 (λ f z. let k : _ = rw f at h in cc) (λ f z. let k : _ = rw f at h in (z, cc))

pub vid_high : (kind vid : ℕ) → good_vid kind vid ≡ true → vid ≤ 4094
unfolding good_vid
vid_high kind vid h =
    by_eq kind untagged
    (λ e s. let z : vid ≡ 0 = eqb-true vid 0 (rw e at h) in omega arith)
    (λ e s. within_high 1 4094 vid (rw e at h))

-- a flow in range
pub flow_high : (number port kind vid : ℕ) → (not (within 1 32 number) || not (within 1 8 port) || not (good_vid kind vid)) ≡ false
    → (port ≤ 8) × (vid ≤ 4094)
flow_high number port kind vid h =
    let b : _ = neither (not (within 1 32 number) || not (within 1 8 port)) (not (good_vid kind vid)) h in
    let d : _ = neither (not (within 1 32 number)) (not (within 1 8 port)) b.0 in
    (within_high 1 8 port (not-false (within 1 8 port) d.1), vid_high kind vid (not-false (good_vid kind vid) b.1))

-- an MP in range
pub level_high : (flow level : ℕ) → (not (within 1 32 flow) || not (within 0 7 level)) ≡ false → level ≤ 7
level_high flow level h =
    within_high 0 7 level (not-false (within 0 7 level) (neither (not (within 1 32 flow)) (not (within 0 7 level)) h).1)
