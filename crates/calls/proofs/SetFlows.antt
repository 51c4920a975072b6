-- The flow that is found by a frame set is the one of its number, and has just that set.
use mathlib.Core.Path.{◌≡◌, refl}
use mathlib.Core.Bool.{Bool, true, false, cond, not, ◌&&◌, ◌||◌}
use mathlib.Core.List.{List, [], ◌∷◌, map}
use Prim.Native.Nat.{ℕ, ◌*◌, ◌+◌, ◌<◌, ◌^◌}
use native.Mathlib.Omega.{arith}
use lib.Dec.{eqb}
use borrow.Author.Tests.{eqb-true, leb-true, eq-eqb, not-true}
use Rattle.octets.specs.Lists.{within, every, some, first, distinct}
use Rattle.octets.proofs.Same.{both_true}
use Rattle.octets.proofs.ListLaws.{neither, within_high}
use Rattle.codec.specs.declared.FrameSet.{FrameSet}
use Rattle.codec.specs.FrameSet.{uni, enni, untagged, c_tagged, s_tagged}
use Rattle.plan.specs.declared.Flow.{Flow}
use Rattle.plan.specs.Plan.{Plan, no_flow, flow_numbered, flow_of_set, set_key, flow_key, in_plan}
use Rattle.plan.specs.Plan.{good_vid, good_kind, good_flow, keeps_rules}
use Rattle.plan.proofs.Kept.{GoodFlow, good_flow_lem, Kept, rules}

-- what is found by a test, among elements of distinct numbers
module _ {A : Type 0} (number : A → ℕ) (other : A) (none : number other ≡ 0) (test : A → Bool) where
  abbrev found : List A → A
  found xs = first test other xs

  abbrev There : List A → Type 0
  There xs = in_plan (number (found xs)) ≡ true

  nothing : {B : Type 0} → in_plan (number other) ≡ true → B
  unfolding in_plan
  nothing h = absurd (omega (arith, none, leb-true 1 (number other) h))

  -- it passes that test and what each passes
  pub found_passes : (told : A → Bool) (xs : List A) → every told xs ≡ true → There xs
      → (test (found xs) ≡ true) × (told (found xs) ≡ true)
  unfolding first every
  found_passes told [] a h = nothing h
  found_passes told (x ∷ xs) a h =
      let b : _ = both_true (told x) (every told xs) a in
      go (test x) refl b.0 h (found_passes told xs b.1)
    where
      go : (t : Bool) → test x ≡ t → told x ≡ true → in_plan (number (cond t x (found xs))) ≡ true
          → (There xs → (test (found xs) ≡ true) × (told (found xs) ≡ true))
          → (test (cond t x (found xs)) ≡ true) × (told (cond t x (found xs)) ≡ true)
      go true e p h r = (e, p)
      go false e p h r = r h

  -- its number is none that is not there
  found_apart : (k : ℕ) (xs : List A) → some (eqb k) (map number xs) ≡ false → There xs → eqb k (number (found xs)) ≡ false
  unfolding first some
  found_apart k [] a h = nothing h
  found_apart k (x ∷ xs) a h =
      let b : _ = neither (eqb k (number x)) (some (eqb k) (map number xs)) a in
      go (test x) b.0 h (found_apart k xs b.1)
    where
      go : (t : Bool) → eqb k (number x) ≡ false → in_plan (number (cond t x (found xs))) ≡ true
          → (There xs → eqb k (number (found xs)) ≡ false) → eqb k (number (cond t x (found xs))) ≡ false
      go true n h r = n
      go false n h r = r h

  -- and by its number it is found again
  pub found_again : (xs : List A) → distinct (map number xs) ≡ true → There xs
      → first (λ x. eqb (number x) (number (found xs))) other xs ≡ found xs
  unfolding first distinct
  found_again [] d h = nothing h
  found_again (x ∷ xs) d h =
      let b : _ = both_true (not (some (eqb (number x)) (map number xs))) (distinct (map number xs)) d in
      go (test x) (not-true (some (eqb (number x)) (map number xs)) b.0) h (found_again xs b.1)
    where
      go : (t : Bool) → some (eqb (number x)) (map number xs) ≡ false → in_plan (number (cond t x (found xs))) ≡ true
          → (There xs → first (λ y. eqb (number y) (number (found xs))) other xs ≡ found xs)
          → first (λ y. eqb (number y) (number (cond t x (found xs)))) other (x ∷ xs) ≡ cond t x (found xs)
      go true n h r = rw (eq-eqb (number x) (number x) refl)
      go false n h r = rw (found_apart (number x) xs n h) (r h)

-- ---- a flow

pub kind_small : (kind port : ℕ) → good_kind kind port ≡ true → kind < 256
unfolding good_kind
kind_small kind port h = go (eqb kind untagged) (eqb kind c_tagged) (eqb kind s_tagged) refl refl refl h
  where
    go : (u c s : Bool) → eqb kind untagged ≡ u → eqb kind c_tagged ≡ c → eqb kind s_tagged ≡ s
        → (u || (c && eqb port uni) || (s && eqb port enni)) ≡ true → kind < 256
    go true c s eu ec es h = omega (arith, eqb-true kind untagged eu)
    go false true s eu ec es h = omega (arith, eqb-true kind c_tagged ec)
    go false false true eu ec es h = omega (arith, eqb-true kind s_tagged es)
    go false false false eu ec es h = let z : ◌≡◌ {A = ℕ} 0 1 = cc in absurd (omega arith)

pub vid_small : (kind vid : ℕ) → good_vid kind vid ≡ true → vid < 65536
unfolding good_vid
vid_small kind vid h = go (eqb kind untagged) h
  where
    go : (b : Bool) → cond b (eqb vid 0) (within 1 4094 vid) ≡ true → vid < 65536
    go true e = omega (arith, eqb-true vid 0 e)
    go false e = omega (arith, within_high 1 4094 vid e)

pub record OfSet (plan : Plan) (set : FrameSet) (f : Flow) : Type 0 where
  pub numbered : flow_numbered f.number plan ≡ f
  pub kind_same : f.kind ≡ set.kind
  pub vid_same : f.vid ≡ set.vid

pub of_set : (plan : Plan) (port : ℕ) (set : FrameSet) → keeps_rules plan ≡ true → set.kind < 256 → set.vid < 65536
    → in_plan (flow_of_set port set plan).number ≡ true → OfSet plan set (flow_of_set port set plan)
unfolding flow_of_set flow_numbered flow_key set_key no_flow
of_set plan port set k kinds vids there =
    let r : Kept plan = rules plan k in
    let f : Flow = flow_of_set port set plan in
    let test : Flow → Bool = λ f. eqb (flow_key f) (set_key port set.kind set.vid) in
    let p : _ = found_passes (λ (f : Flow). f.number) no_flow refl test (good_flow plan) plan.flows r.flows_good there in
    let g : GoodFlow plan f = good_flow_lem plan f p.1 in
    let key : f.port * 2 ^ 24 + f.kind * 2 ^ 16 + f.vid ≡ port * 2 ^ 24 + set.kind * 2 ^ 16 + set.vid
    = eqb-true (flow_key f) (set_key port set.kind set.vid) p.0 in
    let kind : f.kind < 256 = kind_small f.kind _ g.kind_fits in
    let vid : f.vid < 65536 = vid_small f.kind f.vid g.vid_fits in
    record {
      numbered = found_again (λ (f : Flow). f.number) no_flow refl test plan.flows r.numbers there;
      kind_same = omega arith;
      vid_same = omega arith;
    }
