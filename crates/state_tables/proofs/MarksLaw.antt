-- The marks of the MPs: an octet of 4 for each, added up as one number, and how many there are.
use mathlib.Core.Path.{◌≡◌, refl}
use mathlib.Core.Bool.{Bool, true, cond, ◌&&◌}
use mathlib.Core.List.{List, [], ◌∷◌}
use Prim.Native.Nat.{ℕ, suc, zero, ◌+◌, ◌*◌, ◌/◌, ◌%◌, ◌<◌, ◌≤◌}
use native.Mathlib.Omega.{arith}
use lib.Dec.{eqb, leb}
use lib.ListN.{length}
use borrow.Author.Tests.{eqb-true, leb-true, le-leb, lt-leb}
use Rattle.octets.specs.Octets.{low_number}
use Rattle.octets.specs.Lists.{within, every, count}
use Rattle.octets.proofs.Cases.{by_le}
use Rattle.octets.proofs.Same.{both_true}
use Rattle.plan.specs.declared.Flow.{Flow}
use Rattle.plan.specs.declared.Port.{Port}
use Rattle.plan.specs.Plan.{Plan, mip, port_numbered, in_plan, good_kind, good_vid, good_flow, mps_of, mp_count}
use Rattle.state_tables.specs.Pass.{marks_of, octet_sum}
use Rattle.state_tables.proofs.BitLaws.{mask, mark_of, marks, marks_octets}

-- none of the n lowest octets is above c
abbrev Below : ℕ → ℕ → ℕ → Type 0
Below zero c x = Unit {0}
Below (suc n) c x = (x % 256 ≤ c) × Below n c (x / 256)

none_below : (n : ℕ) → Below n 0 0
none_below zero = tt
none_below (suc n) = (omega arith, none_below n)

module _ (c d : ℕ) (h : c + d < 256) where
  sum_below : (n x y : ℕ) → Below n c x → Below n d y → Below n (c + d) (x + y)
  sum_below zero x y p q = tt
  sum_below (suc n) x y p q =
      let a : x % 256 ≤ c = p.0 in
      let b : y % 256 ≤ d = q.0 in
      let high : (x + y) / 256 ≡ x / 256 + y / 256 = omega arith in
      (omega arith, rw high (sum_below n (x / 256) (y / 256) p.1 q.1))

  sum_octets : (n x y : ℕ) → Below n c x → Below n d y → octet_sum n (x + y) ≡ octet_sum n x + octet_sum n y
  unfolding octet_sum
  sum_octets zero x y p q = refl
  sum_octets (suc n) x y p q =
      let a : x % 256 ≤ c = p.0 in
      let b : y % 256 ≤ d = q.0 in
      let high : (x + y) / 256 ≡ x / 256 + y / 256 = omega arith in
      rw (high, sum_octets n (x / 256) (y / 256) p.1 q.1) (omega arith)

-- ---- one flow's

marked : (x m : ℕ) → ((mark_of x + m * 256) % 256 ≡ mark_of x) × ((mark_of x + m * 256) / 256 ≡ m)
marked x m = by_le 1 x (λ e h. rw e (omega arith, omega arith)) (λ e h. rw e (omega arith, omega arith))

mark_small : (x : ℕ) → mark_of x ≤ 4
mark_small x = by_le 1 x (λ e h. rw e (omega arith)) (λ e h. rw e (omega arith))

mark_count : (x : ℕ) → mark_of x ≡ cond (leb 1 x) 1 0 * 4
mark_count x = by_le 1 x (λ e h. rw e refl) (λ e h. rw e refl)

marks_below : (l : List ℕ) → every (λ x. leb x 3) l ≡ true → Below (length l) 4 (marks (length l) (low_number (length l) l))
unfolding low_number every
marks_below [] e = tt
marks_below (x ∷ l) e =
    let b : _ = both_true (leb x 3) (every (λ x. leb x 3) l) e in
    let n : ℕ = length l in
    let m : ℕ = marks n (low_number n l) in
    rw (marks_octets n x (low_number n l) (leb-true x 3 b.0), (marked x m).0, (marked x m).1) (mark_small x, marks_below l b.1)

marks_sum : (l : List ℕ) → every (λ x. leb x 3) l ≡ true
    → octet_sum (length l) (marks (length l) (low_number (length l) l)) ≡ count (leb 1) l * 4
unfolding low_number every octet_sum count
marks_sum [] e = refl
marks_sum (x ∷ l) e =
    let b : _ = both_true (leb x 3) (every (λ x. leb x 3) l) e in
    let n : ℕ = length l in
    let m : ℕ = marks n (low_number n l) in
    rw (marks_octets n x (low_number n l) (leb-true x 3 b.0), (marked x m).0, (marked x m).1, marks_sum l b.1)
    (omega (arith, mark_count x))

-- ---- all flows'

-- marks, with those of these flows added
unfoldable pub all_marks : ℕ → List Flow → ℕ
all_marks m [] = m
all_marks m (f ∷ fs) = all_marks (m + marks_of (low_number 8 f.mps)) fs

module _ (plan : Plan) where
  levels : (f : Flow) → good_flow plan f ≡ true → (length f.mps ≡ 8) × (every (λ mp. leb mp mip) f.mps ≡ true)
  unfolding good_flow
  levels f e =
      let p : Port = port_numbered f.port plan in
      let set : Bool = within 1 32 f.number && in_plan p.number && good_kind f.kind p.kind in
      let rest : Bool = set && good_vid f.kind f.vid in
      let eight : Bool = eqb (length f.mps) 8 in
      let t : _ = both_true (rest && eight) (every (λ mp. leb mp mip) f.mps) e in
      (eqb-true (length f.mps) 8 (both_true rest eight t.0).1, t.1)

  flow_marks : (f : Flow) → good_flow plan f ≡ true
      → (octet_sum 8 (marks_of (low_number 8 f.mps)) ≡ mps_of f * 4) × Below 8 4 (marks_of (low_number 8 f.mps))
  unfolding marks_of mask mps_of
  flow_marks f e =
      let t : _ = levels f e in
      (rw t.0 at (marks_sum f.mps t.1), rw t.0 at (marks_below f.mps t.1))

  -- the marks of so many flows more, where at most k flows' are there
  marks_from : (m k : ℕ) (fs : List Flow) → every (good_flow plan) fs ≡ true → Below 8 (k * 4) m → k + length fs ≤ 32
      → octet_sum 8 (all_marks m fs) ≡ octet_sum 8 m + mp_count fs * 4
  unfolding every all_marks mp_count
  marks_from m k [] e b h = omega arith
  marks_from m k (f ∷ fs) e b h =
      let t : _ = both_true (good_flow plan f) (every (good_flow plan) fs) e in
      let x : ℕ = marks_of (low_number 8 f.mps) in
      let one : _ = flow_marks f t.0 in
      let small : k * 4 + 4 < 256 = omega arith in
      let four : suc k * 4 ≡ k * 4 + 4 = omega arith in
      let b' : Below 8 (suc k * 4) (m + x) = rw four (sum_below (k * 4) 4 small 8 m x b one.1) in
      rw (
        marks_from (m + x) (suc k) fs t.1 b' (omega arith),
        sum_octets (k * 4) 4 small 8 m x b one.1,
        one.0,
      ) (omega arith)

  -- at most 32 MPs, by their marks
  pub marks_law : (fs : List Flow) → every (good_flow plan) fs ≡ true → length fs ≤ 32
      → leb (octet_sum 8 (all_marks 0 fs)) 128 ≡ leb (mp_count fs) 32
  unfolding octet_sum
  marks_law fs e h =
      let c : ℕ = mp_count fs in
      let total : octet_sum 8 (all_marks 0 fs) ≡ c * 4 = omega (arith, marks_from 0 0 fs e (none_below 8) (omega arith)) in
      by_le c 32
      (λ t few. rw (t, total) (le-leb (c * 4) 128 (omega arith)))
      (λ t many. rw (t, total) (lt-leb (c * 4) 128 (omega arith)))
