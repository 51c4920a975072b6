-- The place of a flow's number among the flows, and the row that stands there.
use mathlib.Core.Path.{◌≡◌, refl, sym, ◌∙◌}
use mathlib.Core.Bool.{true, false, cond, not, true≢false, false≢true}
use mathlib.Core.List.{List, [], ◌∷◌, map}
use Prim.Native.Nat.{ℕ, zero, suc, ◌+◌, ◌-◌, ◌*◌, ◌<◌, ◌≤◌}
use native.Mathlib.Omega.{arith}
use lib.Dec.{eqb}
use lib.ListN.{length, get_or, drop}
use lib.Seq.{drop-drop}
use borrow.Author.Tests.{eq-eqb, ne_eqb, le-leb}
use Rattle.octets.specs.Octets.{low_number}
use Rattle.octets.specs.Lists.{within, every, some, first}
use Rattle.octets.proofs.Cases.{by_eq}
use Rattle.octets.proofs.Same.{both_true}
use Rattle.plan.specs.declared.Flow.{Flow}
use Rattle.plan.specs.Plan.{no_flow, in_plan}
use Rattle.state.specs.Image.{rows_in, place_from, places, flow_in}

abbrev pub numbers : List Flow → List ℕ
numbers fs = map (λ f. f.number) fs

pub no_place : (n p : ℕ) (fs : List Flow) → some (eqb n) (numbers fs) ≡ false → place_from n p fs ≡ 0
unfolding some place_from
no_place n p [] e = refl
no_place n p (f ∷ fs) e =
    by_eq f.number n
    (λ t here. absurd (false≢true (sym e ∙ rw (eq-eqb n f.number (sym here)))))
    (λ t other. let r : _ = rw (ne_eqb n f.number (λ z. other (sym z))) at e in rw t (no_place n (p + 1) fs r))

-- a place is 0, or it counts from the first place, s, and stays within the flows
pub place_bounds : (n s : ℕ) (fs : List Flow) → (place_from n s fs ≡ 0 → ⊥)
    → (s ≤ place_from n s fs) × (place_from n s fs < s + length fs)
unfolding place_from
place_bounds n s [] some = absurd (some refl)
place_bounds n s (f ∷ fs) some =
    by_eq f.number n
    (λ e here. simp e ((omega arith, omega arith)))
    (λ e other.
    let b : _ = place_bounds n (s + 1) fs (simp e at some) in
    simp e ((omega arith, omega arith)))

-- a number has a place when a flow has it
pub place_in : (n s : ℕ) (fs : List Flow) → 1 ≤ n → 1 ≤ s
    → eqb (place_from n s fs) 0 ≡ not (in_plan (first (λ f. eqb f.number n) no_flow fs).number)
unfolding place_from first in_plan no_flow
place_in n s [] hn hs = refl
place_in n s (f ∷ fs) hn hs =
    by_eq f.number n
    (λ e here. simp (e, ne_eqb s 0 (λ z. omega arith), le-leb 1 f.number (omega arith)))
    (λ e other. simp e (place_in n (s + 1) fs hn (omega arith)))

pub place_at : (m s i : ℕ) (fs : List Flow) → i < m → get_or (places m s fs) i 0 ≡ place_from (s + i) 1 fs
unfolding places
place_at zero s i fs h = absurd (omega arith)
place_at (suc m) s zero fs h = let e : s + 0 ≡ s = omega arith in rw e
place_at (suc m) s (suc i) fs h = let e : s + suc i ≡ s + 1 + i = omega arith in rw e (place_at m (s + 1) i fs (omega arith))

-- ---- the row at a place, where the row at l has the place s

unfoldable pub at_place : ℕ → ℕ → List ℕ → Flow
at_place p s l = cond (eqb p 0) no_flow (flow_in (drop ((p - s) * 32) l))

at_next : (p s : ℕ) (l : List ℕ) → ((p ≡ 0 → ⊥) → s + 1 ≤ p) → at_place p s l ≡ at_place p (s + 1) (drop 32 l)
unfolding at_place
at_next p s l low =
    by_eq p 0
    (λ e none. simp e)
    (λ e some.
    let b : _ = low some in
    let m : 32 + (p - (s + 1)) * 32 ≡ (p - s) * 32 = omega arith in
    simp (e, drop-drop, m))

at_first : (s : ℕ) (l : List ℕ) → 1 ≤ s → at_place s s l ≡ flow_in l
unfolding at_place
at_first s l hs = let m : (s - s) * 32 ≡ 0 = omega arith in simp (ne_eqb s 0 (λ z. omega arith), m)

pub place_flow : (n k s : ℕ) (l : List ℕ) → 1 ≤ s
    → let fs = rows_in k 32 flow_in l in
    at_place (place_from n s fs) s l ≡ first (λ f. eqb f.number n) no_flow fs
unfolding rows_in place_from first at_place
place_flow n zero s l hs = refl
place_flow n (suc k) s l hs =
    by_eq (low_number 8 l) 0
    (λ e none. simp e)
    (λ e some.
    by_eq (flow_in l).number n
    (λ d here. simp (e, d) (at_first s l hs))
    (λ d other.
    let fs : List Flow = rows_in k 32 flow_in (drop 32 l) in
    let next : _ = at_next (place_from n (s + 1) fs) s l (λ m. (place_bounds n (s + 1) fs m).0) in
    simp (e, d) (next ∙ place_flow n k (s + 1) (drop 32 l) (omega arith))))

-- ---- numbers within 1 to 32

pub no_number : (n : ℕ) (fs : List Flow) → within 1 32 n ≡ false → every (λ f. within 1 32 f.number) fs ≡ true
    → first (λ f. eqb f.number n) no_flow fs ≡ no_flow
unfolding first every
no_number n [] h e = refl
no_number n (f ∷ fs) h e =
    let b : _ = both_true (within 1 32 f.number) (every (λ g. within 1 32 g.number) fs) e in
    by_eq f.number n
    (λ d here. let w : within 1 32 n ≡ true = rw here at b.0 in absurd (true≢false (sym w ∙ h)))
    (λ d other. simp d (no_number n fs h b.1))
