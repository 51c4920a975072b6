-- The places of the flow numbers: each row's number leads to its own place, and as many places are used as there are rows,
-- exactly when the numbers are distinct and the places are those of the flows.
use mathlib.Core.Path.{◌≡◌, refl, sym, ap, ◌∙◌}
use mathlib.Core.Bool.{Bool, true, false, ◌&&◌, not, or-true, false≢true}
use mathlib.Core.List.{List, [], ◌∷◌}
use Prim.Native.Nat.{ℕ, ◌+◌, ◌-◌, ◌<◌, ◌≤◌}
use native.Mathlib.Omega.{arith}
use lib.Dec.{eqb, leb}
use lib.ListN.{length, get_or, get_or-eq_default}
use borrow.Author.Tests.{eqb-true, eq-eqb, not-true}
use Rattle.octets.specs.Octets.{same}
use Rattle.octets.specs.Lists.{within, every, some, count, distinct}
use Rattle.octets.proofs.Same.{both_true, same_equal, same_self}
use Rattle.octets.proofs.Cases.{by_eq, by_le}
use Rattle.octets.proofs.ListLaws.{within_low, within_high}
use Rattle.plan.specs.declared.Flow.{Flow}
use Rattle.state.specs.Image.{place_from, places}
use Rattle.state_tables.proofs.Tests.{pass_same}
use Rattle.state_tables.proofs.Used.{used, places_from_lem, all_used, Agrees, equal_used}
use Rattle.state.proofs.ImageParts.{places_length}
use Rattle.state.proofs.FlowPlaces.{numbers, place_at}

-- does each flow's number lead to its place, from p on?
unfoldable pub placed : (ℕ → ℕ) → ℕ → List Flow → Bool
placed at p [] = true
placed at p (f ∷ fs) = eqb (at f.number) p && placed at (p + 1) fs

-- ---- a number leads to one place only

module _ (at : ℕ → ℕ) where
  agrees : (p n : ℕ) (fs : List Flow) → placed at p fs ≡ true → (place_from n p fs ≡ 0 → ⊥) → at n ≡ place_from n p fs
  unfolding placed place_from
  agrees p n [] e some = absurd (some refl)
  agrees p n (f ∷ fs) e some =
      let b : _ = both_true (eqb (at f.number) p) (placed at (p + 1) fs) e in
      by_eq f.number n
      (λ t here. rw (t, ← here) (eqb-true (at f.number) p b.0))
      (λ t other. rw t (agrees (p + 1) n fs b.1 (rw t at some)))

  once : (p q n : ℕ) (fs : List Flow) → placed at p fs ≡ true → at n ≡ q → q < p → some (eqb n) (numbers fs) ≡ false
  unfolding placed some
  once p q n [] e a h = refl
  once p q n (f ∷ fs) e a h =
      let b : _ = both_true (eqb (at f.number) p) (placed at (p + 1) fs) e in
      by_eq n f.number
      (λ t here. absurd (omega (arith, rw (← here) at (eqb-true (at f.number) p b.0))))
      (λ t other. rw t (once (p + 1) q n fs b.1 a (omega arith)))

  placed_distinct : (p : ℕ) (fs : List Flow) → placed at p fs ≡ true → distinct (numbers fs) ≡ true
  unfolding placed distinct
  placed_distinct p [] e = refl
  placed_distinct p (f ∷ fs) e =
      let b : _ = both_true (eqb (at f.number) p) (placed at (p + 1) fs) e in
      let here : at f.number ≡ p = eqb-true (at f.number) p b.0 in
      rw (once (p + 1) p f.number fs b.1 here (omega arith)) (placed_distinct (p + 1) fs b.1)

  distinct_placed : (p : ℕ) (fs : List Flow) → distinct (numbers fs) ≡ true
      → ((n : ℕ) → some (eqb n) (numbers fs) ≡ true → at n ≡ place_from n p fs) → placed at p fs ≡ true
  unfolding placed distinct place_from some
  distinct_placed p [] d h = refl
  distinct_placed p (f ∷ fs) d h =
      let b : _ = both_true (not (some (eqb f.number) (numbers fs))) (distinct (numbers fs)) d in
      let alone : some (eqb f.number) (numbers fs) ≡ false = not-true (some (eqb f.number) (numbers fs)) b.0 in
      let self : eqb f.number f.number ≡ true = eq-eqb f.number f.number refl in
      let here : at f.number ≡ p = rw self at (h f.number (rw self)) in
      let more : (n : ℕ) → some (eqb n) (numbers fs) ≡ true → at n ≡ place_from n (p + 1) fs
      = λ n s. by_eq f.number n (λ t twice. absurd (false≢true (sym alone ∙ rw (← twice) at s)))
      (λ t other. rw t at (h n (rw s (or-true (eqb n f.number))))) in
      rw (eq-eqb (at f.number) p here) (distinct_placed (p + 1) fs b.1 more)

-- ---- the law

among : (n : ℕ) (l : List ℕ) → every (within 1 32) l ≡ true → some (eqb n) l ≡ true → within 1 32 n ≡ true
unfolding every some
among n [] w s = absurd (false≢true s)
among n (x ∷ l) w s =
    let b : _ = both_true (within 1 32 x) (every (within 1 32) l) w in
    by_eq n x (λ t here. rw here b.0) (λ t other. among n l b.1 (rw t at s))

module _ (at : ℕ → ℕ) (pl : List ℕ) (fs : List Flow) (long : length pl ≡ 32)
    (told : (i : ℕ) → i < 32 → at (1 + i) ≡ get_or pl i 0) (within-32 : every (within 1 32) (numbers fs) ≡ true) where
  counted : distinct (numbers fs) ≡ true → used (places 32 1 fs) ≡ length fs
  counted d = rw places_from_lem (all_used 1 fs (omega arith) d within-32)

  agree : placed at 1 fs ≡ true → Agrees pl (places 32 1 fs)
  agree e i some =
      by_le 32 i
      (λ t out. absurd (some (get_or-eq_default (places 32 1 fs) 0 (omega (arith, places_length 32 1 fs)))))
      (λ t in-it.
      let p : _ = place_at 32 1 i fs in-it in
      sym (told i in-it) ∙ agrees at 1 (1 + i) fs e (λ z. some (p ∙ z)) ∙ sym p)

  leads : pl ≡ places 32 1 fs → (n : ℕ) → some (eqb n) (numbers fs) ≡ true → at n ≡ place_from n 1 fs
  leads e n s =
      let w : _ = among n (numbers fs) within-32 s in
      let low : 1 ≤ n = within_low 1 32 n w in
      let high : n ≤ 32 = within_high 1 32 n w in
      let k : 1 + (n - 1) ≡ n = omega arith in
      rw k at (told (n - 1) (omega arith) ∙ ap (λ (l : List ℕ). get_or l (n - 1) 0) e ∙ place_at 32 1 (n - 1) fs (omega arith))

  pub places_law : (placed at 1 fs && eqb (length fs) (count (leb 1) pl)) ≡ (distinct (numbers fs) && same (places 32 1 fs) pl)
  places_law =
      pass_same (placed at 1 fs && eqb (length fs) (used pl)) (distinct (numbers fs) && same (places 32 1 fs) pl)
      (λ h.
      let b : _ = both_true (placed at 1 fs) (eqb (length fs) (used pl)) h in
      let d : distinct (numbers fs) ≡ true = placed_distinct at 1 fs b.0 in
      let n : length fs ≡ used pl = eqb-true (length fs) (used pl) b.1 in
      let e : pl ≡ places 32 1 fs
      = equal_used pl (places 32 1 fs) (omega (arith, places_length 32 1 fs)) (agree b.0) (omega (arith, counted d)) in
      rw (d, e) (same_self (places 32 1 fs)))
      (λ h.
      let b : _ = both_true (distinct (numbers fs)) (same (places 32 1 fs) pl) h in
      let e : pl ≡ places 32 1 fs = sym (same_equal (places 32 1 fs) pl b.1) in
      let n : length fs ≡ used pl = sym (counted b.0) ∙ ap used (sym e) in
      rw (distinct_placed at 1 fs b.0 (leads e), eq-eqb (length fs) (used pl) n))
