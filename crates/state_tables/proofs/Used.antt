-- The places of the flow numbers: how many are used, and two lists of places compared.
use mathlib.Core.Path.{◌≡◌, refl, ap, ◌∙◌}
use mathlib.Core.Bool.{true, not}
use mathlib.Core.List.{List, [], ◌∷◌}
use Prim.Native.Nat.{ℕ, suc, zero, ◌+◌, ◌<◌, ◌≤◌}
use native.Mathlib.Omega.{arith}
use lib.Dec.{eqb, leb}
use lib.ListN.{length, get_or}
use borrow.Author.Tests.{ne_eqb, le-leb, not-true}
use Rattle.octets.specs.Lists.{within, every, some, count, distinct}
use Rattle.octets.proofs.Same.{both_true}
use Rattle.octets.proofs.Cases.{by_eq, by_le}
use Rattle.octets.proofs.ListLaws.{within_low, within_high}
use Rattle.plan.specs.declared.Flow.{Flow}
use Rattle.state.specs.Image.{place_from, places}
use Rattle.state.proofs.FlowPlaces.{numbers, no_place}

-- the places from p on
abbrev pub places_from : ℕ → ℕ → ℕ → List Flow → List ℕ
places_from p zero n fs = []
places_from p (suc more) n fs = place_from n p fs ∷ places_from p more (n + 1) fs

pub places_from_lem : (m n : ℕ) (fs : List Flow) → places m n fs ≡ places_from 1 m n fs
unfolding places
places_from_lem zero n fs = refl
places_from_lem (suc m) n fs = rw (places_from_lem m (n + 1) fs)

abbrev pub used : List ℕ → ℕ
used l = count (leb 1) l

none_used : (p m n : ℕ) → used (places_from p m n []) ≡ 0
unfolding count place_from
none_used p zero n = refl
none_used p (suc m) n = omega (arith, none_used p m (n + 1))

module _ (f : Flow) (fs : List Flow) (p : ℕ) where
  -- a flow whose number is not among these
  not_used : (m n : ℕ) → f.number < n → used (places_from p m n (f ∷ fs)) ≡ used (places_from (p + 1) m n fs)
  unfolding count place_from
  not_used zero n h = refl
  not_used (suc m) n h = rw (ne_eqb f.number n (λ z. absurd (omega arith)), not_used m (n + 1) (omega arith))

  once_used : (m n : ℕ) → 1 ≤ p → place_from f.number (p + 1) fs ≡ 0 → n ≤ f.number → f.number < n + m
      → used (places_from p m n (f ∷ fs)) ≡ suc (used (places_from (p + 1) m n fs))
  unfolding count place_from
  once_used zero n some z low high = absurd (omega arith)
  once_used (suc m) n some z low high =
      by_eq f.number n
      (λ t here. let y : place_from n (p + 1) fs ≡ 0 = rw here at z in
      rw (t, y, le-leb 1 p some, not_used m (n + 1) (omega arith)) (omega arith))
      (λ t other. rw (t, once_used m (n + 1) some z (omega arith) (omega arith)) (omega arith))

pub all_used : (p : ℕ) (fs : List Flow) → 1 ≤ p → distinct (numbers fs) ≡ true → every (within 1 32) (numbers fs) ≡ true
    → used (places_from p 32 1 fs) ≡ length fs
unfolding distinct every
all_used p [] h d w = none_used p 32 1
all_used p (f ∷ fs) h d w =
    let b : _ = both_true (not (some (eqb f.number) (numbers fs))) (distinct (numbers fs)) d in
    let c : _ = both_true (within 1 32 f.number) (every (within 1 32) (numbers fs)) w in
    let alone : place_from f.number (p + 1) fs ≡ 0
    = no_place f.number (p + 1) fs (not-true (some (eqb f.number) (numbers fs)) b.0) in
    let low : 1 ≤ f.number = within_low 1 32 f.number c.0 in
    let high : f.number ≤ 32 = within_high 1 32 f.number c.0 in
    once_used f fs p 32 1 h alone low (omega arith) ∙ ap suc (all_used (p + 1) fs (omega arith) b.1 c.1)

-- ---- two lists, one of which agrees with the other wherever the other is not 0

abbrev pub Agrees : List ℕ → List ℕ → Type 0
Agrees a b = (i : ℕ) → (get_or b i 0 ≡ 0 → ⊥) → get_or a i 0 ≡ get_or b i 0

more_used : (a b : List ℕ) → length a ≡ length b → Agrees a b → used b ≤ used a
unfolding count
more_used [] [] e h = omega arith
more_used [] (y ∷ b) e h = absurd (omega arith)
more_used (x ∷ a) [] e h = absurd (omega arith)
more_used (x ∷ a) (y ∷ b) e h =
    let r : used b ≤ used a = more_used a b (omega arith) (λ i. h (suc i)) in
    by_eq y 0 (λ t none. rw none (omega arith)) (λ t some. rw (h 0 some) (omega arith))

pub equal_used : (a b : List ℕ) → length a ≡ length b → Agrees a b → used a ≤ used b → a ≡ b
unfolding count
equal_used [] [] e h u = refl
equal_used [] (y ∷ b) e h u = absurd (omega arith)
equal_used (x ∷ a) [] e h u = absurd (omega arith)
equal_used (x ∷ a) (y ∷ b) e h u =
    let r : used b ≤ used a = more_used a b (omega arith) (λ i. h (suc i)) in
    let head : x ≡ y
    = by_eq y 0
    (λ t none. by_le 1 x (λ s more. let v : _ = rw (none, s) at u in absurd (omega arith)) (λ s less. omega arith))
    (λ t some. h 0 some) in
    let v : _ = rw head at u in
    rw (head, equal_used a b (omega arith) (λ i. h (suc i)) (omega arith))
