-- Whether a list is a word, by its length and its octets.
use mathlib.Core.Path.{◌≡◌, refl, ◌∙◌}
use mathlib.Core.Bool.{Bool, true, false, ◌&&◌}
use mathlib.Core.List.{List, [], ◌∷◌}
use Prim.Native.Nat.{ℕ, suc}
use native.Mathlib.Omega.{arith}
use lib.Dec.{eqb}
use lib.ListN.{length, get_or}
use borrow.Author.Tests.{eq-eqb, ne_eqb}
use Rattle.octets.specs.Octets.{same}
use Rattle.octets.proofs.Cases.{by_eq}
use Rattle.octets.proofs.ListLaws.{eqb_turn}

-- the octets of a word stand in a list from a place on
abbrev pub spells : List ℕ → ℕ → List ℕ → Bool
spells [] i l = true
spells (x ∷ w) i l = eqb (get_or l i 0) x && spells w (suc i) l

behind : (w : List ℕ) (i y : ℕ) (l : List ℕ) → spells w (suc i) (y ∷ l) ≡ spells w i l
behind [] i y l = refl
behind (x ∷ w) i y l = rw (behind w (suc i) y l)

one_more : (m n : ℕ) → eqb (suc m) (suc n) ≡ eqb m n
one_more m n = by_eq m n (λ e h. rw (e, eq-eqb (suc m) (suc n) (omega arith))) (λ e h. rw (e, ne_eqb (suc m) (suc n) (λ z. h (omega arith))))

same_turned : (w l : List ℕ) → same w l ≡ same l w
unfolding same
same_turned [] [] = refl
same_turned [] (y ∷ l) = refl
same_turned (x ∷ w) [] = refl
same_turned (x ∷ w) (y ∷ l) = rw (eqb_turn x y, same_turned w l)

turned : (p q r : Bool) → p && (q && r) ≡ q && (p && r)
turned true true r = refl
turned true false r = refl
turned false true r = refl
turned false false r = refl

-- the same for a list and a word, and for a word and a list
pub reads_same : (l w : List ℕ) → same l w ≡ eqb (length l) (length w) && spells w 0 l
unfolding same
reads_same [] [] = refl
reads_same (y ∷ l) [] = rw (ne_eqb (length (y ∷ l)) 0 (λ z. omega arith))
reads_same [] (x ∷ w) = rw (ne_eqb 0 (length (x ∷ w)) (λ z. omega arith))
reads_same (y ∷ l) (x ∷ w) =
    rw (reads_same l w, behind w 0 y l, one_more (length l) (length w))
    (turned (eqb y x) (eqb (length l) (length w)) (spells w 0 l))

pub same_reads : (w l : List ℕ) → same w l ≡ eqb (length l) (length w) && spells w 0 l
same_reads w l = same_turned w l ∙ reads_same l w
