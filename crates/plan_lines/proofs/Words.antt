-- A line by its word, and by the count of its fields.
use mathlib.Core.Path.{◌≡◌, refl}
use mathlib.Core.Bool.{Bool, true, false}
use mathlib.Core.List.{List, [], ◌∷◌}
use Prim.Native.Nat.{ℕ}
use native.Mathlib.Omega.{arith}
use lib.ListN.{length}
use borrow.Author.Tests.{ne_eqb}
use Rattle.octets.specs.Octets.{same}
use Rattle.octets.specs.Text.{text}
use Rattle.plan.specs.Line.{field, as_port, as_flow, as_mp, by_word}
use Rattle.plan_lines.specs.CappedLine.{said}
use Rattle.std.specs.Prelude.{None}

pub by_test : {A : Type 0} (b : Bool) → (b ≡ true → A) → (b ≡ false → A) → A
by_test true t f = t refl
by_test false t f = f refl

-- A line has three fields behind its word, or behind a flow's number.
module _ (fields : List (List ℕ)) (n : length fields ≡ 3 → ⊥) where
  pub no_port : None ≡ said (as_port ([] ∷ fields))
  unfolding as_port said
  no_port = simp (ne_eqb (length {A = List ℕ} ([] ∷ fields)) 4 (λ z. n (omega arith)))

  pub no_flow : (number : List ℕ) → None ≡ said (as_flow ([] ∷ number ∷ fields))
  unfolding as_flow said
  no_flow number = simp (ne_eqb (length {A = List ℕ} ([] ∷ number ∷ fields)) 5 (λ z. n (omega arith)))

  pub no_mp : None ≡ said (as_mp ([] ∷ fields))
  unfolding as_mp said
  no_mp = simp (ne_eqb (length {A = List ℕ} ([] ∷ fields)) 4 (λ z. n (omega arith)))

-- the word itself plays no part
pub port_word : (word : List ℕ) (fields : List (List ℕ)) → as_port (word ∷ fields) ≡ as_port ([] ∷ fields)
unfolding as_port field
port_word word fields = refl

pub flow_word : (word : List ℕ) (fields : List (List ℕ)) → as_flow (word ∷ fields) ≡ as_flow ([] ∷ fields)
unfolding as_flow field
flow_word word fields = refl

pub mp_word : (word : List ℕ) (fields : List (List ℕ)) → as_mp (word ∷ fields) ≡ as_mp ([] ∷ fields)
unfolding as_mp field
mp_word word fields = refl

pub flow_alone : (number : List ℕ) → None ≡ said (as_flow ([] ∷ number ∷ []))
unfolding as_flow said
flow_alone number = refl

module _ (word : List ℕ) where
  pub alone : None ≡ said (by_word (word ∷ []))
  unfolding by_word field as_port as_flow as_mp said
  alone =
      by_test (same word (text "port")) (λ p. simp p)
      (λ p. by_test (same word (text "flow")) (λ f. simp (p, f))
      (λ f. by_test (same word (text "mp")) (λ m. simp (p, f, m)) (λ m. simp (p, f, m))))
