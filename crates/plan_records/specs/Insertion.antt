-- Rows changed in place: a row put in before another, each row changed from one on.
use Rattle.std.specs.Prelude.{List, [], ◌∷◌, cond, ℕ, zero, suc, ltb}

module _ {A : Type 0} where
  -- how many elements stand before the place of the key k
  unfoldable pub place_of : (A → ℕ) → ℕ → List A → ℕ
  place_of key k [] = 0
  place_of key k (x ∷ l) = cond (ltb (key x) k) (suc (place_of key k l)) 0

  -- x put in at i, and the elements from there on moved one place on; the last one is dropped
  unfoldable pub inserted : ℕ → A → List A → List A
  inserted i x [] = []
  inserted zero x (y ∷ l) = x ∷ inserted zero y l
  inserted (suc i) x (y ∷ l) = y ∷ inserted i x l

  -- the elements from i on changed
  unfoldable pub changed_from : ℕ → (A → A) → List A → List A
  changed_from i f [] = []
  changed_from zero f (x ∷ l) = f x ∷ changed_from zero f l
  changed_from (suc i) f (x ∷ l) = x ∷ changed_from i f l
