-- The plan (PLAN) and States and images (IMAGE): questions about lists that several rooms ask.
use Rattle.std.specs.Prelude.{◌≡◌, List, [], ◌∷◌, Bool, true, false, cond, ◌&&◌, ◌||◌, not, ℕ, ◌+◌, eqb, ltb, leb}

-- is x one of low to high?
unfoldable pub within : ℕ → ℕ → ℕ → Bool
within low high x = leb low x && leb x high

module _ {A : Type 0} where
  -- x is one of the elements
  pub data In (x : A) : List A → Type 0 where
    here : {y : A} {l : List A} → x ≡ y → In x (y ∷ l)
    there : {y : A} {l : List A} → In x l → In x (y ∷ l)

  -- does each element pass the test?
  unfoldable pub every : (A → Bool) → List A → Bool
  every test [] = true
  every test (x ∷ l) = test x && every test l

  -- does some element pass the test?
  unfoldable pub some : (A → Bool) → List A → Bool
  some test [] = false
  some test (x ∷ l) = test x || some test l

  -- how many elements pass the test?
  unfoldable pub count : (A → Bool) → List A → ℕ
  count test [] = 0
  count test (x ∷ l) = cond (test x) 1 0 + count test l

  -- the first element that passes the test, or else the one given
  unfoldable pub first : (A → Bool) → A → List A → A
  first test other [] = other
  first test other (x ∷ l) = cond (test x) x (first test other l)

  -- IMAGE-4, STATE-4: do the keys strictly ascend, each above the one before and the first above last? Then no two are the same.
  unfoldable pub ascends : (A → ℕ) → ℕ → List A → Bool
  ascends key last [] = true
  ascends key last (x ∷ l) = ltb last (key x) && ascends key (key x) l

  -- IMAGE-4: x put in before the first element that has a higher key, in place of one that has the same.
  unfoldable pub put : (A → ℕ) → A → List A → List A
  put key x [] = x ∷ []
  put key x (y ∷ l) = cond (ltb (key y) (key x)) (y ∷ put key x l) (cond (eqb (key y) (key x)) (x ∷ l) (x ∷ y ∷ l))

  -- the list without the elements that have this key
  unfoldable pub without : (A → ℕ) → ℕ → List A → List A
  without key k [] = []
  without key k (y ∷ l) = cond (eqb (key y) k) (without key k l) (y ∷ without key k l)

-- PLAN-10, PLAN-11: is no number there twice?
unfoldable pub distinct : List ℕ → Bool
distinct [] = true
distinct (x ∷ l) = not (some (eqb x) l) && distinct l
