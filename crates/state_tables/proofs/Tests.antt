-- Laws of tests joined by `&&`.
use mathlib.Core.Path.{◌≡◌, refl, sym}
use mathlib.Core.Bool.{Bool, true, false, ◌&&◌, and_assoc}

pub and_left_comm : (a b c : Bool) → (a && (b && c)) ≡ (b && (a && c))
and_left_comm true b c = refl
and_left_comm false true c = refl
and_left_comm false false c = refl

pub and_swap : (a b c d : Bool) → (a && b && (c && d)) ≡ (a && c && (b && d))
and_swap a b c d = simp (and_assoc, and_left_comm)

-- a test behind one that has passed
pub and_when : (a : Bool) {b c : Bool} → (a ≡ true → b ≡ c) → (a && b) ≡ (a && c)
and_when true h = h refl
and_when false h = refl

-- tests that pass together are the same
pub pass_same : (a b : Bool) → (a ≡ true → b ≡ true) → (b ≡ true → a ≡ true) → a ≡ b
pass_same true b f g = sym (f refl)
pass_same false true f g = g refl
pass_same false false f g = refl
