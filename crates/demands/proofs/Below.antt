-- Laws of the numbers below n that pass a test: how many there are, and the least.
use mathlib.Core.Path.{◌≡◌, refl}
use mathlib.Core.Bool.{Bool, true, false}
use Prim.Native.Nat.{ℕ, zero, suc, ◌<◌}
use native.Mathlib.Omega.{arith}
use borrow.Author.Tests.{lt-ltb, le-ltb}
use Rattle.octets.proofs.Cases.{by_eq}
use Rattle.demands.specs.World.{counted, least}

pub counted_none : (n : ℕ) → counted (λ k. false) n ≡ 0
unfolding counted
counted_none zero = refl
counted_none (suc n) = rw (counted_none n)

-- tests that agree below n
module _ (f g : ℕ → Bool) where
  pub counted_same : (n : ℕ) → ((k : ℕ) → k < n → f k ≡ g k) → counted f n ≡ counted g n
  unfolding counted
  counted_same zero h = refl
  counted_same (suc n) h = rw (counted_same n (λ k low. h k (omega arith)), h n (omega arith))

  -- f takes one more than g
  pub counted_one : (n k : ℕ) → k < n → f k ≡ true → g k ≡ false → ((j : ℕ) → (j ≡ k → ⊥) → f j ≡ g j)
      → counted f n ≡ suc (counted g n)
  unfolding counted
  counted_one zero k low p q r = absurd (omega arith)
  counted_one (suc n) k low p q r =
      by_eq n k
      (λ e same. rw (counted_same n (λ j less. r j (λ z. omega arith)), same, p, q) (omega arith))
      (λ e other. rw (counted_one n k (omega arith) p q r, r n other) (omega arith))

-- the least number that passes
module _ (f : ℕ → Bool) where
  pub least_none : (n : ℕ) → ((k : ℕ) → k < n → f k ≡ false) → least f n ≡ n
  unfolding least
  least_none zero h = refl
  least_none (suc n) h = rw (least_none n (λ k low. h k (omega arith)), le-ltb n n (omega arith), h n (omega arith))

  pub least_one : (n k : ℕ) → k < n → f k ≡ true → ((j : ℕ) → j < k → f j ≡ false) → least f n ≡ k
  unfolding least
  least_one zero k low p r = absurd (omega arith)
  least_one (suc n) k low p r =
      by_eq n k
      (λ e same.
      let none : least f n ≡ n = least_none n (λ j less. r j (omega arith)) in
      let here : f n ≡ true = rw same p in
      rw (none, le-ltb n n (omega arith), here) same)
      (λ e other.
      let before : least f n ≡ k = least_one n k (omega arith) p r in
      rw (before, lt-ltb k n (omega arith)))
