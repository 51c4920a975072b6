-- The rows of a plan, or what is made of each, put in up to the first empty one: a turn of the loop.
use mathlib.Core.Path.{◌≡◌, sym, ap, ◌∙◌}
use mathlib.Core.List.{List, [], ◌∷◌}
use Prim.Native.Nat.{ℕ, ◌+◌, ◌*◌, ◌<◌, ◌≤◌}
use native.Mathlib.Omega.{arith}
use lib.ListN.{length, get_or, take, drop}
use lib.Seq.{take_all}
use Rattle.octets.specs.Octets.{splice}
use Rattle.octets.proofs.Over.{splice_splice, splice_none, length_splice}
use Rattle.plan.proofs.HeldLaws.{Rows, rows_none, rows_one, rows_end}
use Rattle.state.specs.Image.{rows}
use Rattle.state.proofs.Cuts.{take_two}
use Rattle.state.proofs.FindLaws.{next_row}

-- eight octets, one by one
pub eight : (l : List ℕ) → length l ≡ 8
    → get_or l 0 0 ∷ get_or l 1 0 ∷ get_or l 2 0 ∷ get_or l 3 0 ∷ get_or l 4 0 ∷ get_or l 5 0 ∷ get_or l 6 0 ∷ get_or l 7 0 ∷ [] ≡ l
eight l e =
    let all : take 8 l ≡ l = take_all 8 l (omega arith) in
    rw (
      take_two 0 6 l (omega arith),
      take_two 2 4 l (omega arith),
      take_two 4 2 l (omega arith),
      take_two 6 0 l (omega arith),
    ) at all

-- how elements are put into octets, from one with a number on
abbrev Put : Type 0 → Type 0
Put A = ℕ → List A → List ℕ → List ℕ

-- before element i, what is left to put makes of b what all of it makes of the octets at the start
pub record Putting {A : Type 0} (put : Put A) (held : List A → List A) (xs : List A) (b₀ b : List ℕ) (i : ℕ) : Type 0 where
  pub long : length b ≡ 4096
  pub left : put i (held (drop i xs)) b ≡ put 0 (held xs) b₀

module _ {A : Type 0} {put : Put A} {number : A → ℕ} {held : List A → List A} {xs : List A} {b₀ b : List ℕ} {i : ℕ}
    (k : Rows number held) (p : Putting put held xs b₀ b i) where
  pub put_done : ((i : ℕ) (b : List ℕ) → put i [] b ≡ b) → length xs ≤ i → b ≡ put 0 (held xs) b₀
  put_done none h = sym (none i b) ∙ (rw (rows_end k xs i h) at p.left)

  module _ (d : A) (h : i < length xs) where
    pub put_stop : ((i : ℕ) (b : List ℕ) → put i [] b ≡ b) → number (get_or xs i d) ≡ 0 → b ≡ put 0 (held xs) b₀
    put_stop none e = sym (none i b) ∙ (rw (rows_none k xs i d h e) at p.left)

    pub put_one : (number (get_or xs i d) ≡ 0 → ⊥) → put i (get_or xs i d ∷ held (drop (i + 1) xs)) b ≡ put 0 (held xs) b₀
    put_one more = rw (rows_one k xs i d h more) at p.left

-- ---- rows of one width

abbrev pub rows_put : {A : Type 0} → (A → List ℕ) → ℕ → ℕ → Put A
rows_put row start width i xs b = splice (start + i * width) (rows row xs) b

module _ {A : Type 0} (row : A → List ℕ) (start width : ℕ) where
  pub from_start : (xs : List A) (b : List ℕ) → rows_put row start width 0 xs b ≡ splice start (rows row xs) b
  from_start xs b =
      let e : start + 0 * width ≡ start = omega arith in
      ap (λ n. splice n (rows row xs) b) e

  pub no_row : (i : ℕ) (b : List ℕ) → rows_put row start width i [] b ≡ b
  unfolding rows
  no_row i b = splice_none (start + i * width) b

  pub row_next : {number : A → ℕ} {held : List A → List A} {xs : List A} {b₀ b w c : List ℕ} {i : ℕ} (k : Rows number held)
      → Putting (rows_put row start width) held xs b₀ b i → (d : A) → i < length xs → (number (get_or xs i d) ≡ 0 → ⊥)
      → w ≡ row (get_or xs i d) → length w ≡ width → c ≡ splice (start + i * width) w b → start + (i + 1) * width ≤ 4096
      → Putting (rows_put row start width) held xs b₀ c (i + 1)
  unfolding rows
  row_next {held = held} {xs = xs} {b = b} {w = w} {i = i} k p d h more ew n ec fit =
      let at : ℕ = start + i * width in
      let rest : List ℕ = rows row (held (drop (i + 1) xs)) in
      let next : start + (i + 1) * width ≡ at + length w = rw (n, next_row) in
      let room : at + length w ≤ length b = omega (arith, p.long) in
      record {
        long = rw ec (length_splice at w b room ∙ p.long);
        left = rw (ec, next, splice_splice at w rest b room, ew) (put_one k p d h more);
      }
