-- The addresses of the ports' rows from row i on, read one by one: what a turn of the two loops does.
use mathlib.Core.Path.{◌≡◌, refl, sym, ◌∙◌}
use mathlib.Core.Bool.{Bool, true, false}
use mathlib.Core.List.{List, [], ◌∷◌, map}
use Prim.Native.Nat.{ℕ, suc, ◌+◌, ◌-◌, ◌*◌, ◌<◌, ◌≤◌}
use native.Mathlib.Omega.{arith}
use lib.Dec.{eqb}
use lib.ListN.{drop}
use borrow.Author.Tests.{eq-eqb, ne_eqb}
use Rattle.octets.specs.Octets.{low_number}
use Rattle.octets.specs.Lists.{some, distinct}
use Rattle.state.specs.Image.{port_in, rows_in}
use Rattle.state_tables.proofs.TurnLaws.{next_row}

abbrev pub addresses : ℕ → List ℕ → List ℕ
addresses i t = map (λ p. p.address) (rows_in (8 - i) 16 port_in (drop (i * 16) t))

none_left : (i : ℕ) (t : List ℕ) → 8 ≤ i → addresses i t ≡ []
unfolding rows_in
none_left i t h = let z : 8 - i ≡ 0 = omega arith in rw z

-- k is the number that the first octets of row i spell
module _ (i : ℕ) (t : List ℕ) {k : ℕ} (h : i < 8) (read : k ≡ low_number 8 (drop (i * 16) t)) where
  one : 8 - i ≡ suc (8 - (i + 1))
  one = omega arith

  no_more : k ≡ 0 → addresses i t ≡ []
  unfolding rows_in
  no_more e = simp (one, eq-eqb (low_number 8 (drop (i * 16) t)) 0 (sym read ∙ e))

  one_more : (k ≡ 0 → ⊥) → addresses i t ≡ low_number 6 (drop (i * 16) t) ∷ addresses (i + 1) t
  unfolding rows_in port_in
  one_more n = simp (one, next_row, ne_eqb (low_number 8 (drop (i * 16) t)) 0 (λ z. n (read ∙ z)))

-- is an address there again?
pub again_done : (address i : ℕ) (t : List ℕ) {X : Bool} → some (eqb address) (addresses i t) ≡ X → 8 ≤ i → false ≡ X
unfolding some
again_done address i t inv h = rw (none_left i t h) at inv

module _ (address i : ℕ) (t : List ℕ) {k : ℕ} {X : Bool} (inv : some (eqb address) (addresses i t) ≡ X) (h : i < 8)
    (read : k ≡ low_number 8 (drop (i * 16) t)) where
  pub again_end : k ≡ 0 → false ≡ X
  unfolding some
  again_end e = rw (no_more i t h read e) at inv

  module _ (n : k ≡ 0 → ⊥) {a : ℕ} (same : a ≡ low_number 6 (drop (i * 16) t)) where
    here : some (eqb address) (low_number 6 (drop (i * 16) t) ∷ addresses (i + 1) t) ≡ X
    here = rw (one_more i t h read n) at inv

    pub again_hit : a ≡ address → true ≡ X
    unfolding some
    again_hit e = rw (← same, e, eq-eqb address address refl) at here

    pub again_next : (a ≡ address → ⊥) → some (eqb address) (addresses (i + 1) t) ≡ X
    unfolding some
    again_next e = rw (← same, ne_eqb address a (λ z. e (sym z))) at here

-- do the addresses differ?
pub differ_done : (i : ℕ) (t : List ℕ) {X : Bool} → distinct (addresses i t) ≡ X → 8 ≤ i → true ≡ X
unfolding distinct
differ_done i t inv h = rw (none_left i t h) at inv

module _ (i : ℕ) (t : List ℕ) {k : ℕ} {X : Bool} (inv : distinct (addresses i t) ≡ X) (h : i < 8)
    (read : k ≡ low_number 8 (drop (i * 16) t)) where
  pub differ_end : k ≡ 0 → true ≡ X
  unfolding distinct
  differ_end e = rw (no_more i t h read e) at inv

  -- r: is the row's address there again behind it?
  module _ (n : k ≡ 0 → ⊥) {a : ℕ} {r : Bool} (same : a ≡ low_number 6 (drop (i * 16) t))
      (again : r ≡ some (eqb a) (addresses (i + 1) t)) where
    first : distinct (low_number 6 (drop (i * 16) t) ∷ addresses (i + 1) t) ≡ X
    first = rw (one_more i t h read n) at inv

    pub differ_twice : r ≡ true → false ≡ X
    unfolding distinct
    differ_twice e = rw (← same, ← again, e) at first

    pub differ_next : r ≡ false → distinct (addresses (i + 1) t) ≡ X
    unfolding distinct
    differ_next e = rw (← same, ← again, e) at first
