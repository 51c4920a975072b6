-- Bits octet by octet: a mask of the same octet everywhere, applied to a number read from octets.
use mathlib.Core.Path.{◌≡◌, refl, ap, ◌∙◌}
use mathlib.Core.Bool.{cond}
use mathlib.Core.List.{List, [], ◌∷◌}
use Prim.Native.Nat.{ℕ, suc, zero, ◌+◌, ◌*◌, ◌/◌, ◌^◌, ◌<◌, ◌≤◌}
use native.Mathlib.Nat.{add_comm, mod-eq_of_lt}
use native.Mathlib.Omega.{arith}
use lib.Bits.{bit_and, and_block, and_high, and_le_l}
use lib.Dec.{eqb, leb}
use lib.ListN.{length}
use borrow.Author.Tests.{eq-eqb, ne_eqb}
use Rattle.octets.specs.Octets.{low_number}
use Rattle.octets.specs.Lists.{every}
use Rattle.octets.proofs.Cases.{by_le}
use Rattle.octets.proofs.Laws.{Octets}
use Rattle.octets.proofs.LowLaws.{sum_zero}

-- n octets c
unfoldable pub mask : ℕ → ℕ → ℕ
mask zero c = 0
mask (suc n) c = c + mask n c * 256

-- two numbers, each in a part of k bits and one above it
pub and_parts : (k x m c n : ℕ) → x < 2 ^ k → c < 2 ^ k → bit_and (x + m * 2 ^ k) (c + n * 2 ^ k) ≡ bit_and x c + bit_and m n * 2 ^ k
and_parts k x m c n h f = rw (add_comm x (m * 2 ^ k), add_comm c (n * 2 ^ k), and_block k m n x c h f) (add_comm _ _)

-- ---- no octet above 3

odd_octet : (x : ℕ) → x < 256 → eqb (bit_and x 252) 0 ≡ leb x 3
odd_octet x h =
    let small : x / 4 < 64 = omega arith in
    let e : bit_and x 252 ≡ x / 4 * 4 = and_high x 6 2 ∙ ap (λ (q : ℕ). q * 4) (mod-eq_of_lt small) in
    by_le x 3
    (λ t low. rw (t, e) (eq-eqb (x / 4 * 4) 0 (omega arith)))
    (λ t high. rw (t, e) (ne_eqb (x / 4 * 4) 0 (λ z. absurd (omega arith))))

pub odd_none : (l : List ℕ) → Octets l
    → eqb (bit_and (low_number (length l) l) (mask (length l) 252)) 0 ≡ every (λ x. leb x 3) l
unfolding mask low_number every
odd_none [] o = refl
odd_none (x ∷ l) o =
    rw (
      and_parts 8 x (low_number (length l) l) 252 (mask (length l) 252) (o 0) (omega arith),
      sum_zero,
      odd_octet x (o 0),
      odd_none l (λ i. o (suc i)),
    )

-- ---- an octet of 4 for each octet that is not 0

-- the mark of an octet
abbrev pub mark_of : ℕ → ℕ
mark_of x = cond (leb 1 x) 4 0

mark_octet : (x : ℕ) → x ≤ 3 → bit_and (bit_and x 3 + 3) 4 ≡ mark_of x
mark_octet zero h = refl
mark_octet (suc zero) h = refl
mark_octet (suc (suc zero)) h = refl
mark_octet (suc (suc (suc zero))) h = refl
mark_octet (suc (suc (suc (suc x)))) h = absurd (omega arith)

abbrev pub marks : ℕ → ℕ → ℕ
marks n x = bit_and (bit_and x (mask n 3) + mask n 3) (mask n 4)

pub marks_octets : (n x m : ℕ) → x ≤ 3 → marks (suc n) (x + m * 256) ≡ mark_of x + marks n m * 256
unfolding mask
marks_octets n x m h =
    let y : ℕ = bit_and x 3 in
    let low : y ≤ x = and_le_l x 3 in
    let k : ℕ = bit_and m (mask n 3) in
    let e : y + k * 256 + (3 + mask n 3 * 256) ≡ y + 3 + (k + mask n 3) * 256 = omega arith in
    rw (
      and_parts 8 x m 3 (mask n 3) (omega arith) (omega arith),
      e,
      and_parts 8 (y + 3) (k + mask n 3) 4 (mask n 4) (omega arith) (omega arith),
      mark_octet x h,
    )
