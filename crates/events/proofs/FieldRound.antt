-- A number, or octets, that a log's field holds is read back from it.
use mathlib.Core.Path.{◌≡◌, refl}
use mathlib.Core.Bool.{true, false}
use mathlib.Core.List.{List, [], ◌∷◌}
use Prim.Native.Nat.{ℕ, suc, ◌+◌, ◌*◌, ◌/◌, ◌%◌, ◌≤◌}
use native.Mathlib.Omega.{arith}
use lib.Dec.{leb}
use lib.ListN.{length}
use borrow.Author.Tests.{leb-true, le-leb, eq-eqb, ne_eqb}
use Rattle.octets.specs.Octets.{same}
use Rattle.octets.specs.Lists.{every}
use Rattle.octets.specs.Text.{text}
use Rattle.octets.proofs.Same.{both_true, other_length}
use Rattle.plan.specs.Line.{number_in}
use Rattle.plan.proofs.WrittenNumbers.{decimal_back, decimal_is, high_digit, high_is}
use Rattle.plan.proofs.WrittenFields.{plain, decimal_plain, digit_plain}
use Rattle.plan_lines.specs.Fields.{is_hex}
use Rattle.events.specs.Event.{highest, is_count, is_hexed, unhexed, is_octets, octets_in}
use Rattle.events.specs.AnswerLine.{in_decimal, hexed, in_hex}
use Rattle.events.proofs.Hexes.{hexed_length}

-- a number is read back, its field is one of a number, and has no tab
pub count_back : (x : ℕ) → x ≤ highest → number_in (in_decimal x) ≡ x
unfolding in_decimal
count_back x h = decimal_back 20 x (omega arith)

pub count_is : (x : ℕ) → x ≤ highest → is_count (in_decimal x) ≡ true
unfolding is_count in_decimal
count_is x h = rw (decimal_is 19 x (omega arith), decimal_back 20 x (omega arith), le-leb x highest h)

pub count_plain : (x : ℕ) → plain (in_decimal x) ≡ true
unfolding in_decimal
count_plain x = decimal_plain 20 x

-- octets of at most 255, as `every` tests them
abbrev fit : List ℕ → Type 0
fit l = every (λ (x : ℕ). leb x 255) l ≡ true

-- the digits of octets give them back, are digits, and have no tab
unhexed_hexed : (l : List ℕ) → fit l → unhexed (hexed l) ≡ l
unfolding unhexed hexed every
unhexed_hexed [] h = refl
unhexed_hexed (x ∷ l) h =
    let b : _ = both_true (leb x 255) (every (λ (x : ℕ). leb x 255) l) h in
    let o : x ≤ 255 = leb-true x 255 b.0 in
    let e : x / 16 * 16 + x % 16 ≡ x = omega arith in
    rw (high_digit (x / 16) (omega arith), high_digit (x % 16) (omega arith), unhexed_hexed l b.1, e)

hexed_digits : (l : List ℕ) → fit l → every is_hex (hexed l) ≡ true
unfolding is_hex hexed every
hexed_digits [] h = refl
hexed_digits (x ∷ l) h =
    let b : _ = both_true (leb x 255) (every (λ (x : ℕ). leb x 255) l) h in
    let o : x ≤ 255 = leb-true x 255 b.0 in
    rw (high_is (x / 16) (omega arith), high_is (x % 16) (omega arith)) (hexed_digits l b.1)

hexed_plain : (l : List ℕ) → plain (hexed l) ≡ true
unfolding hexed every
hexed_plain [] = refl
hexed_plain (x ∷ l) = rw (digit_plain (x / 16), digit_plain (x % 16)) (hexed_plain l)

-- one octet or more: the digits, which are not `-`
some_hex : (x : ℕ) (l : List ℕ) → in_hex (x ∷ l) ≡ hexed (x ∷ l)
unfolding in_hex
some_hex x l = rw (ne_eqb (suc (length l)) 0 (λ z. omega arith))

hexed_other : (x : ℕ) (l : List ℕ) → same (hexed (x ∷ l)) (text "-") ≡ false
unfolding hexed text
hexed_other x l = other_length (hexed (x ∷ l)) (text "-") (λ e. omega arith)

-- octets are read back, their field is one of octets, and has no tab
pub octets_back : (l : List ℕ) → fit l → octets_in (in_hex l) ≡ l
unfolding octets_in in_hex same text
octets_back [] h = refl
octets_back (x ∷ l) h = rw (some_hex x l, hexed_other x l) (unhexed_hexed (x ∷ l) h)

pub octets_is : (l : List ℕ) → fit l → is_octets (in_hex l) ≡ true
unfolding is_octets is_hexed in_hex same text
octets_is [] h = refl
octets_is (x ∷ l) h =
    let n : ℕ = suc (length l) in
    rw (
      some_hex x l,
      hexed_other x l,
      hexed_length (x ∷ l),
      le-leb 2 (2 * n) (omega arith),
      eq-eqb (2 * n % 2) 0 (omega arith),
    )
    (hexed_digits (x ∷ l) h)

pub octets_plain : (l : List ℕ) → plain (in_hex l) ≡ true
unfolding in_hex text every
octets_plain [] = refl
octets_plain (x ∷ l) = rw (some_hex x l) (hexed_plain (x ∷ l))
