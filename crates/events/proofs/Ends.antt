-- Where the parts of a line end at the latest.
use mathlib.Core.Path.{refl}
use mathlib.Core.List.{List, [], ◌∷◌, ◌++◌}
use Prim.Native.Nat.{ℕ, ◌+◌, ◌*◌, ◌≤◌}
use native.Mathlib.Omega.{arith}
use lib.Dec.{leb}
use lib.ListN.{length, get_or, length-append}
use borrow.Author.Tests.{leb-true}
use Rattle.octets.specs.Lists.{every}
use Rattle.octets.specs.Text.{text}
use Rattle.octets.proofs.Cases.{by_eq}
use Rattle.plan.specs.Line.{tab}
use Rattle.plan.proofs.WrittenFields.{word_passes}
use Rattle.plan.proofs.WrittenText.{decimal_short}
use Rattle.events.specs.AnswerLine.{outcomes, in_decimal, in_hex}
use Rattle.events.specs.Read.{Put}
use Rattle.events.proofs.Hexes.{hexed_length}

-- the most octets of a number, of an outcome's word, and of octets in hex
decimal_long : (x : ℕ) → length (in_decimal x) ≤ 20
unfolding in_decimal
decimal_long x = decimal_short 20 x

pub outcome_long : (n : ℕ) → length (get_or outcomes n []) ≤ 12
unfolding outcomes text every
outcome_long n =
    leb-true (length (get_or outcomes n [])) 12 (word_passes (λ (w : List ℕ). leb (length w) 12) refl outcomes refl n)

hex_long : (l : List ℕ) → length (in_hex l) ≤ 2 * length l + 1
unfolding in_hex text
hex_long l = by_eq (length l) 0 (λ e z. rw e (omega arith)) (λ e z. rw (e, hexed_length l) (omega arith))

-- a number; a number and its tab; the two places that a line begins with; an outcome and its tab; octets in hex
module _ {at r : ℕ} {o l : List ℕ} where
  pub decimal_end : (x : ℕ) → Put (in_decimal x) at r o l → r ≤ at + 20
  decimal_end x p = omega (arith, p.place, decimal_long x)

  pub number_end : (x : ℕ) → Put (in_decimal x ++ (tab ∷ [])) at r o l → r ≤ at + 21
  number_end x p = omega (arith, simp length-append at p.place, decimal_long x)

  pub head_end : (x : ℕ) (word : List ℕ) → Put (in_decimal x ++ (tab ∷ []) ++ (word ++ (tab ∷ []))) at r o l
      → r ≤ at + 22 + length word
  head_end x word p = omega (arith, simp length-append at p.place, decimal_long x)

  pub outcome_end : (n : ℕ) → Put (get_or outcomes n [] ++ (tab ∷ [])) at r o l → r ≤ at + 13
  outcome_end n p = omega (arith, simp length-append at p.place, outcome_long n)

  pub hex_end : (w : List ℕ) → Put (in_hex w) at r o l → r ≤ at + 2 * length w + 1
  hex_end w p = omega (arith, p.place, hex_long w)
