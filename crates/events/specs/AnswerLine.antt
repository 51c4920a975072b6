-- The program shift (C-11) (SHIFT): a printed line.
use Rattle.std.specs.Prelude.{List, [], ◌∷◌, ◌++◌, cond, ℕ, ◌/◌, ◌%◌, length, get_or, eqb}
use Rattle.octets.specs.Text.{text}
use Rattle.plan.specs.Line.{lf}
use Rattle.plan.specs.WrittenPlan.{decimal, hex_digit, tabbed}

-- SHIFT-18, SHIFT-20: what is printed of a call: a refusal's number; or one of the six outcomes, and the octets written.
pub data Got : Type 0 where
  refused : (number : ℕ) → Got
  answered : (outcome : ℕ) (octets : List ℕ) → Got

-- SHIFT-19, SHIFT-20: the words of the outcomes, in the order of their numbers, from 0.
unfoldable pub outcomes : List (List ℕ)
outcomes =
    text "refused"
    ∷ text "forward"
    ∷ text "drop"
    ∷ text "loop"
    ∷ text "reply"
    ∷ text "replyforward"
    ∷ text "done"
    ∷ []

-- SHIFT-14, SHIFT-18: a number below 2^64, written as in a plan.
unfoldable pub in_decimal : ℕ → List ℕ
in_decimal x = decimal 20 x

-- SHIFT-18: octets in lower-case hex, or `-` for none.
unfoldable pub hexed : List ℕ → List ℕ
hexed [] = []
hexed (x ∷ l) = hex_digit (x / 16) ∷ hex_digit (x % 16) ∷ hexed l

unfoldable pub in_hex : List ℕ → List ℕ
in_hex l = cond (eqb (length l) 0) (text "-") (hexed l)

-- SHIFT-18, SHIFT-20: the last three fields: outcome, how many octets were written, and these; or `refused`, the refusal's number, `-`.
unfoldable pub places_of : Got → List (List ℕ)
places_of (refused number) = text "refused" ∷ in_decimal number ∷ text "-" ∷ []
places_of (answered outcome octets) = get_or outcomes outcome [] ∷ in_decimal (length octets) ∷ in_hex octets ∷ []

-- SHIFT-18: the line's number, its word and those three, with tabs between and an LF at the end.
unfoldable pub answer_line : ℕ → List ℕ → Got → List ℕ
answer_line number word got = tabbed (in_decimal number ∷ word ∷ places_of got) ++ (lf ∷ [])

-- SHIFT-5: for a plan fault `plan`, the line and the reason, with tabs between.
unfoldable pub fault_line : ℕ → ℕ → List ℕ
fault_line line reason = tabbed (text "plan" ∷ in_decimal line ∷ in_decimal reason ∷ []) ++ (lf ∷ [])
