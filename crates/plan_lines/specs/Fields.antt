-- The plan (PLAN): the steps in which the code reads a line: one digit, digits, a word among others.
use Rattle.std.specs.Prelude.{List, Option, Some, None, Bool, cond, ◌||◌, ℕ, min, leb}
use Rattle.octets.specs.Lists.{within, every}
use Rattle.octets.specs.Text.{digit}
use Rattle.plan.specs.Line.{is_digit, spelled}

-- PLAN-3, SHIFT-15: a hex digit in lower case.
unfoldable pub is_hex : ℕ → Bool
is_hex x = is_digit x || within 97 102 x

-- what an octet counts as a hexadecimal digit; nothing if it is none
unfoldable pub value_of : ℕ → Option ℕ
value_of x = cond (is_hex x) (Some (digit x)) None

-- what octets spell after the digits that made `so`, or the most that is asked for; nothing if one of them is no digit
unfoldable pub digits_on : ℕ → ℕ → List ℕ → Option ℕ
digits_on most so l = cond (every is_digit l) (Some (min (spelled 10 so l) most)) None

-- what octets spell after the digits that made `so`; nothing if one of them is no digit
unfoldable pub hex_on : ℕ → List ℕ → Option ℕ
hex_on so l = cond (every is_hex l) (Some (spelled 16 so l)) None

-- a word's place among those listed, from 1; none for a word not listed, whose place is 0
unfoldable pub found : ℕ → Option ℕ
found place = cond (leb 1 place) (Some place) None
