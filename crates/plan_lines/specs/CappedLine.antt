-- The plan (PLAN): a text as the code reads it: where a part of it ends, and one line with its numbers capped.
use Rattle.std.specs.Prelude.{List, [], ◌∷◌, Option, Some, None, cond, ℕ, ◌+◌, min, eqb, ◌==◌, position}
use Rattle.plan_lines.specs.declared.Said.{Said}
use Rattle.plan_lines.specs.declared.Said.TheVariants.{OfPort, OfFlow, OfMp}
use Rattle.plan.specs.Line.{Line, unreadable, port_line, flow_line, mp_line}

-- where an octet stands first in a list, if it does
unfoldable pub first_in : ℕ → List ℕ → Option ℕ
first_in by l = position (λ x. x == by) l

-- where the first octet `by` stands in l, whose first octet has the place `at`; or where l ends
unfoldable pub end_of : ℕ → ℕ → List ℕ → ℕ
end_of by at [] = at
end_of by at (x ∷ l) = cond (eqb x by) at (end_of by (at + 1) l)

-- PLAN-6: a number with very many digits can be read. One above 9,999 is held as 9,999, which is out of range wherever it stands.
unfoldable pub capped : ℕ → ℕ
capped n = min n 9999

-- a line by value, its numbers capped; none that is no record
unfoldable pub said : Line → Option Said
said unreadable = None
said (port_line number kind address) = Some (OfPort (capped number) kind address)
said (flow_line number port kind vid) = Some (OfFlow (capped number) (capped port) kind (capped vid))
said (mp_line flow kind level) = Some (OfMp (capped flow) kind (capped level))
