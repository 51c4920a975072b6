-- The plan (PLAN): the records of a text, and two texts that have the same, in whatever order.
use Rattle.std.specs.Prelude.{List, [], ◌∷◌, map, ℕ}
use Rattle.octets.specs.Lists.{In}
use Rattle.plan.specs.Line.{Line, line_of, parted, lf}

-- PLAN-1: an LF ends every line, so the lines are all parts but the last, which stands after the last LF.
unfoldable pub lines_of : List (List ℕ) → List (List ℕ)
lines_of [] = []
lines_of (rest ∷ []) = []
lines_of (line ∷ next ∷ parts) = line ∷ lines_of (next ∷ parts)

-- PLAN-32: the records of a text, each a line.
unfoldable pub records_in : List ℕ → List Line
records_in l = map line_of (lines_of (parted lf l))

-- PLAN-32: two texts with the same records: each record of the one is one of the other's.
pub record SameRecords (t u : List ℕ) : Type 0 where
  pub there : (r : Line) → In r (records_in t) → In r (records_in u)
  pub back : (r : Line) → In r (records_in u) → In r (records_in t)
