-- The program shift (C-11) (SHIFT): standard input as lines, in whatever pieces it arrives.
use Rattle.std.specs.Prelude.{cond, List, [], ◌∷◌, ◌++◌, ℕ, length, take, eqb}
use Rattle.plan.specs.Line.{lf, parted}

-- SHIFT-2: an LF ends a line; what follows the last LF is a line as well, if anything follows.
unfoldable pub closed : List (List ℕ) → List (List ℕ)
closed [] = []
closed (rest ∷ []) = cond (eqb (length rest) 0) [] (rest ∷ [])
closed (line ∷ next ∷ parts) = line ∷ closed (next ∷ parts)

unfoldable pub lines_in : List ℕ → List (List ℕ)
lines_in input = closed (parted lf input)

-- an input by its pieces
unfoldable pub whole : List (List ℕ) → List ℕ
whole [] = []
whole (piece ∷ pieces) = piece ++ whole pieces

-- SHIFT-16: what is kept of a line: enough to tell that it is too long, if it is.
unfoldable pub kept : List ℕ → List ℕ
kept line = take 4101 line

-- what has arrived, cut at each LF: the lines that are whole, and what there is of the next
pub record Cut : Type 0 where
  pub lines : List (List ℕ)
  pub rest : List ℕ

-- SHIFT-2: an LF ends a line; what follows the last LF is not whole yet.
unfoldable pub cut_at : List (List ℕ) → Cut
cut_at [] = record { lines = []; rest = [] }
cut_at (rest ∷ []) = record { lines = []; rest = rest }
cut_at (line ∷ next ∷ parts) =
    record { lines = line ∷ (cut_at (next ∷ parts)).lines; rest = (cut_at (next ∷ parts)).rest }

unfoldable pub cut : List ℕ → Cut
cut l = cut_at (parted lf l)

-- SHIFT-2: the pieces of the input play no part. Its lines, after what is held: those that are whole once a piece is there; of the next no
-- more is held than has to be.
unfoldable pub arriving : List ℕ → List (List ℕ) → List (List ℕ)
arriving held [] = cond (eqb (length held) 0) [] (held ∷ [])
arriving held (piece ∷ pieces) = (cut (held ++ piece)).lines ++ arriving (kept (cut (held ++ piece)).rest) pieces
