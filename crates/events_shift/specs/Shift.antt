-- The program shift (C-11) (SHIFT): a whole run, from the plan file and standard input to standard output.
use Rattle.std.specs.Prelude.{Bool, cond, ◌&&◌, not, List, [], ◌∷◌, ◌++◌, ℕ, ◌+◌, ◌/◌, ◌%◌, ◌^◌, length, replicate, eqb, leb}
use Rattle.octets.specs.Lists.{some}
use Rattle.calls.specs.Calls.{Entered, make, enter}
use Rattle.events.specs.Event.{line_room}
use Rattle.events.specs.AnswerLine.{fault_line}
use Rattle.events_shift.specs.Lines.{lines_in}
use Rattle.events_shift.specs.Step.{step}

-- SHIFT-1, SHIFT-7: each line, by its number, is a call on the image that the one before it left, and gets a line.
unfoldable pub printed_for : List ℕ → ℕ → List (List ℕ) → List ℕ
printed_for image number [] = []
printed_for image number (line ∷ lines) =
    (step image number line).line ++ printed_for (step image number line).image (number + 1) lines

-- SHIFT-5, CALL-23: is it a plan fault, outcome 7?
unfoldable pub is_faulty : Entered → Bool
is_faulty x = eqb (x.number % 2 ^ 8) 7

-- SHIFT-5, CALL-24, CALL-26: what is printed for a plan fault, by the reason and the line in the answer.
unfoldable pub fault_of : Entered → List ℕ
fault_of x = cond (is_faulty x) (fault_line (x.number / 2 ^ 32) (x.number / 2 ^ 8 % 2 ^ 8)) []

-- SHIFT-5, SHIFT-7: with a plan fault no event is played; else the events are numbered from 1.
unfoldable pub made_then : Entered → List (List ℕ) → List ℕ
made_then x lines = cond (is_faulty x) (fault_of x) (printed_for x.image 1 lines)

-- SHIFT-6: the unit is made at clock 0.
unfoldable pub made : List ℕ → List ℕ → Entered
made image plan = enter image (make plan 0)

unfoldable pub played : List ℕ → List (List ℕ) → List ℕ
played plan lines = made_then (made (replicate 4096 0) plan) lines

-- SHIFT-4: a name is not empty, has at most 4,100 octets, and has no NUL in it.
unfoldable pub is_name : List ℕ → Bool
is_name name = leb 1 (length name) && leb (length name) line_room && not (some (eqb 0) name)

-- SHIFT-3, SHIFT-4: the first line is the name of the plan file; `files` says what each holds, nothing if it cannot be opened. What is no
-- name counts as an empty plan, and so does no input at all.
unfoldable pub shift : (List ℕ → List ℕ) → List ℕ → List ℕ
shift files input = go (lines_in input)
  where
    go : List (List ℕ) → List ℕ
    go [] = played [] []
    go (name ∷ lines) = played (cond (is_name name) (files name) []) lines
