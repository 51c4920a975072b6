-- The program shift (C-11) (SHIFT): the lines that are whole in a buffer, each answered as long as there is room.
use Rattle.std.specs.Prelude.{◌≡◌, cond, List, [], ◌∷◌, ◌++◌, ℕ, ◌+◌, ◌-◌, ◌≤◌, length, drop, leb}
use Rattle.octets.specs.Octets.{over}
use Rattle.events_shift.specs.declared.serve.Turn.{Turn}
use Rattle.events_shift.specs.Lines.{cut}
use Rattle.events_shift.specs.Step.{Step, step, step_room}

-- the image after some lines, the number of the next, what was printed, and the lines that are left
pub record Served : Type 0 where
  pub image : List ℕ
  pub number : ℕ
  pub printed : List ℕ
  pub left : List (List ℕ)

-- a step ahead of others
unfoldable pub behind : Step → Served → Served
behind s rest =
    record { image = rest.image; number = rest.number; printed = s.line ++ rest.printed; left = rest.left }

-- SHIFT-1, SHIFT-7: each line, by its number, is a call on the image that the one before it left, as long as there is room.
unfoldable pub served : ℕ → List ℕ → ℕ → List (List ℕ) → Served
served room image number [] = record { image = image; number = number; printed = []; left = [] }
served room image number (line ∷ lines) =
    cond (leb step_room room)
    (behind (step image number line)
    (served (room - length (step image number line).line) (step image number line).image (number + 1) lines))
    (record { image = image; number = number; printed = []; left = line ∷ lines })

-- The lines of a buffer from a place on were served; the result says how far.
pub record Turned (image buffer : List ℕ) (from number : ℕ) (out : List ℕ) (r : Turn) (image' out' : List ℕ) : Type 0 where
  pub place : r.from ≤ length buffer
  pub fits : r.at ≤ length out
  pub stored : image' ≡ (served (length out) image number (cut (drop from buffer)).lines).image
  pub numbered : r.number ≡ (served (length out) image number (cut (drop from buffer)).lines).number
  pub written : out' ≡ over (served (length out) image number (cut (drop from buffer)).lines).printed out
  pub count : r.at ≡ length (served (length out) image number (cut (drop from buffer)).lines).printed
  pub left : (cut (drop r.from buffer)).lines ≡ (served (length out) image number (cut (drop from buffer)).lines).left
  pub rest : (cut (drop r.from buffer)).rest ≡ (cut (drop from buffer)).rest
