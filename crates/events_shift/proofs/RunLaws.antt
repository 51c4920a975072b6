-- A run, line by line: what is kept of a line is enough, and a run may stop and go on; so is what is kept of a plan.
use mathlib.Core.Path.{◌≡◌, refl, sym, ◌∙◌, ap}
use mathlib.Core.Bool.{Bool, true, false, cond}
use mathlib.Core.List.{List, [], ◌∷◌, ◌++◌, map, append_assoc}
use Prim.Native.Nat.{ℕ, ◌+◌, ◌-◌}
use native.Mathlib.Omega.{arith}
use lib.Dec.{leb}
use lib.ListN.{length, take, length-take}
use lib.Seq.{take_all}
use borrow.Author.Tests.{lt-leb, lt-ltb}
use Rattle.octets.proofs.Cases.{by_le}
use Rattle.plan.specs.PlanText.{plan_in}
use Rattle.events.specs.Event.{event_of}
use Rattle.events_shift.specs.Lines.{lines_in, kept, arriving, whole}
use Rattle.events_shift.specs.Step.{Step, step, step_room}
use Rattle.events_shift.specs.Served.{Served, served, behind}
use Rattle.events_shift.specs.Shift.{printed_for}
use Rattle.events_shift.proofs.Pieces.{pieces_alike}

-- A line that is kept is read as the whole line.
pub kept_read : (line : List ℕ) → event_of (kept line) ≡ event_of line
unfolding event_of kept
kept_read line =
    by_le (length line) 4100
    (λ e short. rw (take_all 4101 line (omega arith)))
    (λ e long. rw (e, lt-leb (length (take 4101 line)) 4100 (omega (arith, length-take 4101 line))))

kept_printed : (image : List ℕ) (number : ℕ) (lines : List (List ℕ))
    → printed_for image number (map kept lines) ≡ printed_for image number lines
unfolding printed_for step
kept_printed image number [] = refl
kept_printed image number (line ∷ lines) =
    rw (kept_read line, kept_printed (step image number line).image (number + 1) lines)

-- Whatever the pieces in which input arrives, what is printed for its lines is the same.
pub pieces_printed : (image : List ℕ) (number : ℕ) (pieces : List (List ℕ))
    → printed_for image number (arriving [] pieces) ≡ printed_for image number (lines_in (whole pieces))
pieces_printed image number pieces =
    sym (kept_printed image number (arriving [] pieces))
    ∙ rw (pieces_alike pieces) (kept_printed image number (lines_in (whole pieces)))

-- Lines that are served, and then those that are left, are all the lines.
pub served_printed : (room : ℕ) (image : List ℕ) (number : ℕ) (lines : List (List ℕ))
    → printed_for image number lines
    ≡ (served room image number lines).printed
    ++ printed_for (served room image number lines).image (served room image number lines).number (served room image number lines).left
unfolding printed_for served behind
served_printed room image number [] = refl
served_printed room image number (line ∷ lines) =
    let s : Step = step image number line in
    go (leb step_room room) (served_printed (room - length s.line) s.image (number + 1) lines)
  where
    s : Step
    s = step image number line

    then : Served
    then = served (room - length s.line) s.image (number + 1) lines

    by : Bool → Served
    by b = cond b (behind s then) (record { image = image; number = number; printed = []; left = line ∷ lines })

    go : (b : Bool)
        → printed_for s.image (number + 1) lines ≡ then.printed ++ printed_for then.image then.number then.left
        → printed_for image number (line ∷ lines) ≡ (by b).printed ++ printed_for (by b).image (by b).number (by b).left
    go true e =
        ap (λ (l : List ℕ). s.line ++ l) e
        ∙ sym (append_assoc s.line then.printed (printed_for then.image then.number then.left))
    go false e = refl

-- A plan's text is read as far as it takes to tell that it is too long.
pub plan_kept : (plan : List ℕ) → plan_in (take 8193 plan) ≡ plan_in plan
unfolding plan_in
plan_kept plan =
    by_le (length plan) 8192
    (λ e short. rw (take_all 8193 plan (omega arith)))
    (λ e long.
    rw (lt-ltb 8192 (length plan) (omega arith), lt-ltb 8192 (length (take 8193 plan)) (omega (arith, length-take 8193 plan))))
