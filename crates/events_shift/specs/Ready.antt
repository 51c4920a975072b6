-- A unit that was made of a plan's text, or the line of a faulty plan.
use Rattle.std.specs.Prelude.{◌≡◌, List, ℕ}
use Rattle.calls.specs.Calls.{Entered}
use Rattle.events.specs.Read.{Put}
use Rattle.events_shift.specs.Shift.{fault_of}

-- the image, and what is printed at the front of an output: nothing if the unit is made
pub record Ready (x : Entered) (r : ℕ) (image before after : List ℕ) : Type 0 where
  pub stored : image ≡ x.image
  pub printed : Put (fault_of x) 0 r before after
