-- What is held in a buffer between two readings of the input.
use Rattle.std.specs.Prelude.{◌≡◌, List, ℕ, length}
use Rattle.octets.specs.Octets.{over}
use Rattle.events_shift.specs.Lines.{kept}

-- what is kept of a line stands at the front of the buffer
pub record Kept (line : List ℕ) (r : ℕ) (before after : List ℕ) : Type 0 where
  pub count : r ≡ length (kept line)
  pub octets : after ≡ over (kept line) before
