-- The unit (UNIT): the outcome of a call, as the host sees it.
use Rattle.std.specs.Prelude.{◌≡◌, List, ℕ}
use Rattle.calls.specs.Calls.{Entered}

-- UNIT-4, UNIT-9, UNIT-10, CALL-28: number, image and output, octet by octet. (`enter` gives x by image and call alone, whatever they are.)
pub record Outcome (x : Entered) (number : ℕ) (left out : List ℕ) : Type 0 where
  pub answered : number ≡ x.number
  pub stored : left ≡ x.image
  pub written : out ≡ x.out
