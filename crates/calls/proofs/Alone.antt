-- A refusal leaves state, image and output alone.
use mathlib.Core.Path.{◌≡◌}
use mathlib.Core.Bool.{true, false, ◌&&◌, ◌||◌}
use mathlib.Core.List.{List}
use Prim.Native.Nat.{ℕ}
use lib.ListN.{length}
use lib.Dec.{eqb}
use Rattle.state.specs.State.{State}
use Rattle.state.specs.Image.{state_of, ok_image}
use Rattle.calls.specs.declared.Answer.TheVariants.{Refused}
use Rattle.calls.specs.Answer.{leaves, number_of}
use Rattle.calls.specs.Calls.{Call, refusal, lent, handed, call, makes, keeps_image, stored, enter}

-- a call that is refused answers its number, and the state and the lent output are as they were
pub refused_alone : (s : State) (c : Call) → eqb (refusal s c) 0 ≡ false
    → call s c ≡ record { answer = Refused (refusal s c); state = s; out = lent c }
unfolding call handed leaves
refused_alone s c h = rw h

-- so on the lent image, for octets that are no valid state's image
pub refused_8_alone : (l : List ℕ) (c : Call) → (eqb (length l) 4096 && (makes c || ok_image l)) ≡ false
    → enter l c ≡ record { number = number_of (Refused 8); image = l; out = lent c }
unfolding enter
refused_8_alone l c h = rw h

-- and for every other refusal
pub refused_image_alone : (l : List ℕ) (c : Call) → (eqb (length l) 4096 && (makes c || ok_image l)) ≡ true
    → eqb (refusal (state_of l) c) 0 ≡ false
    → enter l c ≡ record { number = number_of (Refused (refusal (state_of l) c)); image = l; out = lent c }
unfolding enter stored keeps_image
refused_image_alone l c ok h = rw (ok, refused_alone (state_of l) c h)
