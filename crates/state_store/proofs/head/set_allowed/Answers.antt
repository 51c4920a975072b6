use mathlib.Core.Path.{◌≡◌, refl, ap}
use mathlib.Core.Bool.{Bool, true, false}
use Prim.Native.Nat.{ℕ, ◌+◌}
use native.Mathlib.Omega.{arith}
use lib.ListN.{set}
use Rattle.std.specs.Int.{from_bool}
use Rattle.state.specs.Image.{bit}
use Rattle.state_store.proofs.head.set_allowed.Goals as goal

bit_is : (on : Bool) → from_bool on ≡ bit on
unfolding bit
bit_is true = refl
bit_is false = refl

pub returns : goal.returns
returns c =
    let a : _ = c.args in
    ap (λ (x : ℕ). set a.b.now (31 + a.flow) x) (omega (arith, c.from.ensures, bit_is a.allowed))
