use Prim.Native.Nat.{ℕ}
use native.Mathlib.Omega.{arith}
use borrow.Author.Tests.{lt-ltb, le-ltb}
use Rattle.octets.specs.Text.{digit}
use Rattle.events.proofs.HexDigits.{from_zero, a_letter}
use Rattle.events.proofs.digits.value_of.Goals as goal

pub overflow_sub-result : goal.overflow_sub-result
overflow_sub-result c = omega (arith, from_zero c.args.x c.requires)

pub returns-then-x-le57 : goal.returns-then-x-le57
unfolding digit
returns-then-x-le57 c =
    let x : ℕ = c.args.x in
    (simp (lt-ltb x 58 (omega arith)), omega arith)

pub overflow_sub-result-else-x-le57 : goal.overflow_sub-result-else-x-le57
overflow_sub-result-else-x-le57 c = omega (arith, a_letter c.args.x c.requires (omega arith))

pub returns-else-x-le57 : goal.returns-else-x-le57
unfolding digit
returns-else-x-le57 c =
    let x : ℕ = c.args.x in
    let l : _ = a_letter x c.requires (omega arith) in
    (simp (le-ltb x 58 (omega arith), le-ltb x 97 (omega arith)), omega arith)
