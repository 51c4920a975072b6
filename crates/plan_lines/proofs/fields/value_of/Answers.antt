use mathlib.Core.Path.{◌≡◌}
use Prim.Native.Nat.{ℕ, ◌-◌, ◌+◌}
use native.Mathlib.Omega.{arith}
use borrow.Author.Tests.{le-leb, lt-leb, lt-ltb, le-ltb}
use Rattle.octets.specs.Lists.{within}
use Rattle.octets.specs.Text.{digit}
use Rattle.plan.specs.Line.{is_digit}
use Rattle.plan_lines.specs.Fields.{is_hex, value_of}
use Rattle.plan_lines.proofs.fields.value_of.Goals as goal

pub returns-in-48-to-57 : goal.returns-in-48-to-57
unfolding value_of is_hex is_digit within digit
returns-in-48-to-57 c =
    let x : ℕ = c.args.x in
    rw c.from.ensures (simp (le-leb 48 x (omega arith), le-leb x 57 (omega arith), lt-ltb x 58 (omega arith)))

pub returns-in-97-to-102 : goal.returns-in-97-to-102
unfolding value_of is_hex is_digit within digit
returns-in-97-to-102 c =
    let x : ℕ = c.args.x in
    let e : c.from-in-97-to-102.result + 10 ≡ x - 87 = omega (arith, c.from-in-97-to-102.ensures) in
    rw e (simp (
      le-leb 48 x (omega arith),
      lt-leb x 57 (omega arith),
      le-leb 97 x (omega arith),
      le-leb x 102 (omega arith),
      le-ltb x 58 (omega arith),
      le-ltb x 97 (omega arith),
    ))

pub returns-in_default : goal.returns-in_default
unfolding value_of is_hex is_digit within
returns-in_default c =
    let x : ℕ = c.args.x in
    simp (lt-leb 48 x (omega arith), lt-leb 97 x (omega arith))

pub returns-in_default-2 : goal.returns-in_default-2
unfolding value_of is_hex is_digit within
returns-in_default-2 c =
    let x : ℕ = c.args.x in
    simp (le-leb 48 x (omega arith), lt-leb x 57 (omega arith), lt-leb 97 x (omega arith))

pub returns-in_default-3 : goal.returns-in_default-3
unfolding value_of is_hex is_digit within
returns-in_default-3 c =
    let x : ℕ = c.args.x in
    simp (
      le-leb 48 x (omega arith),
      lt-leb x 57 (omega arith),
      le-leb 97 x (omega arith),
      lt-leb x 102 (omega arith),
    )
