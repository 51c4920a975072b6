use Prim.Native.Nat.{ℕ}
use native.Mathlib.Omega.{arith}
use borrow.Author.Tests.{le-leb, lt-leb}
use Rattle.octets.specs.Lists.{within}
use Rattle.plan.specs.Line.{is_digit}
use Rattle.plan_lines.specs.Fields.{is_hex}
use Rattle.events.proofs.digits.is_digit.Goals as goal

pub returns-in-48-to-57 : goal.returns-in-48-to-57
unfolding is_hex is_digit within
returns-in-48-to-57 c =
    let x : ℕ = c.args.x in
    simp (le-leb 48 x (omega arith), le-leb x 57 (omega arith))

pub returns-in-97-to-102 : goal.returns-in-97-to-102
unfolding is_hex is_digit within
returns-in-97-to-102 c =
    let x : ℕ = c.args.x in
    simp (le-leb 48 x (omega arith), lt-leb x 57 (omega arith), le-leb 97 x (omega arith), le-leb x 102 (omega arith))

pub returns-in_default : goal.returns-in_default
unfolding is_hex is_digit within
returns-in_default c =
    let x : ℕ = c.args.x in
    simp (lt-leb 48 x (omega arith), lt-leb 97 x (omega arith))

pub returns-in_default-2 : goal.returns-in_default-2
unfolding is_hex is_digit within
returns-in_default-2 c =
    let x : ℕ = c.args.x in
    simp (le-leb 48 x (omega arith), lt-leb x 57 (omega arith), lt-leb 97 x (omega arith))

pub returns-in_default-3 : goal.returns-in_default-3
unfolding is_hex is_digit within
returns-in_default-3 c =
    let x : ℕ = c.args.x in
    simp (le-leb 48 x (omega arith), lt-leb x 57 (omega arith), le-leb 97 x (omega arith), lt-leb x 102 (omega arith))
