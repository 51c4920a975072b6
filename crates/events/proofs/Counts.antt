-- A field as a number of at most 4,294,967,295, by what is read of it as a number of any count of digits.
use mathlib.Core.Path.{◌≡◌}
use mathlib.Core.Bool.{true, false, cond}
use mathlib.Core.List.{List}
use Prim.Native.Nat.{ℕ, ◌<◌, ◌≤◌, min}
use native.Mathlib.Omega.{arith}
use borrow.Author.Tests.{le-leb, lt-leb}
use Rattle.std.specs.Prelude.{Some, None}
use Rattle.plan.specs.Line.{is_number, number_in}
use Rattle.plan_lines.proofs.ByFields.{passed, failed}
use Rattle.events.specs.Event.{is_count, highest}
use Rattle.events.specs.Read.{count_in}

-- a number that is read capped at the first that is too high
module _ (f : List ℕ) where
  pub no_number : cond (is_number f) (Some (min (number_in f) 4294967296)) None ≡ None → None ≡ count_in f
  unfolding count_in is_count
  no_number h = rw (failed (is_number f) (min (number_in f) 4294967296) h)

  module _ {n : ℕ} (h : cond (is_number f) (Some (min (number_in f) 4294967296)) None ≡ Some n) where
    read : (is_number f ≡ true) × (n ≡ min (number_in f) 4294967296)
    read = passed (is_number f) (min (number_in f) 4294967296) h

    pub low_number_lem : n < 4294967296 → Some n ≡ count_in f
    unfolding count_in is_count
    low_number_lem k =
        let s : n ≡ number_in f = omega (arith, read.1) in
        rw (read.0, le-leb (number_in f) highest (omega arith), s)

    pub high_number : 4294967296 ≤ n → None ≡ count_in f
    unfolding count_in is_count
    high_number k = rw (read.0, lt-leb (number_in f) highest (omega (arith, read.1)))

  -- what is learnt of a field that was read
  pub a_count : {n : ℕ} → count_in f ≡ Some n → (is_count f ≡ true) × (n ≡ number_in f)
  unfolding count_in
  a_count h = passed (is_count f) (number_in f) h

  pub no_count : count_in f ≡ None → is_count f ≡ false
  unfolding count_in
  no_count h = failed (is_count f) (number_in f) h
