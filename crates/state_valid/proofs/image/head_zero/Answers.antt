use mathlib.Core.Path.{◌≡◌}
use mathlib.Core.Bool.{◌&&◌}
use mathlib.Core.List.{List}
use Prim.Native.Nat.{ℕ}
use native.Mathlib.Omega.{arith}
use lib.Dec.{eqb}
use lib.ListN.{take, drop}
use Rattle.std.proofs.lemmas.Grind.{common_steps}
use Rattle.octets.specs.Octets.{low_number, all_zero}
use Rattle.octets.proofs.LowLaws.{low_zero}
use Rattle.state_tables.proofs.ZeroLaws.{word_cut}
use Rattle.state_valid.proofs.image.head_zero.Goals as goal

-- the octets behind the clock, as four words
words : (b : List ℕ) → all_zero (take 28 (drop 4 b))
    ≡ (eqb (low_number 4 (drop 4 b)) 0 && (eqb (low_number 8 (drop 8 b)) 0 && (eqb (low_number 8 (drop 16 b)) 0 && eqb (low_number 8 (drop 24 b)) 0)))
words b = rw (word_cut 4 4 24 b, word_cut 8 8 16 b, word_cut 16 8 8 b, ← low_zero 8 (drop 24 b))

pub returns-then-low8-eq0-2 : goal.returns-then-low8-eq0-2
returns-then-low8-eq0-2 c = rw (words c.args.b.now) (grind (arith, common_steps))

pub returns-else-low8-eq0-2 : goal.returns-else-low8-eq0-2
returns-else-low8-eq0-2 c = rw (words c.args.b.now) (grind (arith, common_steps))
