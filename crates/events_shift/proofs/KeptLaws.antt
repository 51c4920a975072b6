-- What is kept of a line is moved to the front of its buffer.
use mathlib.Core.Path.{◌≡◌}
use mathlib.Core.List.{List}
use Prim.Native.Nat.{ℕ, ◌+◌, ◌-◌, ◌≤◌, min}
use native.Mathlib.Omega.{arith}
use lib.ListN.{length, take, drop, length-take, length-drop}
use lib.Seq.{take-take, take_all}
use Rattle.octets.specs.Octets.{moved_down}
use Rattle.octets.proofs.Cases.{by_le}
use Rattle.events_shift.specs.Lines.{kept}
use Rattle.events_shift.specs.Kept.{Kept}

-- the first n, of the first m
kept_few : (m n : ℕ) (l : List ℕ) → n ≡ min m 4101 → take 4101 (take m l) ≡ take n l
kept_few m n l e =
    by_le 4101 m (λ t h. let z : n ≡ 4101 = omega arith in rw z (take-take 4101 m l h))
    (λ t h. let z : n ≡ m = omega arith in rw z (take_all 4101 (take m l) (omega (arith, length-take m l))))

pub kept_moved : (from upto n : ℕ) (l : List ℕ) {r : List ℕ} → n ≡ min (upto - from) 4101 → from ≤ upto → upto ≤ length l
    → r ≡ moved_down from from (from + n) l → Kept (take (upto - from) (drop from l)) n l r
unfolding kept moved_down
kept_moved from upto n l {r} e h k m =
    let t : take 4101 (take (upto - from) (drop from l)) ≡ take n (drop from l) = kept_few (upto - from) n (drop from l) e in
    let c : length (take n (drop from l)) ≡ n = omega (arith, length-take n (drop from l), length-drop from l) in
    let z : from - from ≡ 0 = omega arith in
    let y : from + n - from ≡ n = omega arith in
    record { count = rw (t, c); octets = rw (m, t, c, z, y) }
