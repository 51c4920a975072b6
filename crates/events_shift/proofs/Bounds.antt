-- What is written, and what is kept, stands inside its buffer.
use mathlib.Core.Path.{◌≡◌, ap}
use mathlib.Core.List.{List}
use Prim.Native.Nat.{ℕ, ◌+◌, ◌≤◌}
use native.Mathlib.Omega.{arith}
use lib.ListN.{length, take, drop, length-append, length-take}
use Rattle.octets.specs.Octets.{splice}
use Rattle.events.specs.Read.{Put}
use Rattle.events_shift.specs.Lines.{kept}
use Rattle.events_shift.specs.Kept.{Kept}

pub put_inside : (w o : List ℕ) (at r : ℕ) {q : List ℕ} → Put w at r o q → at ≤ length o → r ≤ length q
put_inside w o at r {q} p h =
    let l : length (splice at w o) ≡ length (take at o) + (length w + length (drop (length w) (drop at o)))
    = rw (length-append, length-append) in
    let same : length q ≡ length (splice at w o) = ap (λ (x : List ℕ). length x) p.written in
    omega (arith, p.place, same, l, length-take at o)

pub kept_inside : (line : List ℕ) (r : ℕ) {before after : List ℕ} → Kept line r before after → length line ≤ length before
    → r ≤ length before
unfolding kept
kept_inside line r k h = omega (arith, k.count, length-take 4101 line)
