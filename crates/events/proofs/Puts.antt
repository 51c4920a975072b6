-- Laws of `Put`: one write behind another, and an octet more by a store.
use mathlib.Core.Path.{◌≡◌, refl, sym}
use mathlib.Core.List.{List, [], ◌∷◌, ◌++◌}
use Prim.Native.Nat.{ℕ, ◌+◌, ◌<◌, ◌≤◌}
use native.Mathlib.Omega.{arith}
use lib.ListN.{length, set, length-append}
use Rattle.octets.specs.Octets.{splice}
use Rattle.octets.proofs.MoveLaws.{set_splice}
use Rattle.octets.proofs.Over.{splice_none, length_splice, then_splice}
use Rattle.events.specs.Read.{Put}

-- nothing written
pub put_none : (at : ℕ) (o : List ℕ) → Put [] at at o o
put_none at o = record { place = omega arith; written = sym (splice_none at o) }

-- octets written
pub put_first : (w : List ℕ) (at : ℕ) (o : List ℕ) {l : List ℕ} → l ≡ splice at w o → Put w at (at + length w) o l
put_first w at o e = record { place = refl; written = e }

-- one write behind another
pub put_then : {w v o x y : List ℕ} {at r q : ℕ} → Put w at r o x → Put v r q x y → r ≤ length o
    → Put (w ++ v) at q o y
put_then {w} {v} {o} {x} {y} {at} {r} p n h =
    record {
      place = simp length-append (omega (arith, p.place, n.place));
      written = then_splice at r w v o p.written n.written p.place h;
    }

-- an octet more, by a store
pub put_more : {w o l : List ℕ} {at r : ℕ} (x : ℕ) → Put w at r o l → r < length o
    → Put (w ++ (x ∷ [])) at (r + 1) o (set l r x)
put_more {w} {o} {l} {at} {r} x p h =
    let e : length l ≡ length o = rw p.written (length_splice at w o (omega (arith, p.place))) in
    put_then p (put_first (x ∷ []) r l (set_splice l r x (omega arith))) (omega arith)

-- the same write, said otherwise
pub put_as : {w v o l : List ℕ} {at r q : ℕ} → Put w at r o l → w ≡ v → r ≡ q → Put v at q o l
put_as {v = v} {o = o} {l = l} {at = at} p e f = rw (← e, ← f) p
