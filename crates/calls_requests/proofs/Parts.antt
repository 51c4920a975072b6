-- The number of a tag's octets, gathered octet by octet.
use mathlib.Core.Path.{◌≡◌, ◌∙◌}
use mathlib.Core.List.{List}
use Prim.Native.Nat.{ℕ, ◌+◌, ◌*◌, ◌^◌, ◌<◌, ◌≤◌}
use native.Mathlib.Nat.{pow-le-pow_right, pow-suc}
use native.Mathlib.Numerals.{add-one}
use native.Mathlib.Omega.{arith}
use lib.ListN.{length, take, drop, get_or}
use Rattle.std.proofs.lemmas.List.{get_or-take, get_or-drop, length-take}
use Rattle.octets.specs.Octets.{number}
use Rattle.octets.proofs.Laws.{number_parts, number_1}

-- octet i of so many from octet 12 on
pub cut_octet : (l : List ℕ) (count i : ℕ) → i < length (take count (drop 12 l))
    → get_or (take count (drop 12 l)) i 0 ≡ get_or l (12 + i) 0
cut_octet l count i h =
    let few : i < count = omega (arith, length-take count (drop 12 l)) in
    get_or-take count (drop 12 l) i 0 few ∙ get_or-drop 12 l i 0

-- before octet i, n is the number of those that were met
pub record Gathering (l : List ℕ) (n i : ℕ) : Type 0 where
  pub met : n ≡ number i (drop 12 l)
  pub fits : n < 256 ^ i

module _ {l : List ℕ} {n i : ℕ} (g : Gathering l n i) where
  pub small : i < 4 → n < 2 ^ 24
  small h = let p : 256 ^ i ≤ 256 ^ 3 = pow-le-pow_right (omega arith) {j = 3} (omega arith) in omega (arith, p, g.fits)

  pub gather : {x : ℕ} → x ≡ get_or l (12 + i) 0 → x < 256 → Gathering l (n * 256 + x) (i + 1)
  gather e f =
      record {
        met = number_parts i 1 12 l g.met (e ∙ number_1 (12 + i) l);
        fits = rw (add-one, pow-suc) (omega (arith, g.fits, f));
      }
