-- A number's octets summed by pairs, and then by fours.
use mathlib.Core.Path.{◌≡◌, ◌∙◌}
use Prim.Native.Nat.{ℕ, zero, suc, ◌+◌, ◌*◌, ◌/◌, ◌%◌, ◌<◌, ◌≤◌}
use native.Mathlib.Nat.{mod-eq_of_lt, div-eq_of_lt, add-mul-div_right, add-mul-mod_self_right}
use native.Mathlib.Omega.{arith}
use lib.Bits.{bit_and, and_mask, and_zero_r, and_le_r}
use Rattle.state_tables.specs.Pass.{octet_sum}
use Rattle.state_tables.proofs.BitLaws.{and_parts}

-- every second octet of a number from its lowest on, in 16 bits each; and the mask that leaves them
unfoldable seconds : ℕ → ℕ → ℕ
seconds zero x = 0
seconds (suc n) x = x % 256 + seconds n (x / 65536) * 65536

unfoldable second_mask : ℕ → ℕ
second_mask zero = 0
second_mask (suc n) = 255 + second_mask n * 65536

and_seconds : (n x : ℕ) → bit_and x (second_mask n) ≡ seconds n x
unfolding seconds second_mask
and_seconds zero x = and_zero_r x
and_seconds (suc n) x =
    let low : ℕ = x % 65536 in
    let high : ℕ = x / 65536 in
    let number : low + high * 65536 ≡ x = omega arith in
    let octet : bit_and low 255 ≡ low % 256 = and_mask low 8 in
    let parts : _ = and_parts 16 low high 255 (second_mask n) (omega arith) (omega arith) in
    let known : bit_and x (255 + second_mask n * 65536) ≡ low % 256 + seconds n high * 65536 =
    rw (number, octet, and_seconds n high) at parts in
    known ∙ omega arith

-- the two parts of a number, added
parts_added : (k u v : ℕ) → u < k → (u + v * k) % k + (u + v * k) / k ≡ u + v
parts_added k u v h =
    let pos : 0 < k = omega arith in
    rw (add-mul-mod_self_right, mod-eq_of_lt h, add-mul-div_right u v pos, div-eq_of_lt h) (omega arith)

-- four sums of two octets each, of 16 bits, in one number
by_fours : (a b c d e f g h : ℕ) → a + b ≤ 510 → c + d ≤ 510 → e + f ≤ 510 → g + h ≤ 510
    → let p = a + b + (c + d + (e + f + (g + h) * 65536) * 65536) * 65536 in
    let s = p % 4294967296 + p / 4294967296 in
    s % 65536 + s / 65536 ≡ a + (b + (c + (d + (e + (f + (g + (h + 0)))))))
by_fours a b c d e f g h ab cd ef gh =
    let u : ℕ = a + b + (c + d) * 65536 in
    let v : ℕ = e + f + (g + h) * 65536 in
    let two : a + b + (c + d + v * 65536) * 65536 ≡ u + v * 4294967296 = omega arith in
    let sum : u + v ≡ a + b + (e + f) + (c + d + (g + h)) * 65536 = omega arith in
    rw (two, parts_added 4294967296 u v (omega arith), sum, parts_added 65536 (a + b + (e + f)) (c + d + (g + h)) (omega arith)) (omega arith)

two_down : (x : ℕ) → x / 65536 ≡ x / 256 / 256
two_down x = omega arith

-- two numbers whose octets stand in 16 bits each, added
paired : (a b c d e f g h : ℕ)
    → a + (c + (e + (g + 0 * 65536) * 65536) * 65536) * 65536 + (b + (d + (f + (h + 0 * 65536) * 65536) * 65536) * 65536)
    ≡ a + b + (c + d + (e + f + (g + h) * 65536) * 65536) * 65536
paired a b c d e f g h = omega arith

pub pairs_small : (x : ℕ) → bit_and x 0x00FF00FF00FF00FF + bit_and (x / 256) 0x00FF00FF00FF00FF ≤ 0x01FE01FE01FE01FE
pairs_small x = omega (arith, and_le_r x 0x00FF00FF00FF00FF, and_le_r (x / 256) 0x00FF00FF00FF00FF)

pub fours_small : (p : ℕ) → p ≤ 0x01FE01FE01FE01FE → p % 4294967296 + p / 4294967296 ≤ 8589934592
fours_small p h = omega arith

pub sum_pairs : (x : ℕ) →
    let pairs = bit_and x 0x00FF00FF00FF00FF + bit_and (x / 256) 0x00FF00FF00FF00FF in
    let fours = pairs % 4294967296 + pairs / 4294967296 in
    fours % 65536 + fours / 65536 ≡ octet_sum 8 x
unfolding octet_sum seconds second_mask
sum_pairs x =
    let b : ℕ = x / 256 in
    let c : ℕ = b / 256 in
    let d : ℕ = c / 256 in
    let e : ℕ = d / 256 in
    let f : ℕ = e / 256 in
    let g : ℕ = f / 256 in
    let h : ℕ = g / 256 in
    let low : bit_and x 0x00FF00FF00FF00FF ≡ seconds 4 x = and_seconds 4 x in
    let high : bit_and b 0x00FF00FF00FF00FF ≡ seconds 4 b = and_seconds 4 b in
    let pairs : bit_and x 0x00FF00FF00FF00FF + bit_and b 0x00FF00FF00FF00FF
    ≡ x % 256 + b % 256 + (c % 256 + d % 256 + (e % 256 + f % 256 + (g % 256 + h % 256) * 65536) * 65536) * 65536 =
    simp (low, high, two_down, paired) in
    let at_most : (y z : ℕ) → y % 256 + z % 256 ≤ 510 = λ y z. omega arith in
    rw pairs (by_fours _ _ _ _ _ _ _ _ (at_most x b) (at_most c d) (at_most e f) (at_most g h))
