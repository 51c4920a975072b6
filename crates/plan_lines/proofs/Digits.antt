-- What octets spell: what one of them counts, and a turn of the loops that read them.
use mathlib.Core.Path.{◌≡◌, refl, sym, ◌∙◌}
use mathlib.Core.Bool.{Bool, true, false, cond, ◌||◌}
use mathlib.Core.List.{List, [], ◌∷◌}
use Prim.Native.Nat.{ℕ, ◌+◌, ◌-◌, ◌*◌, ◌^◌, ◌<◌, ◌≤◌, min}
use native.Mathlib.Nat.{pow-suc, pow-le-pow_right}
use native.Mathlib.Numerals.{add-one}
use native.Mathlib.Omega.{arith}
use lib.Dec.{ltb}
use lib.ListN.{length, get_or, drop, drop_of_length-le}
use lib.Seq.{drop-cons}
use borrow.Author.Tests.{lt-leb, lt-ltb, le-ltb}
use Rattle.std.specs.Prelude.{Some, None}
use Rattle.octets.specs.Lists.{within, every}
use Rattle.octets.specs.Text.{digit}
use Rattle.octets.proofs.Cases.{by_le}
use Rattle.plan.specs.Line.{is_digit, spelled}
use Rattle.plan_lines.specs.Fields.{is_hex, value_of, digits_on, hex_on}

-- an octet that counts something
pub some_value : (x : ℕ) {d : ℕ} → value_of x ≡ Some d → (is_hex x ≡ true) × (d ≡ digit x)
unfolding value_of
some_value x {d} h = go (is_hex x) h
  where
    go : (b : Bool) → cond b (Some (digit x)) None ≡ Some d → (b ≡ true) × (d ≡ digit x)
    go true e = (refl, cc)
    go false e = let z : ◌≡◌ {A = ℕ} 0 1 = cc in absurd (omega arith)

pub no_value : (x : ℕ) → value_of x ≡ None → is_hex x ≡ false
unfolding value_of
no_value x h = go (is_hex x) h
  where
    go : (b : Bool) → cond b (Some (digit x)) None ≡ None → b ≡ false
    go true e = let z : ◌≡◌ {A = ℕ} 0 1 = cc in absurd (omega arith)
    go false e = refl

-- A hex digit is a decimal one if it counts less than 10.
record Counts (x : ℕ) : Type 0 where
  decimal : is_digit x ≡ ltb (digit x) 10
  below : digit x < 16

none : (x : ℕ) → is_digit x ≡ false → within 97 102 x ≡ false → is_hex x ≡ true → Counts x
unfolding is_hex
none x d h t = let z : false ≡ true = simp (d, h) at t in absurd cc

counts : (x : ℕ) → is_hex x ≡ true → Counts x
unfolding is_hex is_digit within digit
counts x =
    by_le 48 x
    (λ a ha. by_le x 57
    (λ b hb _.
    let s : ltb x 58 ≡ true = lt-ltb x 58 (omega arith) in
    record {
      decimal = simp (a, b, s, lt-ltb (x - 48) 10 (omega arith));
      below = let e : digit x ≡ x - 48 = simp s in omega arith;
    })
    (λ b hb. by_le 97 x
    (λ c hc. by_le x 102
    (λ d hd _.
    let s : ltb x 58 ≡ false = le-ltb x 58 (omega arith) in
    let t : ltb x 97 ≡ false = le-ltb x 97 (omega arith) in
    record {
      decimal = simp (a, b, s, t, le-ltb (x - 87) 10 (omega arith));
      below = let e : digit x ≡ x - 87 = simp (s, t) in omega arith;
    })
    (λ d hd. none x (simp (a, b)) (simp (c, d))))
    (λ c hc. none x (simp (a, b)) (simp c))))
    (λ a ha. none x (simp a) (simp (lt-leb 97 x (omega arith))))

-- an octet that is no hex digit is no decimal one
not_decimal : (x : ℕ) → is_hex x ≡ false → is_digit x ≡ false
unfolding is_hex
not_decimal x h = go (is_digit x) (within 97 102 x) h
  where
    go : (p q : Bool) → (p || q) ≡ false → p ≡ false
    go true q e = e
    go false q e = refl

-- a number of any count of digits, capped at each of them
capped_on : (most : ℕ) (l : List ℕ) (so : ℕ) → min (spelled 10 (min so most) l) most ≡ min (spelled 10 so l) most
unfolding spelled
capped_on most [] so = omega arith
capped_on most (x ∷ l) so =
    let e : min (min so most * 10 + digit x) most ≡ min (so * 10 + digit x) most = omega arith in
    sym (capped_on most l (min so most * 10 + digit x)) ∙ rw e (capped_on most l (so * 10 + digit x))

-- the octet at i, behind the digits that made `so`
module _ (l : List ℕ) (i so : ℕ) (h : i < length l) where
  module _ {d : ℕ} (e : value_of (get_or l i 0) ≡ Some d) where
    pub digits_turn : (most : ℕ) → d < 10 → digits_on most (min (so * 10 + d) most) (drop (i + 1) l) ≡ digits_on most so (drop i l)
    unfolding digits_on every spelled
    digits_turn most k =
        let v : _ = some_value (get_or l i 0) e in
        let t : is_digit (get_or l i 0) ≡ true = (counts (get_or l i 0) v.0).decimal ∙ lt-ltb (digit (get_or l i 0)) 10 (omega (arith, v.1)) in
        rw v.1 (simp (add-one, drop-cons l i 0 h, t, capped_on))

    pub digits_other : (most : ℕ) → 10 ≤ d → None ≡ digits_on most so (drop i l)
    unfolding digits_on every
    digits_other most k =
        let v : _ = some_value (get_or l i 0) e in
        let t : is_digit (get_or l i 0) ≡ false = (counts (get_or l i 0) v.0).decimal ∙ le-ltb (digit (get_or l i 0)) 10 (omega (arith, v.1)) in
        simp (drop-cons l i 0 h, t)

    pub hex_turn : (hex_on (so * 16 + d) (drop (i + 1) l) ≡ hex_on so (drop i l)) × (d < 16)
    unfolding hex_on every spelled
    hex_turn =
        let v : _ = some_value (get_or l i 0) e in
        (rw v.1 (simp (add-one, drop-cons l i 0 h, v.0)), omega (arith, v.1, (counts (get_or l i 0) v.0).below))

  module _ (e : value_of (get_or l i 0) ≡ None) where
    pub digits_none : (most : ℕ) → None ≡ digits_on most so (drop i l)
    unfolding digits_on every
    digits_none most = simp (drop-cons l i 0 h, not_decimal (get_or l i 0) (no_value (get_or l i 0) e))

    pub hex_none : None ≡ hex_on so (drop i l)
    unfolding hex_on every
    hex_none = simp (drop-cons l i 0 h, no_value (get_or l i 0) e)

pub digits_end : (most : ℕ) (l : List ℕ) (i so : ℕ) → length l ≤ i → so ≤ most → Some so ≡ digits_on most so (drop i l)
unfolding digits_on every spelled
digits_end most l i so h k = let e : min so most ≡ so = omega arith in simp (drop_of_length-le l h, e)

pub hex_end : (l : List ℕ) (i so : ℕ) → length l ≤ i → Some so ≡ hex_on so (drop i l)
unfolding hex_on every spelled
hex_end l i so h = simp (drop_of_length-le l h)

-- twelve hexadecimal digits have 48 bits: what i of them spell, with one more
pub hex_fits : (i so d : ℕ) → i < 12 → so < 16 ^ i → d < 16 → (so * 16 + d < 16 ^ (i + 1)) × (so * 16 + d < 2 ^ 48)
hex_fits i so d h k m =
    let e : 16 ^ (i + 1) ≡ 16 ^ i * 16 = rw add-one (pow-suc 16 i) in
    let top : 16 ^ (i + 1) ≤ 16 ^ 12 = pow-le-pow_right (omega arith) {i = i + 1} {j = 12} (omega arith) in
    (omega arith, omega arith)
