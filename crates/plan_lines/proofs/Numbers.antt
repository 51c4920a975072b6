-- A field as a number, by its length and its first digit; or as the most that is asked for.
use mathlib.Core.Path.{◌≡◌, refl, sym, ◌∙◌}
use mathlib.Core.Bool.{Bool, true, false, cond, ◌&&◌, ◌||◌}
use mathlib.Core.List.{List, [], ◌∷◌}
use Prim.Native.Nat.{ℕ, min, ◌≤◌}
use Rattle.std.specs.Prelude.{Option, Some, None}
use native.Mathlib.Omega.{arith}
use lib.Dec.{eqb}
use lib.ListN.{length, get_or}
use borrow.Author.Tests.{lt-leb, ne_eqb}
use Rattle.octets.specs.Lists.{within, every}
use Rattle.octets.specs.Text.{digit}
use Rattle.octets.proofs.Cases.{by_le}
use Rattle.plan.specs.Line.{is_digit, is_number, spelled, number_in}
use Rattle.plan_lines.specs.CappedLine.{capped}
use Rattle.plan_lines.specs.Fields.{digits_on}

-- what a field is read as
abbrev pub read_number : List ℕ → Option ℕ
read_number f = cond (is_number f) (Some (capped (number_in f))) None

abbrev pub read_amount : ℕ → List ℕ → Option ℕ
read_amount most f = cond (is_number f) (Some (min (number_in f) most)) None

pub empty : (most : ℕ) (f : List ℕ) → length f ≡ 0 → None ≡ read_amount most f
unfolding is_number
empty most [] e = refl
empty most (x ∷ f) e = absurd (omega arith)

pub zero_alone : (most : ℕ) (f : List ℕ) → get_or f 0 0 ≡ 48 → length f ≡ 1 → Some 0 ≡ read_amount most f
unfolding is_number is_digit within every number_in spelled digit
zero_alone most [] e h = absurd (omega arith)
zero_alone most (x ∷ []) e h = let z : min 0 most ≡ 0 = omega arith in rw (e, z)
zero_alone most (x ∷ y ∷ f) e h = absurd (omega arith)

pub zero_leads : (most : ℕ) (f : List ℕ) → get_or f 0 0 ≡ 48 → (length f ≡ 1 → ⊥) → None ≡ read_amount most f
unfolding is_number is_digit within
zero_leads most [] e h = refl
zero_leads most (x ∷ []) e h = absurd (h refl)
zero_leads most (x ∷ y ∷ f) e h =
    rw (e, ne_eqb (length (y ∷ f)) 0 (λ z. omega arith)) (go (every is_digit (y ∷ f)) (Some (min (number_in (48 ∷ y ∷ f)) most)))
  where
    go : (b : Bool) (d : Option ℕ) → None ≡ cond (b && false) d None
    go true d = refl
    go false d = refl

pub other_leads : (most : ℕ) (f : List ℕ) → (length f ≡ 0 → ⊥) → (get_or f 0 0 ≡ 48 → ⊥) → digits_on most 0 f ≡ read_amount most f
unfolding digits_on is_number is_digit within number_in every
other_leads most [] h n = absurd (h refl)
other_leads most (x ∷ f) h n =
    by_le 49 x (λ a k. simp a (go (is_digit x) (every is_digit f) (eqb (length f) 0)))
    (λ a k. simp (lt-leb 48 x (omega arith)))
  where
    d : Option ℕ
    d = Some (min (spelled 10 0 (x ∷ f)) most)

    go : (p q r : Bool) → cond (p && q) d None ≡ cond (p && q && (r || true)) d None
    go false q r = refl
    go true false r = refl
    go true true true = refl
    go true true false = refl

-- the same at most 9,999, as a number is held
module _ (f : List ℕ) {a : Option ℕ} (e : a ≡ read_amount 9999 f) where
  pub held_none : a ≡ None → None ≡ read_number f
  held_none h = go (is_number f) (sym h ∙ e)
    where
      go : (b : Bool) → None ≡ cond b (Some (min (number_in f) 9999)) None
          → None ≡ cond b (Some (capped (number_in f))) None
      go true z = let y : ◌≡◌ {A = ℕ} 0 1 = cc in absurd (omega arith)
      go false z = refl

  pub held_some : {n : ℕ} → a ≡ Some n → (n ≤ 9999) × (Some n ≡ read_number f)
  unfolding capped
  held_some {n} h = go (is_number f) (sym h ∙ e)
    where
      go : (b : Bool) → Some n ≡ cond b (Some (min (number_in f) 9999)) None
          → (n ≤ 9999) × (Some n ≡ cond b (Some (capped (number_in f))) None)
      go true z = let y : n ≡ min (number_in f) 9999 = cc in (omega arith, rw y)
      go false z = let y : ◌≡◌ {A = ℕ} 0 1 = cc in absurd (omega arith)
