-- A row that is found, or none: what the code's answer says of the number that stands for it.
use mathlib.Core.Path.{◌≡◌, refl, sym, ◌∙◌}
use Prim.Native.Nat.{ℕ}
use borrow.Author.Tests.{eq-eqb, ne_eqb}
use Rattle.std.specs.Prelude.{Option, None, Some, IfSome}
use Rattle.octets.proofs.Cases.{by_eq}
use Rattle.state.specs.Rows.{row_found}

pub none_found : {r : ℕ} → 0 ≡ r → None ≡ row_found r
none_found {r} e = simp (eq-eqb r 0 (sym e))

module _ {at : ℕ} where
  pub some_found : {r : ℕ} → at ≡ r → (at ≡ 0 → ⊥) → Some at ≡ row_found r
  some_found {r} e some = simp (e, ne_eqb r 0 (λ z. some (e ∙ z)))

pub found_none : {r : ℕ} → None ≡ row_found r → 0 ≡ r
found_none {r} e = by_eq r 0 (λ t z. sym z) (λ t z. let s : _ = some_found refl z in absurd (cc))

pub found_some : {at r : ℕ} → Some at ≡ row_found r → at ≡ r
found_some {at} {r} e =
    by_eq r 0 (λ t z. let s : _ = none_found (sym z) in absurd (cc)) (λ t z. let s : _ = some_found {at = r} refl z in cc)

pub found_there : {at : ℕ} (r : ℕ) → Some at ≡ row_found r → at ≡ 0 → ⊥
found_there r e z = by_eq r 0 (λ t y. let s : _ = none_found (sym y) in cc) (λ t y. y (sym (found_some e) ∙ z))

-- What holds of the number holds of the row.
pub if_found : (P : ℕ → Type 0) {o : Option ℕ} {r : ℕ} → o ≡ row_found r → P r → IfSome o P
if_found P {r = r} e h = rw e (by_eq r 0 (λ t z. simp t tt) (λ t z. simp t h))
