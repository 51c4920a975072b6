-- A line cut at its tabs.
use mathlib.Core.Path.{◌≡◌, ◌∙◌}
use mathlib.Core.List.{List, [], ◌∷◌}
use Prim.Native.Nat.{ℕ, ◌+◌, ◌-◌, ◌<◌, ◌≤◌}
use native.Mathlib.Nat.{sub-zero}
use native.Mathlib.Omega.{arith}
use lib.ListN.{length, take, drop}
use Rattle.plan.specs.Line.{tab, parted}
use Rattle.plan_lines.specs.CappedLine.{end_of}
use Rattle.plan_lines.proofs.Parts.{behind, last_field, next_field, some_part}

-- the end of the field that starts at a place, as it is found
abbrev Ends : List ℕ → ℕ → ℕ → Type 0
Ends l from e = (e ≡ end_of tab from (drop from l)) × ((from ≤ e) × (e ≤ length l))

module _ (l : List ℕ) {one : ℕ} (e : Ends l 0 one) where
  pub cut_none : one ≡ length l → parted tab l ≡ l ∷ []
  cut_none t = last_field tab 0 one l e.0 (omega arith) t

  pub cut_first : (one ≡ length l → ⊥)
      → parted tab l ≡ take (one - 0) (drop 0 l) ∷ parted tab (take (length l - (one + 1)) (drop (one + 1) l))
  cut_first n = next_field tab 0 one l e.0 (omega arith) (omega arith) ∙ rw (behind (one + 1) l)

  pub cuts_one : one ≡ length l → length (parted tab l) ≡ 3 → ⊥
  cuts_one t = rw (cut_none t) (λ z. omega arith)

  module _ (n : one ≡ length l → ⊥) {two : ℕ} (f : Ends l (one + 1) two) where
    first : parted tab l ≡ take one l ∷ parted tab (drop (one + 1) l)
    first = rw sub-zero at (next_field tab 0 one l e.0 (omega arith) (omega arith))

    pub cuts_two : two ≡ length l → length (parted tab l) ≡ 3 → ⊥
    cuts_two t = rw (first, last_field tab (one + 1) two l f.0 f.1.0 t) (λ z. omega arith)

    module _ (m : two ≡ length l → ⊥) where
      second : parted tab l ≡ take one l ∷ take (two - (one + 1)) (drop (one + 1) l) ∷ parted tab (drop (two + 1) l)
      second = rw (first, next_field tab (one + 1) two l f.0 f.1.0 (omega arith))

      pub cut_second : parted tab l
          ≡ take (one - 0) (drop 0 l)
          ∷ take (two - (one + 1)) (drop (one + 1) l)
          ∷ parted tab (take (length l - (two + 1)) (drop (two + 1) l))
      cut_second = second ∙ rw (sub-zero, behind (two + 1) l)

      -- the two tabs between three fields, in their order
      pub three_in : (one < two) × (two < length l)
      three_in = (omega arith, omega arith)

      module _ {three : ℕ} (g : Ends l (two + 1) three) where
        pub cuts_three : three ≡ length l
            → parted tab l
            ≡ take (one - 0) (drop 0 l)
            ∷ take (two - (one + 1)) (drop (one + 1) l)
            ∷ take (length l - (two + 1)) (drop (two + 1) l)
            ∷ []
        cuts_three t = rw (second, last_field tab (two + 1) three l g.0 g.1.0 t, sub-zero, behind (two + 1) l)

        pub cuts_more : (three ≡ length l → ⊥) → length (parted tab l) ≡ 3 → ⊥
        cuts_more k =
            rw (second, next_field tab (two + 1) three l g.0 g.1.0 (omega arith))
            (λ z. omega (arith, some_part tab (drop (three + 1) l)))
