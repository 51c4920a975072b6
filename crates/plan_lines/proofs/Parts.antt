-- Where a part of a text ends, and the parts by their ends.
use mathlib.Core.Path.{◌≡◌, refl, sym, ◌∙◌}
use mathlib.Core.List.{List, [], ◌∷◌}
use Prim.Native.Nat.{ℕ, suc, ◌+◌, ◌-◌, ◌<◌, ◌≤◌}
use native.Mathlib.Omega.{arith}
use lib.ListN.{length, take, drop, length-drop}
use lib.Seq.{take_all, drop-drop}
use Rattle.std.specs.Prelude.{Some, None, ◌==◌}
use Rattle.std.specs.List.{position_or_len}
use Rattle.std.proofs.lemmas.List.Sums.{prefix_len-le-length}
use Rattle.octets.proofs.Cases.{by_eq, by_lt}
use Rattle.plan.specs.Line.{joined, parted}
use Rattle.plan_lines.specs.CappedLine.{first_in, end_of}

-- what stands behind a place, as a part
pub behind : (n : ℕ) (l : List ℕ) → take (length l - n) (drop n l) ≡ drop n l
behind n l = take_all (length l - n) (drop n l) (omega (arith, length-drop n l))

-- where the octet stands first, as a place of the list
placed : (by at : ℕ) (l : List ℕ) → end_of by at l ≡ at + position_or_len (λ x. x == by) l
unfolding end_of
placed by at [] = omega arith
placed by at (x ∷ l) =
    by_eq x by (λ e same. rw e (omega arith)) (λ e other. rw e (omega (arith, placed by (at + 1) l)))

module _ (by : ℕ) (s : List ℕ) (from : ℕ) (h : from ≤ length s) where
  place : ℕ
  place = position_or_len (λ x. x == by) (drop from s)

  pub end_found : {n : ℕ} → first_in by (drop from s) ≡ Some n
      → (from + n ≡ end_of by from (drop from s)) × ((from ≤ from + n) × (from + n ≤ length s))
  unfolding place first_in
  end_found {n} e =
      by_lt place (length (drop from s))
      (λ t k.
      let f : Some place ≡ Some n = rw t at e in
      let g : place ≡ n = cc in
      (omega (arith, placed by from (drop from s)), (omega arith, omega (arith, length-drop from s))))
      (λ t k. let f : None ≡ Some n = rw t at e in let z : ◌≡◌ {A = ℕ} 0 1 = cc in absurd (omega arith))

  pub end_none : first_in by (drop from s) ≡ None
      → (length s ≡ end_of by from (drop from s)) × ((from ≤ length s) × (length s ≤ length s))
  unfolding place first_in
  end_none e =
      by_lt place (length (drop from s))
      (λ t k. let f : Some place ≡ None = rw t at e in let z : ◌≡◌ {A = ℕ} 0 1 = cc in absurd (omega arith))
      (λ t k.
      let most : place ≤ length (drop from s) = prefix_len-le-length _ (drop from s) in
      (omega (arith, placed by from (drop from s), length-drop from s), (h, omega arith)))

end_from : (by at : ℕ) (l : List ℕ) → at ≤ end_of by at l
unfolding end_of
end_from by at [] = omega arith
end_from by at (x ∷ l) =
    by_eq x by (λ e same. rw e (omega arith)) (λ e other. rw e (omega (arith, end_from by (at + 1) l)))

-- a list without the octet is one part
one_part : (by at : ℕ) (l : List ℕ) → end_of by at l ≡ at + length l → parted by l ≡ l ∷ []
unfolding end_of parted joined
one_part by at [] h = refl
one_part by at (x ∷ l) h =
    by_eq x by (λ e same. let z : at ≡ at + suc (length l) = rw e at h in absurd (omega arith))
    (λ e other.
    let k : end_of by (at + 1) l ≡ at + suc (length l) = rw e at h in
    rw (e, one_part by (at + 1) l (omega arith)))

-- a list with it is the octets before the first, and the parts of what stands behind
first_part : (by at e : ℕ) (l : List ℕ) → end_of by at l ≡ e → e < at + length l
    → parted by l ≡ take (e - at) l ∷ parted by (drop (e + 1 - at) l)
unfolding end_of parted joined
first_part by at e [] k h = absurd (omega arith)
first_part by at e (x ∷ l) k h =
    by_eq x by
    (λ t same.
    let z : at ≡ e = rw t at k in
    let none : e - at ≡ 0 = omega arith in
    let one : e + 1 - at ≡ 1 = omega arith in
    rw (t, none, one))
    (λ t other.
    let z : end_of by (at + 1) l ≡ e = rw t at k in
    let f : at + 1 ≤ end_of by (at + 1) l = end_from by (at + 1) l in
    let before : e - at ≡ suc (e - (at + 1)) = omega arith in
    let behind : e + 1 - at ≡ suc (e + 1 - (at + 1)) = omega arith in
    rw (t, before, behind, first_part by (at + 1) e l z (omega arith)))

-- the same from a place of a list on, by the end that was found
module _ (by at e : ℕ) (l : List ℕ) (h : e ≡ end_of by at (drop at l)) (k : at ≤ e) where
  pub last_field : e ≡ length l → parted by (drop at l) ≡ drop at l ∷ []
  last_field t = one_part by at (drop at l) (omega (arith, length-drop at l))

  pub next_field : e < length l → parted by (drop at l) ≡ take (e - at) (drop at l) ∷ parted by (drop (e + 1) l)
  next_field t =
      let on : at + (e + 1 - at) ≡ e + 1 = omega arith in
      first_part by at e (drop at l) (sym h) (omega (arith, length-drop at l)) ∙ rw (drop-drop, on)

-- there is always a part
pub some_part : (by : ℕ) (l : List ℕ) → 1 ≤ length (parted by l)
unfolding parted joined
some_part by [] = omega arith
some_part by (x ∷ l) = by_eq x by (λ e same. rw e (omega arith)) (λ e other. rw e (go (parted by l)))
  where
    go : (parts : List (List ℕ)) → 1 ≤ length (joined x parts)
    go [] = omega arith
    go (p ∷ ps) = omega arith
