-- What is odd in the flows' rows is collected and tested at the end: the same as a test at each row.
use mathlib.Core.Path.{◌≡◌, refl}
use mathlib.Core.Bool.{Bool, ◌&&◌, and_assoc}
use mathlib.Core.List.{List}
use Prim.Native.Nat.{ℕ, suc, zero, ◌≤◌}
use native.Mathlib.Omega.{arith}
use lib.Dec.{eqb, leb}
use lib.ListN.{length, take, drop, length-drop}
use lib.Seq.{drop-drop, take-add, length-take-le}
use Rattle.octets.specs.Octets.{low_number, all_zero}
use Rattle.octets.proofs.Zero.{zero_parts}
use Rattle.octets.specs.Lists.{every, count}
use Rattle.octets.proofs.Cases.{by_eq}
use Rattle.octets.proofs.LowLaws.{low_zero}
use Rattle.octets.proofs.Laws.{Octets, octets_drop}
use Rattle.plan.specs.Plan.{mip}
use Rattle.state.proofs.Cuts.{low_within}
use Rattle.state_tables.specs.Pass.{ok_rows, Seen, odd_of, octet_sum, flow_fits, flow_seen, flows_right}
use Rattle.state_tables.proofs.Tests.{and_left_comm}
use Rattle.octets.proofs.Zero.{or_eqb}
use Rattle.state_tables.proofs.BitLaws.{mask, odd_none}
use Rattle.state_tables.proofs.RowsLaw.{octets_take}

-- what is known without what is odd
unfoldable pub even : Seen → Seen
even s = record { last = s.last; place = s.place; odd = 0; marks = s.marks }

unfoldable pub even_fits : List ℕ → Seen → List ℕ → Bool
even_fits b s l = flow_fits b s l && eqb (odd_of l) 0

unfoldable pub even_seen : Seen → List ℕ → Seen
even_seen s l = even (flow_seen s l)

unfoldable pub even_right : List ℕ → Seen → Bool
even_right b s = leb (octet_sum 8 s.marks) 128 && eqb s.place (count (leb 1) (take 32 (drop 64 b)))

end_turn : (o m p z : Bool) → (o && m && p && z) ≡ (o && (m && p && z))
end_turn o m p z = simp and_assoc

row_turn : (f a o r : Bool) → (f && (a && o && r)) ≡ (a && (f && o && r))
row_turn f a o r = simp (and_assoc, and_left_comm)

module _ (b : List ℕ) where
  at_end : (s : Seen) (t : List ℕ) → (flows_right b s && all_zero t) ≡ (eqb s.odd 0 && (even_right b (even s) && all_zero t))
  unfolding flows_right even_right even
  at_end s t =
      let few : Bool = leb (octet_sum 8 s.marks) 128 in
      let all : Bool = eqb s.place (count (leb 1) (take 32 (drop 64 b))) in
      end_turn (eqb s.odd 0) few all (all_zero t)

  fits_even : (s : Seen) (l : List ℕ) → flow_fits b s l ≡ flow_fits b (even s) l
  unfolding flow_fits even
  fits_even s l = refl

  seen_even : (s : Seen) (l : List ℕ) → even (flow_seen s l) ≡ even_seen (even s) l
  unfolding flow_seen even even_seen
  seen_even s l = refl

  seen_odd : (s : Seen) (l : List ℕ) → eqb (flow_seen s l).odd 0 ≡ (eqb s.odd 0 && eqb (odd_of l) 0)
  unfolding flow_seen
  seen_odd s l = or_eqb s.odd (odd_of l)

  pub odd_law : (n : ℕ) (s : Seen) (t : List ℕ)
      → ok_rows (flow_fits b) flow_seen (flows_right b) 32 n s t
      ≡ (eqb s.odd 0 && ok_rows (even_fits b) even_seen (even_right b) 32 n (even s) t)
  unfolding ok_rows even_fits
  odd_law zero s t = at_end s t
  odd_law (suc n) s t =
      by_eq (low_number 8 t) 0
      (λ e none. rw e (at_end s t))
      (λ e some.
      rw (e, odd_law n (flow_seen s t) (drop 32 t), seen_odd s t, seen_even s t, fits_even s t)
      (row_turn (flow_fits b (even s) t) (eqb s.odd 0) (eqb (odd_of t) 0)
      (ok_rows (even_fits b) even_seen (even_right b) 32 n (even_seen (even s) t) (drop 32 t))))

-- ---- what is odd in one row

pub odd_row : (l : List ℕ) → Octets l → 32 ≤ length l
    → eqb (odd_of l) 0 ≡ (every (λ mp. leb mp mip) (take 8 (drop 8 l)) && all_zero (take 16 (drop 16 l)))
unfolding odd_of mask
odd_row l o h =
    let m : List ℕ = take 8 (drop 8 l) in
    let eight : length m ≡ 8 = length-take-le 8 (drop 8 l) (omega (arith, length-drop 8 l)) in
    let small : Octets m = octets_take 8 (drop 8 l) (octets_drop 8 l o) in
    let mps : _ = rw (eight, low_within 8 8 (drop 8 l) (omega arith)) at (odd_none m small) in
    rw (
      or_eqb,
      or_eqb,
      low_zero 8 (drop 16 l),
      low_zero 8 (drop 24 l),
      mps,
      take-add 8 8 (drop 16 l),
      zero_parts,
      drop-drop,
    ) (simp and_assoc)
