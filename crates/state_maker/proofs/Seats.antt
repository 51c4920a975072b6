-- The places of the flows: each put where its number leads, over zeros, they are the places of the image.
use mathlib.Core.Path.{◌≡◌, refl, sym, ◌∙◌}
use mathlib.Core.Bool.{true, cond, not}
use mathlib.Core.List.{List, [], ◌∷◌, ◌++◌}
use Prim.Native.Nat.{ℕ, ◌+◌, ◌-◌, ◌<◌, ◌≤◌}
use native.Mathlib.Omega.{arith}
use lib.Dec.{eqb}
use lib.ListN.{length, get_or, set, length-set, length-replicate, get_or-replicate}
use lib.Seq.{set-append_left, get_or-set_same, get_or-set_other, ext_get_or}
use borrow.Author.Tests.{ne_eqb, not-true}
use Rattle.octets.specs.Lists.{within, every, some, distinct}
use Rattle.octets.proofs.Same.{both_true}
use Rattle.octets.proofs.Cases.{by_eq}
use Rattle.octets.proofs.ListLaws.{within_low, within_high}
use Rattle.plan.specs.declared.Flow.{Flow}
use Rattle.state.specs.Image.{zeros, place_from, places}
use Rattle.state.proofs.Runs.{set_past}
use Rattle.state.proofs.FlowPlaces.{numbers, no_place, place_at}
use Rattle.state.proofs.ImageParts.{places_length}
use Rattle.state_maker.specs.Places.{places_put}

-- the places alone, that of number 1 first
unfoldable seats : ℕ → List Flow → List ℕ → List ℕ
seats p [] l = l
seats p (f ∷ fs) l = seats (p + 1) fs (set l (f.number - 1) p)

seats_length : (p : ℕ) (fs : List Flow) (l : List ℕ) → length (seats p fs l) ≡ length l
unfolding seats
seats_length p [] l = refl
seats_length p (f ∷ fs) l = seats_length (p + 1) fs (set l (f.number - 1) p) ∙ length-set l (f.number - 1) p

put_seats : (p : ℕ) (fs : List Flow) (a l t : List ℕ) → length a ≡ 64 → length l ≡ 32
    → every (within 1 32) (numbers fs) ≡ true → places_put p fs (a ++ (l ++ t)) ≡ a ++ (seats p fs l ++ t)
unfolding places_put seats every
put_seats p [] a l t ea el w = refl
put_seats p (f ∷ fs) a l t ea el w =
    let n : ℕ = f.number in
    let c : _ = both_true (within 1 32 n) (every (within 1 32) (numbers fs)) w in
    let low : 1 ≤ n = within_low 1 32 n c.0 in
    let high : n ≤ 32 = within_high 1 32 n c.0 in
    let e : 63 + n ≡ 64 + (n - 1) = omega arith in
    rw (e, set_past a (l ++ t) 64 (n - 1) p ea, set-append_left l t (n - 1) p (omega arith))
    (put_seats (p + 1) fs a (set l (n - 1) p) t ea (length-set l (n - 1) p ∙ el) c.1)

-- a number's seat holds its place, or what it held before
abbrev seated : ℕ → ℕ → ℕ
seated was place = cond (eqb place 0) was place

seat_at : (p i : ℕ) (fs : List Flow) (l : List ℕ) → 1 ≤ p → i < length l
    → distinct (numbers fs) ≡ true → every (within 1 32) (numbers fs) ≡ true
    → get_or (seats p fs l) i 0 ≡ seated (get_or l i 0) (place_from (1 + i) p fs)
unfolding seats place_from distinct every
seat_at p i [] l hp hi d w = refl
seat_at p i (f ∷ fs) l hp hi d w =
    let n : ℕ = f.number in
    let b : _ = both_true (not (some (eqb n) (numbers fs))) (distinct (numbers fs)) d in
    let c : _ = both_true (within 1 32 n) (every (within 1 32) (numbers fs)) w in
    let low : 1 ≤ n = within_low 1 32 n c.0 in
    let r : _ = seat_at (p + 1) i fs (set l (n - 1) p) (omega arith) (rw length-set hi) b.1 c.1 in
    by_eq n (1 + i)
    (λ e here.
    let k : n - 1 ≡ i = omega arith in
    let alone : place_from (1 + i) (p + 1) fs ≡ 0
    = rw (← here) (no_place n (p + 1) fs (not-true (some (eqb n) (numbers fs)) b.0)) in
    let s : get_or (set l (n - 1) p) i 0 ≡ p = rw k (get_or-set_same l i p 0 hi) in
    r ∙ rw (alone, s, e, ne_eqb p 0 (λ z. omega arith)))
    (λ e other.
    let s : get_or (set l (n - 1) p) i 0 ≡ get_or l i 0 = get_or-set_other l (n - 1) i p 0 (λ z. other (omega arith)) in
    r ∙ rw (s, e))

seated_zero : (x : ℕ) → seated 0 x ≡ x
seated_zero x = by_eq x 0 (λ e none. rw (e, none)) (λ e some. rw e)

module _ (fs : List Flow) (d : distinct (numbers fs) ≡ true) (w : every (within 1 32) (numbers fs) ≡ true) where
  seats_places : seats 1 fs (zeros 32) ≡ places 32 1 fs
  unfolding zeros
  seats_places =
      let long : length (seats 1 fs (zeros 32)) ≡ 32 = seats_length 1 fs (zeros 32) ∙ length-replicate {A = ℕ} 32 0 in
      ext_get_or 0 (seats 1 fs (zeros 32)) (places 32 1 fs) (long ∙ sym (places_length 32 1 fs))
      (λ i h.
      let hi : i < 32 = omega (arith, long) in
      seat_at 1 i fs (zeros 32) (omega arith) (rw length-replicate hi) d w
      ∙ rw (get_or-replicate {A = ℕ} 32 i 0 0 hi) (seated_zero (place_from (1 + i) 1 fs))
      ∙ sym (place_at 32 1 i fs hi))

  pub put_places : (a t : List ℕ) → length a ≡ 64 → places_put 1 fs (a ++ (zeros 32 ++ t)) ≡ a ++ (places 32 1 fs ++ t)
  unfolding zeros
  put_places a t ea = rw (← seats_places) (put_seats 1 fs a (zeros 32) t ea (length-replicate {A = ℕ} 32 0) w)
