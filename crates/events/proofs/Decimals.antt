-- Laws of a number in decimal: its digits, written from the last one on.
use mathlib.Core.Path.{◌≡◌, refl, ◌∙◌}
use mathlib.Core.List.{List, [], ◌∷◌, ◌++◌, append-nil}
use Prim.Native.Nat.{ℕ, zero, suc, ◌+◌, ◌-◌, ◌*◌, ◌/◌, ◌%◌, ◌^◌, ◌<◌, ◌≤◌}
use native.Mathlib.Nat.{pow-suc}
use native.Mathlib.Omega.{arith}
use lib.ListN.{length, take, drop, set, length-set, length-drop, drop_of_length-le}
use lib.Seq.{set_split, drop_at, take_all, append_snoc, length-take-le}
use borrow.Author.Tests.{lt-ltb, le-ltb}
use Rattle.octets.specs.Octets.{splice}
use Rattle.plan.specs.WrittenPlan.{decimal}
use Rattle.events.specs.Read.{Put}
use Rattle.events.proofs.Puts.{put_first, put_as}

-- a number of two digits or more, by its last one
last_digit : (n x : ℕ) → 10 ≤ x → decimal (suc n) x ≡ decimal n (x / 10) ++ ((48 + x % 10) ∷ [])
unfolding decimal
last_digit n x h = rw (le-ltb x 10 h)

-- what stands from a place on, after a store there
stored : (l : List ℕ) (i x : ℕ) → i < length l → drop i (set l i x) ≡ x ∷ drop (suc i) l
stored l i x h = rw (set_split l i x) (drop_at (take i l) (x ∷ drop (suc i) l) i (length-take-le i l (omega arith)))

-- The digits of x from the last one on: those behind place i stand in a text of 20, and the rest is still to be written.
pub record Spelling (x : ℕ) (text : List ℕ) (i rest : ℕ) : Type 0 where
  pub place : i < 20
  pub long : length text ≡ 20
  pub fits : rest < 10 ^ suc i
  pub list : decimal (suc i) rest ++ drop (suc i) text ≡ decimal 20 x

-- no digit yet
pub spelling_none : (x : ℕ) (text : List ℕ) → x < 10 ^ 20 → length text ≡ 20 → Spelling x text 19 x
spelling_none x text h l =
    record {
      place = omega arith;
      long = l;
      fits = h;
      list = rw (drop_of_length-le text {i = 20} (omega arith), append-nil);
    }

module _ {x : ℕ} {text : List ℕ} {i rest : ℕ} (s : Spelling x text i rest) where
  -- a number of two digits or more has a place before its last one
  pub place_before : 10 ≤ rest → 1 ≤ i
  place_before h = go i s.fits
    where
      go : (n : ℕ) → rest < 10 ^ suc n → 1 ≤ n
      go zero f = absurd (omega arith)
      go (suc n) f = omega arith

  -- a digit that others stand before
  pub spelling_more : 10 ≤ rest → Spelling x (set text i (48 + rest % 10)) (i - 1) (rest / 10)
  spelling_more h =
      let e : suc (i - 1) ≡ i = omega (arith, place_before h) in
      let f : rest < 10 ^ i * 10 = rw pow-suc at s.fits in
      let l : _ = rw (last_digit i rest h, append_snoc) at s.list in
      record {
        place = omega (arith, s.place);
        long = simp length-set s.long;
        fits = rw e (omega arith);
        list = rw (e, stored text i (48 + rest % 10) (omega (arith, s.place, s.long))) l;
      }

  -- the first digit: the number stands from it on
  module _ (h : rest < 10) where
    first_on : drop i (set text i (48 + rest)) ≡ decimal 20 x
    unfolding decimal
    first_on = stored text i (48 + rest) (omega (arith, s.place, s.long)) ∙ rw (lt-ltb rest 10 h) at s.list

    long_on : length (decimal 20 x) ≡ 20 - i
    long_on = rw (← first_on) (simp (length-drop, length-set) (omega (arith, s.long)))

    pub spelling_first : take (20 - i) (drop i (set text i (48 + rest))) ≡ decimal 20 x
    spelling_first = rw first_on (take_all (20 - i) (decimal 20 x) (omega (arith, long_on)))

    -- and it is written
    pub spelling_put : {at : ℕ} {out l : List ℕ} → l ≡ splice at (take (20 - i) (drop i (set text i (48 + rest)))) out
        → Put (decimal 20 x) at (at + (20 - i)) out l
    spelling_put {at} {out} e =
        put_as (put_first (decimal 20 x) at out (e ∙ rw spelling_first)) refl (omega (arith, long_on))
