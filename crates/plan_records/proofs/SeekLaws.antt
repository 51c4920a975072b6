-- The rows held, and what is found among them: in the library's words, and turn by turn.
use Rattle.std.proofs.Common.{◌≡◌, ℕ, ◌+◌, ◌<◌, ◌≤◌, Bool, true, false, cond, ◌||◌, not, List, [], ◌∷◌, length, get_or, drop, refl, ap, sym, ◌∙◌, arith, eqb, leb}
use Prim.Native.Nat.{suc}
use native.Mathlib.Numerals.{one-add, add-one}
use native.Mathlib.Nat.{add-zero, not-suc-le-zero}
use lib.Dec.{ltb}
use lib.ListN.{drop_of_length-le}
use lib.Seq.{drop-cons}
use borrow.Author.Tests.{le-leb, lt-leb, ne_eqb}
use Rattle.std.specs.Option.{unwrap_or}
use Rattle.std.specs.declared.option.Option.{Option}
use Rattle.std.specs.declared.option.Option.TheVariants.{None, Some}
use Rattle.std.specs.List.{list_any, position_or_len, take_while, count_by}
use Rattle.std.proofs.lemmas.List.Sums.{take_while-cons, prefix_len-le-length}
use Rattle.std.proofs.lemmas.List.Recursion.{is_count_by}
use Rattle.octets.specs.Lists.{first, some, count}
use Rattle.octets.proofs.Cases.{by_lt, by_eq}
use Rattle.plan.specs.declared.Flow.{Flow}
use Rattle.plan.specs.Plan.{no_flow, in_plan, mps_of, mp_count}
use Rattle.plan.specs.Records.{held}
use Rattle.plan.proofs.HeldLaws.{Rows, rows_end, rows_none, rows_one}
use Rattle.plan_records.specs.Insertion.{place_of}

not_low : (a k : ℕ) → not (leb k a) ≡ ltb a k
not_low a k = by_lt a k (λ e h. rw (e, lt-leb k a h)) (λ e h. rw (e, le-leb k a h))

module _ {A : Type 0} where
  -- where the first element stands that passes, or the length where none does
  pub first_place : (test : A → Bool) (l : List A) {r : Option ℕ}
      → r ≡ cond (ltb (position_or_len test l) (length l)) (Some (position_or_len test l)) None
      → unwrap_or r (length l) ≡ position_or_len test l
  first_place test l e =
      by_lt (position_or_len test l) (length l) (λ f h. rw (e, f))
      (λ f h. rw (e, f) (omega (arith, prefix_len-le-length (λ x. not (test x)) l)))

  more : (number : A → ℕ) (x : A) (l : List A) → take_while (λ y. not (eqb (number y) 0)) l ≡ held number l
      → cond (not (eqb (number x) 0)) (x ∷ take_while (λ y. not (eqb (number y) 0)) l) [] ≡ held number (x ∷ l)
  unfolding held
  more number x l e = go (eqb (number x) 0)
    where
      go : (b : Bool) → cond (not b) (x ∷ take_while (λ y. not (eqb (number y) 0)) l) [] ≡ cond b [] (x ∷ held number l)
      go true = refl
      go false = ap (λ (r : List A). x ∷ r) e

  pub held_front : (number : A → ℕ) (l : List A) → take_while (λ x. not (eqb (number x) 0)) l ≡ held number l
  unfolding held
  held_front number [] = refl
  held_front number (x ∷ l) = take_while-cons (λ y. not (eqb (number y) 0)) x l ∙ more number x l (held_front number l)

  pub held_short : (number : A → ℕ) (l : List A) → length (held number l) ≤ length l
  unfolding held
  held_short number [] = omega arith
  held_short number (x ∷ l) =
      let h : length (held number l) ≤ length l = held_short number l in
      by_eq (number x) 0 (λ e z. rw e (omega arith)) (λ e n. rw e (omega arith))

  pub none_held_lem : (number : A → ℕ) (d : A) (l : List A) → 0 < length l
      → eqb (number (get_or l 0 d)) 0 ≡ eqb (length (held number l)) 0
  unfolding held
  none_held_lem number d [] h = absurd (not-suc-le-zero h)
  none_held_lem number d (x ∷ l) h = go (eqb (number x) 0)
    where
      go : (b : Bool) → b ≡ eqb (length (cond b [] (x ∷ held number l))) 0
      go true = refl
      go false = sym (ne_eqb (suc (length (held number l))) 0 (λ z. omega (arith, z)))

  pub place_front : (key : A → ℕ) (k : ℕ) (l : List A) → position_or_len (λ x. leb k (key x)) l ≡ place_of key k l
  unfolding place_of
  place_front key k [] = refl
  place_front key k (x ∷ l) =
      rw (not_low, one-add) (ap (λ (n : ℕ). cond (ltb (key x) k) (suc n) 0) (place_front key k l))

  pub some_any : (test : A → Bool) (l : List A) → list_any test l ≡ some test l
  unfolding some
  some_any test [] = refl
  some_any test (x ∷ l) = ap (λ (b : Bool). test x || b) (some_any test l)

-- is there a flow held that passes?
pub there_any : (test : Flow → Bool) (l : List Flow)
    → list_any test (held (λ f. f.number) l) ≡ in_plan (first test no_flow (held (λ f. f.number) l)).number
unfolding held first in_plan no_flow
there_any test [] = refl
there_any test (f ∷ l) =
    by_eq f.number 0 (λ e z. rw e)
    (λ e n.
    let low : 1 ≤ f.number = omega (arith, n) in
    rw e (go (test f) low (there_any test l)))
  where
    go : (b : Bool) → 1 ≤ f.number
        → list_any test (held (λ f. f.number) l) ≡ in_plan (first test no_flow (held (λ f. f.number) l)).number
        → (b || list_any test (held (λ f. f.number) l))
        ≡ in_plan (cond b f (first test no_flow (held (λ f. f.number) l))).number
    go true h e = sym (le-leb 1 f.number h)
    go false h e = e

step : (x : ℕ) (xs : List ℕ)
    → cond (leb 1 x) 1 0 + count (leb 1) xs ≡ cond (not (eqb x 0)) (1 + count (leb 1) xs) (count (leb 1) xs)
step x xs =
    by_eq x 0 (λ e z. rw z (omega arith))
    (λ e n.
    let h : 1 ≤ x = omega (arith, n) in
    rw (e, le-leb 1 x h))

-- the MPs of a flow, and of the flow at i and those behind it
pub mps_counted : (l : List ℕ) → count (leb 1) l ≡ count_by (λ mp. not (eqb mp 0)) l
unfolding count
mps_counted l = is_count_by (count (leb 1)) (λ mp. not (eqb mp 0)) refl step l

pub mps_turn : (l : List Flow) (i : ℕ) (d : Flow) {n : ℕ} → i < length l
    → n ≡ count_by (λ mp. not (eqb mp 0)) (get_or l i d).mps → mp_count (drop i l) ≡ n + mp_count (drop (i + 1) l)
unfolding mp_count mps_of
mps_turn l i d h e = rw (add-one, drop-cons l i d h, mps_counted, e)

pub mps_end : (l : List Flow) (i : ℕ) → length l ≤ i → mp_count (drop i l) ≡ 0
unfolding mp_count
mps_end l i h = ap mp_count (drop_of_length-le l h)

-- ---- turn by turn: the laws over the element, the test and what is answered

-- what a search from row i on answers: of the first element that passes the test, or else one thing
pub record Seeks {A B : Type 0} (test : A → Bool) (found : ℕ → A → B) (other : ℕ → B) (f : ℕ → List A → B) : Type 0 where
  pub end : (i : ℕ) → f i [] ≡ other i
  pub one : (i : ℕ) (x : A) (l : List A) → f i (x ∷ l) ≡ cond (test x) (found i x) (f (i + 1) l)

module _ {A : Type 0} (test : A → Bool) where
  pub first_seeks : (other : A) → Seeks test (λ i x. x) (λ i. other) (λ i. first test other)
  unfolding first
  first_seeks other = record { end = λ i. refl; one = λ i x l. refl }

  pub some_seeks : Seeks test (λ i x. true) (λ i. false) (λ i. some test)
  unfolding some
  some_seeks = record { end = λ i. refl; one = λ i x l. either (test x) (some test l) }
    where
      either : (p q : Bool) → (p || q) ≡ cond p true q
      either true q = refl
      either false q = refl

pub there_seeks : (test : Flow → Bool)
    → Seeks test (λ i f. leb 1 f.number) (λ i. false) (λ i l. in_plan (first test no_flow l).number)
unfolding first in_plan no_flow
there_seeks test = record { end = λ i. refl; one = λ i x l. either (test x) x (first test no_flow l) }
  where
    either : (p : Bool) (x y : Flow) → leb 1 (cond p x y).number ≡ cond p (leb 1 x.number) (leb 1 y.number)
    either true x y = refl
    either false x y = refl

-- the place of a key is the row of the first element that is not below it
pub place_seeks : {A : Type 0} (key : A → ℕ) (k : ℕ)
    → Seeks (λ x. leb k (key x)) (λ i x. i) (λ i. i) (λ i l. i + place_of key k l)
unfolding place_of
place_seeks key k =
    record {
      end = λ i. add-zero i;
      one = λ i x l.
          by_lt (key x) k (λ e t. rw (e, lt-leb k (key x) t) (omega arith)) (λ e t. rw (e, le-leb k (key x) t) (omega arith));
    }

pub number_up : (n : ℕ) → (n ≡ 0 → ⊥) → true ≡ leb 1 n
number_up n e = let h : 1 ≤ n = omega (arith, e) in sym (le-leb 1 n h)

-- a search that has come to row i of n: from there it answers what it answers from the start
pub record Sought {A B : Type 0} (f : ℕ → List A → B) (held : List A → List A) (n : ℕ) (l : List A) (i : ℕ) : Type 0 where
  pub long : length l ≡ n
  pub low : i ≤ n
  pub same : f i (held (drop i l)) ≡ f 0 (held l)

module _ {A B : Type 0} {number : A → ℕ} {held : List A → List A} {test : A → Bool} {found : ℕ → A → B} {other : ℕ → B}
    {f : ℕ → List A → B} (rows : Rows number held) (seeks : Seeks test found other f) {n : ℕ} {l : List A} {i : ℕ}
    (s : Sought f held n l i) where
  pub seek_end : n ≤ i → other i ≡ f 0 (held l)
  seek_end h = sym (seeks.end i) ∙ ap (f i) (sym (rows_end rows l i (omega arith))) ∙ s.same

  module _ (d : A) (h : i < n) where
    pub seek_none : number (get_or l i d) ≡ 0 → other i ≡ f 0 (held l)
    seek_none e = sym (seeks.end i) ∙ ap (f i) (sym (rows_none rows l i d (omega arith) e)) ∙ s.same

    turn : (number (get_or l i d) ≡ 0 → ⊥)
        → cond (test (get_or l i d)) (found i (get_or l i d)) (f (i + 1) (held (drop (i + 1) l))) ≡ f 0 (held l)
    turn e =
        sym (seeks.one i (get_or l i d) (held (drop (i + 1) l))) ∙ ap (f i) (sym (rows_one rows l i d (omega arith) e)) ∙ s.same

    pub seek_hit : (number (get_or l i d) ≡ 0 → ⊥) → test (get_or l i d) ≡ true → found i (get_or l i d) ≡ f 0 (held l)
    seek_hit e t = rw t at (turn e)

    pub seek_on : (number (get_or l i d) ≡ 0 → ⊥) → test (get_or l i d) ≡ false → Sought f held n l (i + 1)
    seek_on e t = record { long = s.long; low = omega arith; same = rw t at (turn e) }
