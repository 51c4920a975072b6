-- A line by its word: with no field, with one, or a frame's.
use mathlib.Core.Path.{◌≡◌, refl}
use mathlib.Core.Bool.{Bool, true, false, cond}
use mathlib.Core.List.{List, [], ◌∷◌}
use Prim.Native.Nat.{ℕ, ◌<◌, ◌≤◌}
use native.Mathlib.Omega.{arith}
use lib.ListN.{length}
use borrow.Author.Tests.{le-leb, lt-leb, ne_eqb}
use Rattle.octets.specs.Octets.{same}
use Rattle.octets.specs.Text.{text}
use Rattle.octets.proofs.Same.{same_equal}
use Rattle.plan.specs.Line.{tab, parted, field, number_in}
use Rattle.plan_lines.proofs.Words.{by_test}
use Rattle.events.specs.Event.{Event, notice, unreadable, line_room}
use Rattle.events.specs.Event.{is_count, as_frame, as_numbered, as_notice, by_word, event_of}
use Rattle.std.specs.Prelude.{None}
use Rattle.events.specs.Read.{logged, octets_of, numbered}
use Rattle.events.proofs.LogFields.{last_alone, count_plain}

-- a choice between two that are the same
either : {A : Type 0} (b : Bool) (x : A) → cond b x x ≡ x
either true x = refl
either false x = refl

-- the octets of one of two events
octets_either : (b : Bool) (x y : Event) → octets_of (cond b x y) ≡ cond b (octets_of x) (octets_of y)
octets_either true x y = refl
octets_either false x y = refl

-- a line that a log holds, and one that it does not
pub held : (line : List ℕ) → length line ≤ line_room → event_of line ≡ by_word (parted tab line)
unfolding event_of
held line h = rw (le-leb (length line) line_room h)

pub too_long : (line : List ℕ) → line_room < length line → event_of line ≡ unreadable
unfolding event_of
too_long line h = rw (lt-leb (length line) line_room h)

module _ (word : List ℕ) where
  -- `notice`, and no other word, stands alone
  pub alone_read : by_word (word ∷ []) ≡ cond (same word (text "notice")) notice unreadable
  unfolding by_word field as_frame as_numbered as_notice text same
  alone_read =
      by_test (same word (text "notice")) (λ e. rw (same_equal word (text "notice") e)) (λ e. simp (e, either))

  -- only a frame has octets
  pub alone_octets : octets_of (by_word (word ∷ [])) ≡ []
  unfolding octets_of
  alone_octets = rw alone_read (simp (octets_either, either))

  -- a frame's line by what stands behind its word
  pub as_frame_lem : (fields : List (List ℕ)) → same word (text "frame") ≡ true → by_word (word ∷ fields) ≡ as_frame ([] ∷ fields)
  unfolding by_word field as_frame
  as_frame_lem fields e = rw e

  module _ (n : same word (text "frame") ≡ false) where
    -- any other word has at most one field, which is a number
    too_many : (fields : List (List ℕ)) → 2 ≤ length fields → by_word (word ∷ fields) ≡ unreadable
    unfolding by_word field as_numbered as_notice
    too_many fields h =
        let two : _ = ne_eqb (length {A = List ℕ} (word ∷ fields)) 2 (λ z. omega arith) in
        let one : _ = ne_eqb (length {A = List ℕ} (word ∷ fields)) 1 (λ z. omega arith) in
        simp (n, two, one, either)

    one_field : (f : List ℕ) → by_word (word ∷ f ∷ []) ≡ cond (is_count f) (numbered word (number_in f)) unreadable
    unfolding by_word field as_numbered as_notice numbered text same
    one_field f =
        by_test (same word (text "notice")) (λ e. rw (same_equal word (text "notice") e) (simp either))
        (λ e. by_test (is_count f) (λ t. simp (n, e, t)) (λ t. simp (n, e, t, either)))

    pub with_number : (f : List ℕ) → by_word (word ∷ parted tab f) ≡ cond (is_count f) (numbered word (number_in f)) unreadable
    with_number f =
        last_alone (λ fields. by_word (word ∷ fields)) (is_count f) (numbered word (number_in f)) unreadable f (count_plain f)
        too_many (one_field f)

    pub number_octets : (f : List ℕ) → octets_of (by_word (word ∷ parted tab f)) ≡ []
    unfolding octets_of numbered
    number_octets f = rw (with_number f) (simp (octets_either, either))

-- any other word
pub other_word : (word : List ℕ) (n : ℕ) → same word (text "tick") ≡ false → same word (text "allow") ≡ false
    → same word (text "prohibit") ≡ false → same word (text "restart") ≡ false → None ≡ logged (numbered word n)
unfolding logged numbered
other_word word n a b c d = simp (a, b, c, d)
