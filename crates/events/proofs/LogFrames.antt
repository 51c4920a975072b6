-- A frame's line by its fields: what is learnt of each field, and what the line is read as.
use mathlib.Core.Path.{◌≡◌, refl, ◌∙◌}
use mathlib.Core.Bool.{cond, ◌&&◌, and-false}
use mathlib.Core.List.{List, [], ◌∷◌}
use Prim.Native.Nat.{ℕ}
use native.Mathlib.Omega.{arith}
use lib.ListN.{length}
use borrow.Author.Tests.{ne_eqb}
use Rattle.std.specs.Prelude.{Option, Some, None}
use Rattle.octets.proofs.Same.{both_true}
use Rattle.plan.specs.Line.{tab, parted, field, number_in}
use Rattle.events.specs.declared.Logged.TheVariants.{Frame}
use Rattle.events.specs.Event.{Event, frame, unreadable, is_count, is_octets, octets_in, as_frame}
use Rattle.events.specs.Read.{logged, octets_of, count_in, HexAs, ReadAs}
use Rattle.events.proofs.Counts.{a_count, no_count}
use Rattle.events.proofs.HexFields.{some_octets, no_octets}
use Rattle.events.proofs.LogFields.{last_alone, octets_plain}

-- a line of another count of fields is no frame's
other_count : (fields : List (List ℕ)) → (length fields ≡ 4 → ⊥) → as_frame fields ≡ unreadable
unfolding as_frame
other_count fields n = rw (ne_eqb (length fields) 4 n)

-- a line that can't be read has no octets
pub not_read : {e : Event} → e ≡ unreadable → (room : List ℕ) → ReadAs e None room room
unfolding logged octets_of
not_read h room = record { event = rw h; octets = rw h }

-- three fields stand behind the word
pub not_three : (rest room : List ℕ) → (length (parted tab rest) ≡ 3 → ⊥)
    → ReadAs (as_frame ([] ∷ parted tab rest)) None room room
not_three rest room n = not_read (other_count ([] ∷ parted tab rest) (λ z. n (omega arith))) room

module _ (port side hex : List ℕ) where
  abbrev read : Event
  read = as_frame ([] ∷ port ∷ side ∷ parted tab hex)

  -- what stands behind the side is octets, or the line can't be read
  by_fields : read
      ≡ cond (is_count port && is_count side && is_octets hex) (frame (number_in port) (number_in side) (octets_in hex)) unreadable
  unfolding as_frame field
  by_fields =
      last_alone (λ fields. as_frame ([] ∷ port ∷ side ∷ fields)) (is_count port && is_count side && is_octets hex)
      (frame (number_in port) (number_in side) (octets_in hex)) unreadable hex
      (λ t. octets_plain hex (both_true (is_count port && is_count side) (is_octets hex) t).1)
      (λ fields h. other_count ([] ∷ port ∷ side ∷ fields) (λ z. omega arith)) refl

  -- by what was read of each field
  module _ (room : List ℕ) where
    pub bad_port : count_in port ≡ None → ReadAs read None room room
    bad_port h = not_read (by_fields ∙ rw (no_count port h)) room

    module _ {p : ℕ} (ep : count_in port ≡ Some p) where
      pub bad_side : count_in side ≡ None → ReadAs read None room room
      bad_side h = not_read (by_fields ∙ rw (no_count side h, and-false)) room

      module _ {s : ℕ} (es : count_in side ≡ Some s) {o : Option ℕ} {after : List ℕ} (k : HexAs hex o room after) where
        pub bad_hex : o ≡ None → ReadAs read None room after
        bad_hex h =
            let z : _ = no_octets hex room k h in
            rw z.1 (not_read (by_fields ∙ rw (z.0, and-false)) room)

        pub frame_read : {n : ℕ} → o ≡ Some n → ReadAs read (Some (Frame p s n)) room after
        unfolding logged octets_of
        frame_read h =
            let x : _ = a_count port ep in
            let y : _ = a_count side es in
            let z : _ = some_octets hex room k h in
            let e : read ≡ frame (number_in port) (number_in side) (octets_in hex) = by_fields ∙ rw (x.0, y.0, z.0) in
            record { event = rw (x.1, y.1, z.1, e); octets = k.octets ∙ rw (z.0, e) }
