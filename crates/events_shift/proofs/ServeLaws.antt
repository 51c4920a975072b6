-- Lines that are served one after the other: a turn of the loop, and its ends.
use mathlib.Core.Path.{◌≡◌, refl, sym, ◌∙◌, ap}
use mathlib.Core.Bool.{true, false}
use mathlib.Core.List.{List, [], ◌∷◌, ◌++◌}
use Prim.Native.Nat.{ℕ, ◌+◌, ◌-◌, ◌≤◌, ◌<◌}
use native.Mathlib.Omega.{arith}
use lib.Dec.{leb}
use lib.ListN.{length, take, drop, length-append}
use borrow.Author.Tests.{le-leb, lt-leb}
use Rattle.octets.specs.Octets.{over, splice}
use Rattle.octets.proofs.Over.{then_splice, splice_none}
use Rattle.plan.specs.Line.{lf, parted}
use Rattle.plan_lines.specs.CappedLine.{end_of}
use Rattle.plan_lines.proofs.Parts.{last_field, next_field, some_part}
use Rattle.events_shift.specs.Lines.{cut_at, cut}
use Rattle.events_shift.specs.Step.{step, step_room}
use Rattle.events_shift.specs.Held.{Taken}
use Rattle.events_shift.specs.Served.{Served, served, behind, Turned}
use Rattle.events_shift.proofs.Pieces.{cut_cons}
use Rattle.events_shift.proofs.Bounds.{put_inside}

-- the lines from a place on
abbrev lines_from : List ℕ → ℕ → List (List ℕ)
lines_from buffer from = (cut (drop from buffer)).lines

-- the line that ends at the LF found
module _ (buffer : List ℕ) (from end : ℕ) (found : end ≡ end_of lf from (drop from buffer)) (low : from ≤ end) where
  line_next : end < length buffer
      → (lines_from buffer from ≡ take (end - from) (drop from buffer) ∷ lines_from buffer (end + 1))
      × ((cut (drop from buffer)).rest ≡ (cut (drop (end + 1) buffer)).rest)
  unfolding cut
  line_next h =
      let parts : _ = next_field lf from end buffer found low h in
      let c : _ = cut_cons (take (end - from) (drop from buffer)) (parted lf (drop (end + 1) buffer)) (some_part lf (drop (end + 1) buffer)) in
      (ap (λ (l : List (List ℕ)). (cut_at l).lines) parts ∙ c.0, ap (λ (l : List (List ℕ)). (cut_at l).rest) parts ∙ c.1)

  line_none : end ≡ length buffer → lines_from buffer from ≡ []
  unfolding cut cut_at
  line_none h = ap (λ (l : List (List ℕ)). (cut_at l).lines) (last_field lf from end buffer found low h)

-- Without room no line is served.
stopped : (room : ℕ) (image : List ℕ) (number : ℕ) (lines : List (List ℕ)) → leb step_room room ≡ false
    → served room image number lines ≡ record { image = image; number = number; printed = []; left = lines }
unfolding served
stopped room image number [] h = refl
stopped room image number (line ∷ lines) h = rw h

module _ (image₀ buffer : List ℕ) (from₀ number₀ : ℕ) (out₀ : List ℕ) where
  abbrev all : Served
  all = served (length out₀) image₀ number₀ (lines_from buffer from₀)

  -- what is still to be served
  abbrev due : List ℕ → ℕ → ℕ → ℕ → Served
  due image from number at = served (length out₀ - at) image number (lines_from buffer from)

  -- what is served and what is due are all
  pub record Serving (image out : List ℕ) (from number at : ℕ) : Type 0 where
    pub inside : from ≤ length buffer
    pub few : number + (length buffer - from) ≤ number₀ + (length buffer - from₀)
    pub room : at ≤ length out
    pub long : length out ≡ length out₀
    pub rest : (cut (drop from buffer)).rest ≡ (cut (drop from₀ buffer)).rest
    pub image_due : (due image from number at).image ≡ all.image
    pub number_due : (due image from number at).number ≡ all.number
    pub left_due : (due image from number at).left ≡ all.left
    pub printed_due : splice at (due image from number at).printed out ≡ over all.printed out₀
    pub count_due : at + length (due image from number at).printed ≡ length all.printed

  pub serving_start : from₀ ≤ length buffer → Serving image₀ out₀ from₀ number₀ 0
  serving_start h =
      let z : length out₀ - 0 ≡ length out₀ = omega arith in
      record {
        inside = h;
        few = omega arith;
        room = omega arith;
        long = refl;
        rest = refl;
        image_due = rw z;
        number_due = rw z;
        left_due = rw z;
        printed_due = rw z;
        count_due = rw z (omega arith);
      }

  module _ {image out : List ℕ} {from number at : ℕ} (s : Serving image out from number at) where
    turned : due image from number at ≡ record { image = image; number = number; printed = []; left = lines_from buffer from }
        → Turned image₀ buffer from₀ number₀ out₀ (record { from = from; number = number; at = at }) image out
    turned e =
        record {
          place = s.inside;
          fits = omega (arith, s.room, s.long);
          stored = rw e at s.image_due;
          numbered = rw e at s.number_due;
          written = sym (splice_none at out) ∙ rw e at s.printed_due;
          count = let c : at + 0 ≡ length all.printed = rw e at s.count_due in omega arith;
          left = rw e at s.left_due;
          rest = s.rest;
        }

    -- no room is left
    pub served_full : length out - at < step_room
        → Turned image₀ buffer from₀ number₀ out₀ (record { from = from; number = number; at = at }) image out
    served_full h =
        turned (stopped (length out₀ - at) image number (lines_from buffer from)
        (lt-leb step_room (length out₀ - at) (omega (arith, s.long))))

    module _ {end : ℕ} (found : end ≡ end_of lf from (drop from buffer)) (low : from ≤ end) where
      -- no line is left
      pub served_all : end ≡ length buffer
          → Turned image₀ buffer from₀ number₀ out₀ (record { from = from; number = number; at = at }) image out
      unfolding served
      served_all h = turned (rw (line_none buffer from end found low h))

      -- a line more
      pub serving_turn : end < length buffer → step_room ≤ length out - at
          → {frame sent image' frame' sent' out' : List ℕ} {r : ℕ}
          → Taken image number (take (end - from) (drop from buffer)) frame sent out at r image' frame' sent' out'
          → length out' ≡ length out
          → Serving image' out' (end + 1) (number + 1) r
      unfolding served behind
      serving_turn h roomy {image' = image'} {out' = out'} {r} t same =
          let line : List ℕ = take (end - from) (drop from buffer) in
          let w : List ℕ = (step image number line).line in
          let n : _ = line_next buffer from end found low h in
          let fits : at + length w ≤ length out = omega (arith, put_inside w out at r t.printed s.room, t.printed.place, same) in
          let ok : leb step_room (length out₀ - at) ≡ true = le-leb step_room (length out₀ - at) (omega (arith, s.long)) in
          let less : length out₀ - at - length w ≡ length out₀ - r = omega (arith, t.printed.place) in
          let rest' : Served = due image' (end + 1) (number + 1) r in
          let e : due image from number at
          ≡ record { image = rest'.image; number = rest'.number; printed = w ++ rest'.printed; left = rest'.left }
          = rw (n.0, ok, less, ← t.stored) in
          record {
            inside = omega arith;
            few = omega (arith, s.few, s.inside);
            room = omega (arith, t.printed.place, fits, same);
            long = same ∙ s.long;
            rest = sym n.1 ∙ s.rest;
            image_due = rw e at s.image_due;
            number_due = rw e at s.number_due;
            left_due = rw e at s.left_due;
            printed_due =
                then_splice at r w rest'.printed out t.printed.written refl t.printed.place
                (omega (arith, t.printed.place, fits))
                ∙ rw e at s.printed_due;
            count_due =
                let c : at + length (w ++ rest'.printed) ≡ length all.printed = rw e at s.count_due in
                omega (arith, t.printed.place, rw length-append at c);
          }
