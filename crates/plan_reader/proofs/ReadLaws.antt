-- A text read line by line: one turn.
use mathlib.Core.Path.{◌≡◌, refl, sym, ap, ◌∙◌}
use mathlib.Core.Bool.{true, cond}
use mathlib.Core.List.{List, [], ◌∷◌}
use Prim.Native.Nat.{ℕ, ◌+◌, ◌-◌, ◌<◌, ◌≤◌}
use native.Mathlib.Nat.{not-suc-le-zero}
use native.Mathlib.Omega.{arith}
use lib.Dec.{eqb}
use lib.ListN.{length, take, drop, length-drop, drop_of_length-le}
use borrow.Author.Tests.{ne_eqb}
use Rattle.plan.specs.declared.Records.{Records}
use Rattle.plan.specs.Plan.{Plan, so_far}
use Rattle.plan.specs.Line.{lf, parted, line_of}
use Rattle.plan.specs.PlanText.{Reading, fault, reason_of, added, finished, read_lines, empty_plan}
use Rattle.plan.specs.Records.{plan_of, by_value}
use Rattle.plan.proofs.FairLines.{line_fair}
use Rattle.plan.proofs.ReadKeeps.{added_keeps, none_so_far}
use Rattle.plan.proofs.ByValue.{value_back}
use Rattle.plan_lines.specs.CappedLine.{end_of}
use Rattle.plan_reader.specs.ReadPlan.{judged, read_as}
use Rattle.plan_reader.specs.declared.fault.Reason.{Reason}
use Rattle.std.specs.Prelude.{Ok, Err}
use Rattle.plan_lines.proofs.Parts.{last_field, next_field, some_part}
use Rattle.plan_reader.proofs.ReasonLaws.{judged_good, judged_bad}

line_read : (n : ℕ) (plan : Plan) (line : List ℕ) (parts : List (List ℕ)) → 1 ≤ length parts
    → read_lines n plan (line ∷ parts)
    ≡ cond (eqb (reason_of plan (line_of line)) 0) (read_lines (n + 1) (added (line_of line) plan) parts)
    (fault n (reason_of plan (line_of line)))
unfolding read_lines
line_read n plan line [] h = absurd (not-suc-le-zero h)
line_read n plan line (next ∷ parts) h = refl

-- The text is read up to `at`: the records are those of a plan that keeps the rules so far, and what is left is read on with it.
pub record ReadTo (text : List ℕ) (records : Records) (n at : ℕ) : Type 0 where
  pub value : records ≡ by_value (plan_of records)
  pub keeps : so_far (plan_of records) ≡ true
  pub goes_on : read_lines n (plan_of records) (parted lf (drop at text)) ≡ read_lines 1 empty_plan (parted lf text)

pub none_read : (text : List ℕ) (records : Records) → records ≡ by_value empty_plan → ReadTo text records 1 0
none_read text records e =
    let p : plan_of records ≡ empty_plan = ap plan_of e ∙ value_back empty_plan none_so_far in
    record { value = e ∙ ap by_value (sym p); keeps = ap so_far p ∙ none_so_far; goes_on = rw p }

pub all_read : {text : List ℕ} {records : Records} {n at : ℕ} → ReadTo text records n at → length text ≤ at
    → finished (plan_of records) ≡ read_lines 1 empty_plan (parted lf text)
unfolding parted read_lines
all_read {text} {at = at} w h =
    let z : drop at text ≡ [] = drop_of_length-le text {i = at} h in
    rw z at w.goes_on

-- the line from `at` on, which ends at e
module _ (text : List ℕ) (at e n : ℕ) (records : Records) (w : ReadTo text records n at) (k : e ≡ end_of lf at (drop at text))
    (low : at ≤ e) where
  abbrev plan : Plan
  plan = plan_of records

  abbrev X : Reading
  X = read_lines 1 empty_plan (parted lf text)

  pub cut_off : at < length text → e ≡ length text → fault n 1 ≡ X
  unfolding read_lines
  cut_off h t =
      let p : parted lf (drop at text) ≡ drop at text ∷ [] = last_field lf at e text k low t in
      let z : length (drop at text) ≡ length text - at = length-drop at text in
      let r : read_lines n plan (drop at text ∷ []) ≡ X = ap (read_lines n plan) (sym p) ∙ w.goes_on in
      let some : length (drop at text) ≡ 0 → ⊥ = λ y. omega (arith, y) in
      rw (ne_eqb (length (drop at text)) 0 some) at r

  module _ (h : e < length text) where
    abbrev line : List ℕ
    line = take (e - at) (drop at text)

    turn : cond (eqb (reason_of plan (line_of line)) 0)
        (read_lines (n + 1) (added (line_of line) plan) (parted lf (drop (e + 1) text)))
        (fault n (reason_of plan (line_of line)))
        ≡ X
    turn =
        sym (line_read n plan line (parted lf (drop (e + 1) text)) (some_part lf (drop (e + 1) text)))
        ∙ ap (read_lines n plan) (sym (next_field lf at e text k low h))
        ∙ w.goes_on

    pub line_faulty : {e : Reason} → Err e ≡ judged (reason_of plan (line_of line))
        → Err (record { line = n; reason = e }) ≡ read_as X
    unfolding read_as
    line_faulty {e} j =
        let b : _ = judged_bad (reason_of plan (line_of line)) j in
        let t : fault n (reason_of plan (line_of line)) ≡ X = rw (ne_eqb (reason_of plan (line_of line)) 0 b.0) at turn in
        rw b.1 (ap read_as t)

    module _ {next : Records} (j : Ok tt ≡ judged (reason_of plan (line_of line)))
        (en : next ≡ by_value (added (line_of line) plan)) where
      none : reason_of plan (line_of line) ≡ 0
      none = judged_good (reason_of plan (line_of line)) j

      grown_keeps : so_far (added (line_of line) plan) ≡ true
      grown_keeps = added_keeps plan (line_of line) w.keeps (line_fair line) none

      held : plan_of next ≡ added (line_of line) plan
      held = ap plan_of en ∙ value_back (added (line_of line) plan) grown_keeps

      pub line_good : ReadTo text next (n + 1) (e + 1)
      line_good =
          record {
            value = en ∙ ap by_value (sym held);
            keeps = ap so_far held ∙ grown_keeps;
            goes_on = ap (λ p. read_lines (n + 1) p (parted lf (drop (e + 1) text))) held ∙ (rw none at turn);
          }
