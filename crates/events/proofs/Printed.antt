-- The parts of a line that is printed, written one behind another, are the line.
use mathlib.Core.Path.{◌≡◌, refl}
use mathlib.Core.List.{List, [], ◌∷◌, ◌++◌, append_assoc}
use Prim.Native.Nat.{ℕ, ◌+◌, ◌*◌, ◌≤◌}
use native.Mathlib.Omega.{arith}
use lib.ListN.{length, get_or, set}
use Rattle.octets.specs.Text.{text}
use Rattle.plan.specs.Line.{tab, lf}
use Rattle.plan.specs.WrittenPlan.{tabbed}
use Rattle.events.specs.AnswerLine.{answered, refused, outcomes, in_decimal, in_hex, places_of, answer_line, fault_line}
use Rattle.events.specs.Read.{Put}
use Rattle.events.proofs.Puts.{put_then, put_more, put_as}
use Rattle.events.proofs.Ends.{decimal_end, number_end, head_end, outcome_end}

-- a field and the tab behind it
abbrev ended : List ℕ → List ℕ
ended l = l ++ (tab ∷ [])

-- fields with their tabs, and the last one with its LF
three_fields : (a b c : List ℕ) → ended a ++ ended b ++ c ++ (lf ∷ []) ≡ tabbed (a ∷ b ∷ c ∷ []) ++ (lf ∷ [])
unfolding tabbed
three_fields a b c = simp append_assoc

five_fields : (a b c d e : List ℕ)
    → (ended a ++ ended b) ++ ended c ++ ended d ++ (e ++ (lf ∷ [])) ≡ tabbed (a ∷ b ∷ c ∷ d ∷ e ∷ []) ++ (lf ∷ [])
unfolding tabbed
five_fields a b c d e = simp append_assoc

-- the line of an answer, and of a refusal
module _ (number : ℕ) (word : List ℕ) {at named told counted r : ℕ} {o x y z l : List ℕ}
    (h : Put (ended (in_decimal number) ++ ended word) at named o x) where
  pub answer_put : (outcome : ℕ) (octets : List ℕ) → Put (ended (get_or outcomes outcome [])) named told x y
      → Put (ended (in_decimal (length octets))) told counted y z → Put (in_hex octets ++ (lf ∷ [])) counted r z l
      → at + 58 + length word + 2 * length octets ≤ length o → Put (answer_line number word (answered outcome octets)) at r o l
  unfolding answer_line places_of
  answer_put outcome octets p q e room =
      let hn : _ = head_end number word h in
      let ht : _ = outcome_end outcome p in
      let hc : _ = number_end (length octets) q in
      put_as (put_then (put_then (put_then h p (omega arith)) q (omega arith)) e (omega arith))
      (five_fields (in_decimal number) word (get_or outcomes outcome []) (in_decimal (length octets)) (in_hex octets)) refl

  pub refusal_put : (refusal : ℕ) → Put (ended (text "refused")) named told x y
      → Put (ended (in_decimal refusal)) told counted y z → Put (in_hex [] ++ (lf ∷ [])) counted r z l
      → at + 58 + length word ≤ length o → Put (answer_line number word (refused refusal)) at r o l
  unfolding answer_line places_of in_hex text
  refusal_put refusal p q e room =
      let hn : _ = head_end number word h in
      let hc : _ = number_end refusal q in
      put_as (put_then (put_then (put_then h p (omega arith)) q (omega (arith, p.place))) e (omega (arith, p.place)))
      (five_fields (in_decimal number) word (text "refused") (in_decimal refusal) (text "-")) refl

-- the line of a faulty plan
pub fault_put : (line reason : ℕ) {at named told end : ℕ} {o x y z : List ℕ} → Put (ended (text "plan")) at named o x
    → Put (ended (in_decimal line)) named told x y → Put (in_decimal reason) told end y z → at + 48 ≤ length o
    → Put (fault_line line reason) at (end + 1) o (set z end lf)
unfolding fault_line text
fault_put line reason p q e room =
    let ht : _ = number_end line q in
    let he : _ = decimal_end reason e in
    put_as (put_more lf (put_then (put_then p q (omega (arith, p.place))) e (omega (arith, p.place))) (omega (arith, p.place)))
    (three_fields (text "plan") (in_decimal line) (in_decimal reason)) refl
