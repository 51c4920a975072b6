-- Records that can be added one by one are read back from their lines.
use mathlib.Core.Path.{◌≡◌, refl, sym, subst, ◌∙◌}
use mathlib.Core.Bool.{true}
use mathlib.Core.List.{List, [], ◌∷◌, ◌++◌, map, flat_map, append_assoc}
use Prim.Native.Nat.{ℕ, zero, suc, ◌+◌, ◌-◌, ◌*◌, ◌/◌, ◌%◌, ◌≤◌}
use native.Mathlib.Omega.{arith}
use lib.Dec.{leb}
use lib.ListN.{length, length-append}
use borrow.Author.Tests.{leb-true, eq-eqb}
use Rattle.octets.specs.Lists.{every}
use Rattle.octets.specs.Text.{text}
use Rattle.octets.proofs.Cases.{by_lt}
use Rattle.plan.specs.Plan.{Plan}
use Rattle.plan.specs.Line.{Line, unreadable, port_line, flow_line, mp_line, lf, parted, port_kinds, flow_kinds, mp_kinds}
use Rattle.plan.specs.PlanText.{reason_of, added, finished, read_lines}
use Rattle.plan.specs.WrittenPlan.{decimal, word_at, fields_of, tabbed, line_text, ended}
use Rattle.plan.proofs.Fair.{fair_line}
use Rattle.plan.proofs.WrittenNumbers.{hex_length}
use Rattle.plan.proofs.WrittenFields.{parted_past, line_free, word_passes}
use Rattle.plan.proofs.WrittenLines.{line_back}

-- The records, added one by one and each with no fault, lead from one plan to another.
abbrev pub Adds : Plan → List Line → Plan → Type 0
Adds plan [] last = plan ≡ last
Adds plan (line ∷ lines) last = (fair_line line ≡ true) × (reason_of plan line ≡ 0) × Adds (added line plan) lines last

pub adds_join : (one two three : Plan) (a b : List Line) → Adds one a two → Adds two b three → Adds one (a ++ b) three
adds_join one two three [] b p q = subst (λ plan. Adds plan b three) (sym p) q
adds_join one two three (line ∷ a) b (f, e, p) q = (f, e, adds_join (added line one) two three a b p q)

pub text_parted : (lines : List Line) → parted lf (flat_map ended lines) ≡ map line_text lines ++ ([] ∷ [])
unfolding flat_map ended parted
text_parted [] = refl
text_parted (line ∷ lines) =
    rw (
      append_assoc (line_text line) (lf ∷ []) (flat_map ended lines),
      parted_past lf (line_text line) (flat_map ended lines) (line_free line),
      text_parted lines,
    )

-- the line of a record with no fault, which is not the last part
record_read : (n : ℕ) (plan : Plan) (line : Line) (next : List ℕ) (rest : List (List ℕ)) → fair_line line ≡ true
    → reason_of plan line ≡ 0
    → read_lines n plan (line_text line ∷ next ∷ rest) ≡ read_lines (n + 1) (added line plan) (next ∷ rest)
unfolding read_lines
record_read n plan line next rest f e = rw (line_back plan line f e, eq-eqb (reason_of plan line) 0 e)

nothing_read : (n : ℕ) (plan : Plan) → read_lines n plan ([] ∷ []) ≡ finished plan
unfolding read_lines
nothing_read n plan = refl

pub lines_read : (n : ℕ) (plan last : Plan) (lines : List Line) → Adds plan lines last
    → read_lines n plan (map line_text lines ++ ([] ∷ [])) ≡ finished last
lines_read n plan last [] p = rw (nothing_read n plan, p)
lines_read n plan last (line ∷ []) (f, e, p) =
    record_read n plan line [] [] f e ∙ lines_read (n + 1) (added line plan) last [] p
lines_read n plan last (line ∷ next ∷ lines) (f, e, p) =
    record_read n plan line (line_text next) (map line_text lines ++ ([] ∷ [])) f e
    ∙ lines_read (n + 1) (added line plan) last (next ∷ lines) p

-- how long a text is
pub decimal_short : (n x : ℕ) → length (decimal n x) ≤ n
unfolding decimal
decimal_short zero x = omega arith
decimal_short (suc n) x =
    by_lt x 10 (λ e s. rw e (omega arith))
    (λ e s. rw e (omega (arith, length-append (decimal n (x / 10)) ((48 + x % 10) ∷ []), decimal_short n (x / 10))))

word_short : (words : List (List ℕ)) → every (λ w. leb (length w) 4) words ≡ true → (n : ℕ) → length (word_at words n) ≤ 4
unfolding word_at
word_short words h n = leb-true (length (word_at words n)) 4 (word_passes (λ w. leb (length w) 4) refl words h (n - 1))

ended_short : (line : Line) → length (ended line) ≤ 28
unfolding ended line_text tabbed fields_of text every port_kinds flow_kinds mp_kinds
ended_short unreadable = omega arith
ended_short (port_line number kind address) =
    simp length-append
    (omega (arith, decimal_short 4 number, word_short port_kinds refl kind, hex_length 12 address))
ended_short (flow_line number port kind vid) =
    simp length-append
    (omega (arith, decimal_short 4 number, decimal_short 4 port, word_short flow_kinds refl kind, decimal_short 4 vid))
ended_short (mp_line flow kind level) =
    simp length-append (omega (arith, decimal_short 4 flow, word_short mp_kinds refl kind, decimal_short 4 level))

pub text_short : (lines : List Line) → length (flat_map ended lines) ≤ 28 * length lines
unfolding flat_map
text_short [] = omega arith
text_short (line ∷ lines) = rw length-append (omega (arith, ended_short line, text_short lines))
