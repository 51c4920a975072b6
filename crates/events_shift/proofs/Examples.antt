-- C-11 by example: lines of an input, and whole runs.
use mathlib.Core.Path.{◌≡◌, refl}
use mathlib.Core.List.{List, [], ◌∷◌}
use Prim.Native.Nat.{ℕ}
use Rattle.octets.specs.Text.{text}
use Rattle.calls.specs.Bench.{bench_plan}
use Rattle.calls.proofs.BenchTable.{everything}
use Rattle.events.proofs.Examples.{read, print}
use Rattle.events.specs.AnswerLine.{fault_line}
use Rattle.events_shift.specs.Lines.{closed, lines_in, kept, cut_at, cut, arriving}
use Rattle.events_shift.specs.Step.{entered as called, word_of, got_of, printed, step}
use Rattle.events_shift.specs.Shift.{printed_for, is_faulty, fault_of, made_then, made, played, is_name, shift}

-- Nothing behind the last LF is no line; anything there is one. An empty line is a line.
lines_by_their_lf :
    (lines_in (text "a\nb\n") ≡ text "a" ∷ text "b" ∷ [])
    × (lines_in (text "a\nb") ≡ text "a" ∷ text "b" ∷ [])
    × (lines_in (text "a\n\nb\n") ≡ text "a" ∷ [] ∷ text "b" ∷ [])
    × (lines_in (text "\n") ≡ [] ∷ [])
    × (lines_in [] ≡ [])
unfolding everything lines_in closed
lines_by_their_lf = (refl, refl, refl, refl, refl)

-- the same in pieces, some of them empty, with and without a last LF
lines_in_pieces :
    (arriving [] (text "a" ∷ text "b\nc" ∷ [] ∷ text "\n" ∷ []) ≡ text "ab" ∷ text "c" ∷ [])
    × (arriving [] (text "a\n" ∷ text "\nb" ∷ []) ≡ text "a" ∷ [] ∷ text "b" ∷ [])
unfolding everything arriving cut cut_at kept
lines_in_pieces = (refl, refl)

-- a run with the bench plan under every name
run : List ℕ → List ℕ
unfolding everything read print lines_in closed called word_of got_of printed step printed_for is_faulty fault_of made_then made played is_name shift
run input = shift (λ name. bench_plan) input

the_requests_own_run :
    shift (λ name. bench_plan) (text "bench\nallow\t1\nnotice\n") ≡ text "1\tallow\tdone\t0\t-\n2\tnotice\trefused\t7\t-\n"
unfolding run
the_requests_own_run = refl

-- A line that can't be read is refused with 9 before all others, and the run goes on.
the_run_goes_on :
    shift (λ name. bench_plan) (text "bench\nframe\t9\t1\tXX\n\nframe\t9\t1\t-\ntick\t2147483648")
    ≡ text "1\tbad\trefused\t9\t-\n2\tbad\trefused\t9\t-\n3\tframe\trefused\t1\t-\n4\ttick\trefused\t5\t-\n"
unfolding run
the_run_goes_on = refl

-- A plan that can't be opened counts as empty, and so do an empty name and no input at all; a faulty plan ends the run.
faulty_plans :
    (shift (λ name. []) (text "gone\nallow\t1\n") ≡ text "plan\t0\t6\n")
    × (shift (λ name. bench_plan) (text "\nallow\t1\n") ≡ text "plan\t0\t6\n")
    × (shift (λ name. bench_plan) [] ≡ text "plan\t0\t6\n")
    × (shift (λ name. text "port\t9\tuni\t020000000001\n") (text "plan\nallow\t1\n") ≡ text "plan\t1\t2\n")
unfolding run fault_line
faulty_plans = (refl, refl, refl, refl)
