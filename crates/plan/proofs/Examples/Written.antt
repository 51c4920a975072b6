-- "The plan" by example: how numbers and plans are written.
use mathlib.Core.Path.{◌≡◌, refl}
use mathlib.Core.List.{[], ◌∷◌, map}
use Rattle.octets.specs.Text.{text}
use Rattle.plan.specs.WrittenPlan.{decimal, hex_digit, hexadecimal, word_at, fields_of, tabbed, line_text, ended}
use Rattle.plan.specs.WrittenPlan.{port_record, flow_record, mps_from, mp_records, records_of, text_of}
use Rattle.plan.proofs.Examples.{lines, read, bench, bench_plan}

numbers_have_no_leading_zeros : map (decimal 4) (0 ∷ 7 ∷ 10 ∷ 305 ∷ 4094 ∷ []) ≡ map text ("0" ∷ "7" ∷ "10" ∷ "305" ∷ "4094" ∷ [])
unfolding decimal text
numbers_have_no_leading_zeros = refl

addresses_have_twelve_digits : hexadecimal 12 0x0200abcdef01 ≡ text "0200abcdef01"
unfolding hexadecimal hex_digit text
addresses_have_twelve_digits = refl

the_bench_plan_is_written : text_of bench_plan ≡ lines bench
unfolding text_of records_of mp_records mps_from flow_record port_record ended line_text tabbed fields_of word_at hexadecimal hex_digit
    decimal read bench bench_plan
the_bench_plan_is_written = refl
