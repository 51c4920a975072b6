-- "The plan" by example: the same records in another order, and other records.
use mathlib.Core.Path.{◌≡◌, refl, ap}
use mathlib.Core.List.{List, [], ◌∷◌}
use mathlib.Core.Logic.{⊎_elim}
use Prim.Native.Nat.{ℕ}
use Prim.Native.String.{String}
use native.Mathlib.Omega.{arith}
use Rattle.octets.specs.Lists.{In, here, there}
use Rattle.octets.proofs.Members.{first_or_later}
use Rattle.codec.specs.FrameSet.{uni, c_tagged}
use Rattle.plan.specs.Plan.{Plan, up, mp_count}
use Rattle.plan.specs.Line.{Line, port_line, flow_line, mp_line}
use Rattle.plan.specs.PlanText.{Reading, fault, planned, plan_in}
use Rattle.plan.specs.SameRecords.{lines_of, records_in, SameRecords}
use Rattle.plan.proofs.Examples.{lines, read, bench, bench_plan}
use Rattle.plan.proofs.OrderFree.{order_free}

swapped : List String
swapped = "port 1 uni 020000000001" ∷ "flow 2 1 c 30" ∷ "flow 1 1 c 20" ∷ "mp 1 up 4" ∷ []

-- the records of a text, whose second and third are x and y
between : Line → Line → List Line
between x y = port_line 1 uni 0x020000000001 ∷ x ∷ y ∷ mp_line 1 up 4 ∷ []

one : Line
one = flow_line 1 1 c_tagged 20

two : Line
two = flow_line 2 1 c_tagged 30

the_records_of_the_bench_plan : records_in (lines bench) ≡ between one two
unfolding records_in lines_of read bench between one two
the_records_of_the_bench_plan = refl

the_records_swapped : records_in (lines swapped) ≡ between two one
unfolding records_in lines_of read swapped between one two
the_records_swapped = refl

either_way : (x y r : Line) → In r (between x y) → In r (between y x)
unfolding between
either_way x y r m =
    ⊎_elim (λ e. here e)
    (λ m. ⊎_elim (λ e. there (there (here e)))
    (λ m. ⊎_elim (λ e. there (here e)) (λ m. there (there (there m))) (first_or_later m))
    (first_or_later m))
    (first_or_later m)

both_texts_have_the_same_records : SameRecords (lines swapped) (lines bench)
both_texts_have_the_same_records =
    record {
      there = λ r m. rw the_records_of_the_bench_plan (either_way two one r (rw the_records_swapped at m));
      back = λ r m. rw the_records_swapped (either_way one two r (rw the_records_of_the_bench_plan at m));
    }

the_swapped_text_is_read : (plan : Plan) → plan_in (lines swapped) ≡ planned plan → plan ≡ bench_plan
unfolding read bench bench_plan
the_swapped_text_is_read plan e =
    order_free (lines swapped) (lines bench) plan bench_plan e refl both_texts_have_the_same_records

-- one record less is another plan
mps_read : Reading → ℕ
mps_read (fault line reason) = 0
mps_read (planned plan) = mp_count plan.flows

a_record_less_is_another_plan :
    plan_in (lines ("port 1 uni 020000000001" ∷ "flow 1 1 c 20" ∷ "flow 2 1 c 30" ∷ [])) ≡ plan_in (lines bench) → ⊥
unfolding read bench mps_read
a_record_less_is_another_plan e = let n : ◌≡◌ {A = ℕ} 0 1 = ap mps_read e in omega arith
