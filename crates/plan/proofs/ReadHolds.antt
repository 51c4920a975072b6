-- A plan that is read holds the records of its text, and no others.
use mathlib.Core.Path.{◌≡◌, sym, subst}
use mathlib.Core.Bool.{true}
use mathlib.Core.List.{List, [], ◌∷◌, map}
use mathlib.Core.Logic.{◌⊎◌, inl, inr, ⊎_elim}
use Prim.Native.Nat.{ℕ, ◌+◌}
use native.Mathlib.Omega.{arith}
use lib.ListN.{length}
use Rattle.octets.specs.Lists.{In, here, there, first}
use Rattle.octets.proofs.Cases.{by_eq, by_lt}
use Rattle.octets.proofs.Members.{none_in, first_or_later}
use Rattle.plan.specs.Plan.{Plan, port_numbered, flow_numbered, so_far}
use Rattle.plan.specs.Line.{Line, unreadable, port_line, flow_line, mp_line, line_of, parted, lf}
use Rattle.plan.specs.PlanText.{Reading, fault, planned, reason_of, added, finished, read_lines, empty_plan, plan_in}
use Rattle.plan.specs.SameRecords.{lines_of, records_in}
use Rattle.plan.proofs.Fair.{fair_line}
use Rattle.plan.proofs.FairLines.{line_fair}
use Rattle.plan.proofs.Faultless.{port_cleared, flow_cleared, mp_cleared}
use Rattle.plan.proofs.ReadKeeps.{added_keeps, none_so_far}
use Rattle.plan.proofs.Holds.{Holds, Grows}
use Rattle.plan.proofs.HoldsPort.{no_port_lem, port_grows}
use Rattle.plan.proofs.HoldsFlow.{no_flow_lem, no_mp, flow_grows}
use Rattle.plan.proofs.HoldsMp.{mp_grows}

added_grows : (plan : Plan) (line : Line) → so_far plan ≡ true → fair_line line ≡ true → reason_of plan line ≡ 0
    → Grows plan line (added line plan)
unfolding reason_of
added_grows plan unreadable h f e = absurd (omega arith)
added_grows plan (port_line number kind address) h f e =
    port_grows plan h number kind address (port_cleared plan number address e)
added_grows plan (flow_line number port kind vid) h f e =
    flow_grows plan h number port kind vid (flow_cleared plan number port kind vid e)
added_grows plan (mp_line flow kind level) h f e = mp_grows plan h flow kind level f (mp_cleared plan flow level e)

-- The last plan holds what the plan did, the records, and nothing else.
record Holding (plan : Plan) (records : List Line) (last : Plan) : Type 0 where
  kept : (r : Line) → Holds plan r → Holds last r
  new : (r : Line) → In r records → Holds last r
  only : (r : Line) → Holds last r → In r records ⊎ Holds plan r

no_more : (plan : Plan) → Holding plan [] plan
no_more plan = record { kept = λ r held. held; new = λ r m. absurd (none_in r m); only = λ r held. inr held }

one_more : (plan next last : Plan) (line : Line) (records : List Line) → Grows plan line next → Holding next records last
    → Holding plan (line ∷ records) last
one_more plan next last line records g k =
    record {
      kept = λ r held. k.kept r (g.kept r held);
      new = λ r m. ⊎_elim (λ e. subst (Holds last) (sym e) (k.kept line g.new)) (k.new r) (first_or_later m);
      only =
          λ r held.
          ⊎_elim (λ m. inl (there m)) (λ next-held. ⊎_elim (λ e. inl (here e)) (λ was. inr was) (g.only r next-held))
          (k.only r held);
    }

-- what is read is a fault, or a plan that holds what it did and these records
abbrev Reads : Plan → List Line → Reading → Type 0
Reads plan records (fault line reason) = Unit {0}
Reads plan records (planned last) = Holding plan records last

finished_reads : (plan : Plan) → Reads plan [] (finished plan)
unfolding finished
finished_reads plan = by_eq (length plan.ports) 0 (λ e s. rw e tt) (λ e s. rw e (no_more plan))

reads_on : (plan : Plan) (line : Line) (records : List Line) → Grows plan line (added line plan) → (reading : Reading)
    → Reads (added line plan) records reading
    → Reads plan (line ∷ records) reading
reads_on plan line records g (fault n reason) k = k
reads_on plan line records g (planned last) k = one_more plan (added line plan) last line records g k

lines_read : (n : ℕ) (plan : Plan) (parts : List (List ℕ)) → so_far plan ≡ true
    → Reads plan (map line_of (lines_of parts)) (read_lines n plan parts)
unfolding read_lines lines_of
lines_read n plan [] h = finished_reads plan
lines_read n plan (rest ∷ []) h = by_eq (length rest) 0 (λ e s. rw e (finished_reads plan)) (λ e s. rw e tt)
lines_read n plan (line ∷ next ∷ parts) h =
    by_eq (reason_of plan (line_of line)) 0
    (λ e none.
    rw e
    (reads_on plan (line_of line) (map line_of (lines_of (next ∷ parts))) (added_grows plan (line_of line) h (line_fair line) none)
    (read_lines (n + 1) (added (line_of line) plan) (next ∷ parts))
    (lines_read (n + 1) (added (line_of line) plan) (next ∷ parts) (added_keeps plan (line_of line) h (line_fair line) none))))
    (λ e s. rw e tt)

nothing_held : (r : Line) → Holds empty_plan r → ⊥
unfolding empty_plan port_numbered flow_numbered first
nothing_held unreadable held = held
nothing_held (port_line n k a) held = no_port_lem n k a held.0 held.1
nothing_held (flow_line n p k v) held = no_flow_lem n p k v held.0 held.1
nothing_held (mp_line n k l) held = no_mp l k held.0 held.1

in_reads : (t : List ℕ) → Reads empty_plan (records_in t) (plan_in t)
unfolding plan_in records_in
in_reads t = by_lt 8192 (length t) (λ e s. rw e tt) (λ e s. rw e (lines_read 1 empty_plan (parted lf t) none_so_far))

module _ (t : List ℕ) (plan : Plan) (e : plan_in t ≡ planned plan) where
  all : Holding empty_plan (records_in t) plan
  all = subst (Reads empty_plan (records_in t)) e (in_reads t)

  pub read_holds : (r : Line) → In r (records_in t) → Holds plan r
  read_holds = all.new

  pub read_only : (r : Line) → Holds plan r → In r (records_in t)
  read_only r held = ⊎_elim (λ m. m) (λ was. absurd (nothing_held r was)) (all.only r held)
