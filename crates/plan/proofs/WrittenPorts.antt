-- The ports of a plan, added one by one.
use mathlib.Core.Path.{◌≡◌, sym, ap, subst, ◌∙◌}
use mathlib.Core.Bool.{true, false}
use mathlib.Core.List.{List, [], ◌∷◌, ◌++◌, map, append_assoc, append-nil}
use lib.Dec.{eqb, ltb}
use Rattle.octets.specs.Lists.{every}
use Rattle.octets.proofs.ListLaws.{not_found}
use Rattle.octets.proofs.PutLaws.{put_last}
use Rattle.plan.specs.declared.Port.{Port}
use Rattle.plan.specs.Plan.{Plan, no_port, port_numbered, in_plan, good_port, so_far}
use Rattle.plan.specs.PlanText.{reason_of, added}
use Rattle.plan.specs.WrittenPlan.{port_record}
use Rattle.plan.proofs.Fair.{fair_line}
use Rattle.plan.proofs.Kept.{Kept, kept, GoodPort, good_port_lem}
use Rattle.plan.proofs.Faultless.{port_clears}
use Rattle.plan.proofs.InOrder.{every_at, below_absent, ascends_before, distinct_before}
use Rattle.plan.proofs.WrittenText.{Adds}

-- a plan of these ports alone
abbrev pub only : List Port → Plan
only ports = record { ports = ports; flows = [] }

module _ (plan : Plan) (h : so_far plan ≡ true) where
  k : Kept plan
  k = kept plan h

  module _ (before rest : List Port) (p : Port) (e : before ++ (p ∷ rest) ≡ plan.ports) where
    good : GoodPort p
    good = good_port_lem p (every_at p rest good_port before (rw e k.ports_good))

    below : every (λ q. ltb q.number p.number) before ≡ true
    below = ascends_before p rest (λ q. q.number) 0 before (rw e k.ports_ascend)

    number_new : in_plan (port_numbered p.number (only before)).number ≡ false
    unfolding port_numbered in_plan no_port
    number_new =
        rw (not_found (λ q. eqb q.number p.number) no_port before
        (below_absent (λ q. q.number) p.number before below))

    port_fair : fair_line (port_record p) ≡ true
    unfolding fair_line port_record
    port_fair = rw (good.kind_fits, good.address_fits)

    port_fits_lem : reason_of (only before) (port_record p) ≡ 0
    unfolding reason_of port_record
    port_fits_lem =
        port_clears (only before) p.number p.address
        record {
          number_fits = good.number_fits;
          address_good = good.address_good;
          number_new = number_new;
          address_new = distinct_before p rest (λ q. q.address) before (rw e k.addresses);
        }

    port_last : added (port_record p) (only before) ≡ only (before ++ (p ∷ []))
    unfolding added port_record
    port_last = ap only (put_last (λ q. q.number) p before below)

  pub ports_add : (before rest : List Port) → before ++ rest ≡ plan.ports
      → Adds (only before) (map port_record rest) (only plan.ports)
  ports_add before [] e = ap only (sym (append-nil before) ∙ e)
  ports_add before (p ∷ rest) e = (
    port_fair before rest p e,
    port_fits_lem before rest p e,
    subst (λ next. Adds next (map port_record rest) (only plan.ports)) (sym (port_last before rest p e))
        (ports_add (before ++ (p ∷ [])) rest (append_assoc before (p ∷ []) rest ∙ e)),
  )
