-- What is not found is not there, and how many ports and flows there can be.
use mathlib.Core.Path.{◌≡◌}
use mathlib.Core.Bool.{true, false}
use mathlib.Core.List.{map}
use Prim.Native.Nat.{ℕ, ◌<◌, ◌≤◌}
use lib.Dec.{eqb, leb}
use lib.ListN.{length}
use borrow.Author.Tests.{le-leb}
use Rattle.octets.specs.Lists.{within, every, some, distinct}
use Rattle.octets.proofs.ListLaws.{every_such, none_there, within_low}
use Rattle.octets.proofs.Ordered.{ascends_distinct}
use Rattle.octets.proofs.Few.{few, room}
use Rattle.codec.specs.FrameSet.{set_of}
use Rattle.plan.specs.declared.Port.{Port}
use Rattle.plan.specs.declared.Flow.{Flow}
use Rattle.plan.specs.Plan.{Plan, no_port, no_flow, port_numbered, flow_numbered, flow_of_set, set_key, flow_key, in_plan}
use Rattle.plan.specs.Plan.{good_port, good_flow, so_far}
use Rattle.plan.proofs.Kept.{Kept, kept, good_port_lem, good_flow_lem, good_numbers}

port_named : (p : Port) → good_port p ≡ true → leb 1 p.number ≡ true
port_named p g = le-leb 1 p.number (within_low 1 8 p.number (good_port_lem p g).number_fits)

flow_named : (plan : Plan) (f : Flow) → good_flow plan f ≡ true → leb 1 f.number ≡ true
flow_named plan f g = le-leb 1 f.number (within_low 1 32 f.number (good_flow_lem plan f g).number_fits)

module _ (plan : Plan) (h : so_far plan ≡ true) where
  k : Kept plan
  k = kept plan h

  pub ports_named : every (λ p. leb 1 p.number) plan.ports ≡ true
  ports_named = every_such good_port (λ p. leb 1 p.number) port_named plan.ports k.ports_good

  -- what is not found by its number is not there
  pub port_absent : (n : ℕ) → in_plan (port_numbered n plan).number ≡ false → some (λ p. eqb p.number n) plan.ports ≡ false
  unfolding port_numbered in_plan
  port_absent n e =
      none_there (λ p. leb 1 p.number) (λ p. eqb p.number n) no_port plan.ports ports_named e

  pub flows_named : every (λ f. leb 1 f.number) plan.flows ≡ true
  flows_named = every_such (good_flow plan) (λ f. leb 1 f.number) (flow_named plan) plan.flows k.flows_good

  pub set_absent : (port kind vid : ℕ) → in_plan (flow_of_set port (set_of kind vid) plan).number ≡ false
      → some (λ f. eqb (flow_key f) (set_key port kind vid)) plan.flows ≡ false
  unfolding flow_of_set set_of in_plan
  set_absent port kind vid e =
      none_there (λ f. leb 1 f.number) (λ f. eqb (flow_key f) (set_key port kind vid)) no_flow plan.flows flows_named e

  pub flow_absent : (n : ℕ) → in_plan (flow_numbered n plan).number ≡ false → some (λ f. eqb f.number n) plan.flows ≡ false
  unfolding flow_numbered in_plan
  flow_absent n e = none_there (λ f. leb 1 f.number) (λ f. eqb f.number n) no_flow plan.flows flows_named e

  -- few: at most 8 ports and 32 flows, and fewer while a number is free
  ports_fit : every (λ p. within 1 8 p.number) plan.ports ≡ true
  ports_fit = every_such good_port (λ p. within 1 8 p.number) (λ p g. (good_port_lem p g).number_fits) plan.ports k.ports_good

  flows_fit : every (λ f. within 1 32 f.number) plan.flows ≡ true
  flows_fit = good_numbers plan plan.flows k.flows_good

  ports_apart : distinct (map (λ p. p.number) plan.ports) ≡ true
  ports_apart = ascends_distinct (λ p. p.number) 0 plan.ports k.ports_ascend

  pub ports_few : length plan.ports ≤ 8
  ports_few = few (λ p. p.number) 8 plan.ports ports_apart ports_fit

  pub flows_few : length plan.flows ≤ 32
  flows_few = few (λ f. f.number) 32 plan.flows k.numbers flows_fit

  pub port_room : (n : ℕ) → within 1 8 n ≡ true → in_plan (port_numbered n plan).number ≡ false → length plan.ports < 8
  port_room n w e = room (λ p. p.number) 8 plan.ports ports_apart ports_fit n w (port_absent n e)

  pub flow_room : (n : ℕ) → within 1 32 n ≡ true → in_plan (flow_numbered n plan).number ≡ false → length plan.flows < 32
  flow_room n w e = room (λ f. f.number) 32 plan.flows k.numbers flows_fit n w (flow_absent n e)
