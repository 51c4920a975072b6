use native.Mathlib.Omega.{arith}
use Rattle.state_tables.proofs.SumLaws.{pairs_small, fours_small, sum_pairs}
use Rattle.state_tables.proofs.flows.octet_sum.Goals as goal

pub overflow_add-pairs : goal.overflow_add-pairs
overflow_add-pairs c = omega (arith, pairs_small c.args.x)

pub overflow_add-fours : goal.overflow_add-fours
overflow_add-fours c = omega (arith, pairs_small c.args.x)

pub overflow_add-result : goal.overflow_add-result
overflow_add-result c = omega (arith, fours_small _ (pairs_small c.args.x))

pub returns : goal.returns
returns c = sum_pairs c.args.x
