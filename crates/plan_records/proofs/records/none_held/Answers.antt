use native.Mathlib.Omega.{arith}
use Rattle.std.proofs.Common.{rules, ◌≡◌, length}
use Rattle.plan_records.proofs.SeekLaws.{none_held_lem}
use Rattle.plan_records.proofs.records.none_held.Goals as goal

pub returns : goal.returns
returns c =
    let n : length c.args.ports.now ≡ 8 = search rules in
    none_held_lem (λ p. p.number) _ c.args.ports.now (omega arith)
