use mathlib.Core.Path.{◌∙◌}
use native.Mathlib.Omega.{arith}
use Rattle.plan_lines.proofs.Numbers.{empty, zero_alone, zero_leads, other_leads}
use Rattle.plan_lines.proofs.fields.amount_of.Goals as goal
use Rattle.plan_lines.proofs.fields.amount_of.Goals.{in_default-via-then-f-lt2+in_default-1, in_default-via-else-f-lt2+in_default-1}

pub returns-in-48 : goal.returns-in-48
returns-in-48 c = zero_alone c.args.most c.args.f.now (omega arith) (omega arith)

pub returns-in-empty : goal.returns-in-empty
returns-in-empty c = empty c.args.most c.args.f.now (omega arith)

pub returns-in-empty-2 : goal.returns-in-empty-2
returns-in-empty-2 c = zero_leads c.args.most c.args.f.now (omega arith) (λ z. omega arith)

pub returns-in_default : goal.returns-in_default
returns-in_default c =
    let a : _ = c.args in
    c.digits_of.ensures
    ∙ elim c.in_default.branch [
      | in_default-via-then-f-lt2+in_default-1 w ↦ other_leads a.most a.f.now (grind arith) (grind arith)
      | in_default-via-else-f-lt2+in_default-1 w ↦ other_leads a.most a.f.now (grind arith) (grind arith)
    ]
