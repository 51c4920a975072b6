use Rattle.plan_records.proofs.rows.flow_put.Goals as goal

pub returns : goal.returns
returns c = rw (c.put.ensures, c.key.ensures)
