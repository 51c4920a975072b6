use mathlib.Core.Path.{◌∙◌}
use Rattle.state.proofs.Answers.{notice_found}
use Rattle.state.proofs.fields.notice_due.Goals as goal

pub returns : goal.returns
returns c = rw (c.is_some.ensures ∙ notice_found _ c.owed_at.ensures)
