use mathlib.Core.Path.{sym, ◌∙◌}
use Rattle.events.proofs.LogFrames.{bad_port, bad_side, bad_hex, frame_read}
use Rattle.events.proofs.lines.framed.Goals as goal

pub returns-in_err-port : goal.returns-in_err-port
returns-in_err-port c = rw c.from_residual.ensures (bad_port _ _ _ _ (sym c.count_of.ensures ∙ c.in_err-port.was))

pub returns-in_err-side : goal.returns-in_err-side
returns-in_err-side c =
    rw c.from_residual-in_err-side.ensures
    (bad_side _ _ _ _ (sym c.count_of.ensures ∙ c.in_ok-port.was) (sym c.count_of-2.ensures ∙ c.in_err-side.was))

pub returns-in_err-n : goal.returns-in_err-n
returns-in_err-n c =
    rw c.from_residual-in_err-n.ensures
    (bad_hex _ _ _ _ (sym c.count_of.ensures ∙ c.in_ok-port.was) (sym c.count_of-2.ensures ∙ c.in_ok-side.was) c.octets_of.ensures
    c.in_err-n.was)

pub returns : goal.returns
returns c =
    frame_read _ _ _ _ (sym c.count_of.ensures ∙ c.in_ok-port.was) (sym c.count_of-2.ensures ∙ c.in_ok-side.was) c.octets_of.ensures
    c.in_ok-n.was
