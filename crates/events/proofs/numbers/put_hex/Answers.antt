use borrow.Author.Tests.{eq-eqb, ne_eqb}
use native.Mathlib.Omega.{arith}
use lib.ListN.{length}
use Rattle.octets.specs.Text.{text}
use Rattle.octets.proofs.Over.{part_splice}
use Rattle.events.specs.AnswerLine.{hexed, in_hex}
use Rattle.events.proofs.Puts.{put_none, put_more}
use Rattle.events.proofs.Hexes.{hexed_length}
use Rattle.events.proofs.numbers.put_hex.Goals as goal

pub returns-then-octets-eq0 : goal.returns-then-octets-eq0
unfolding in_hex text
returns-then-octets-eq0 c =
    let a : _ = c.args in
    rw (eq-eqb (length a.octets.now) 0 (omega arith)) (put_more 45 (put_none _ _) (omega arith))

pub returns : goal.returns
unfolding in_hex
returns c =
    let a : _ = c.args in
    let w : _ = hexed a.octets.now in
    rw (ne_eqb (length a.octets.now) 0 (λ e. omega arith))
    (record {
      place = rw hexed_length (omega arith);
      written = part_splice a.at w a.out.now (omega arith) c.hex.ensures;
    })
