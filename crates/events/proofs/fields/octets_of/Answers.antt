use borrow.Author.Rules.{rules}
use mathlib.Core.Path.{◌≡◌, sym, ◌∙◌}
use native.Mathlib.Omega.{arith}
use lib.ListN.{length}
use Rattle.octets.specs.Text.{text}
use Rattle.events.proofs.HexFields.{dash, too_short, uneven, no_digits, digits}
use Rattle.events.proofs.fields.octets_of.Goals as goal

pub returns-then-same_octets : goal.returns-then-same_octets
unfolding text
returns-then-same_octets c = dash _ _ (sym c.same_octets.ensures ∙ c.if-same_octets.true)

pub returns-then-f-lt2 : goal.returns-then-f-lt2
unfolding text
returns-then-f-lt2 c =
    too_short _ _ (sym c.same_octets.ensures ∙ c.if-same_octets.false) c.if-f-lt2.true

pub returns-then-f-ne0 : goal.returns-then-f-ne0
unfolding text
returns-then-f-ne0 c =
    uneven _ _ (sym c.same_octets.ensures ∙ c.if-same_octets.false) c.if-f-ne0.true

pub unhex-requires : goal.unhex-requires
unhex-requires c =
    let a : _ = c.args in
    let long : length a.room.now ≡ 2050 = search rules in
    (sym c.all_digits.ensures ∙ c.if-not-all_digits.false, omega arith)

pub returns-then-not-all_digits : goal.returns-then-not-all_digits
unfolding text
returns-then-not-all_digits c =
    no_digits _ _ (sym c.same_octets.ensures ∙ c.if-same_octets.false)
    (sym c.all_digits.ensures ∙ c.if-not-all_digits.true)

pub returns : goal.returns
unfolding text
returns c =
    digits _ _ (sym c.same_octets.ensures ∙ c.if-same_octets.false) c.if-f-lt2.false c.if-f-ne0.false
    (sym c.all_digits.ensures ∙ c.if-not-all_digits.false) c.unhex.ensures
