use native.Mathlib.Omega.{arith}
use Rattle.octets.specs.Text.{text}
use Rattle.plan_lines.proofs.Spelt.{reads_same}
use Rattle.events.proofs.LogWords.{other_word}
use Rattle.events.proofs.lines.by_number.Goals as goal

pub returns-in_default : goal.returns-in_default
unfolding text
returns-in_default c =
    other_word _ _ (grind (arith, reads_same)) (grind (arith, reads_same)) (grind (arith, reads_same)) (grind (arith, reads_same))

pub returns-in_default-5 : goal.returns-in_default-5
unfolding text
returns-in_default-5 c =
    other_word _ _ (grind (arith, reads_same)) (grind (arith, reads_same)) (grind (arith, reads_same)) (grind (arith, reads_same))

pub returns-in_default-10 : goal.returns-in_default-10
unfolding text
returns-in_default-10 c =
    other_word _ _ (grind (arith, reads_same)) (grind (arith, reads_same)) (grind (arith, reads_same)) (grind (arith, reads_same))

pub returns-in_default-11 : goal.returns-in_default-11
unfolding text
returns-in_default-11 c =
    other_word _ _ (grind (arith, reads_same)) (grind (arith, reads_same)) (grind (arith, reads_same)) (grind (arith, reads_same))

pub returns-in_default-17 : goal.returns-in_default-17
unfolding text
returns-in_default-17 c =
    other_word _ _ (grind (arith, reads_same)) (grind (arith, reads_same)) (grind (arith, reads_same)) (grind (arith, reads_same))

pub returns-in_default-18 : goal.returns-in_default-18
unfolding text
returns-in_default-18 c =
    other_word _ _ (grind (arith, reads_same)) (grind (arith, reads_same)) (grind (arith, reads_same)) (grind (arith, reads_same))

pub returns-in_default-25 : goal.returns-in_default-25
unfolding text
returns-in_default-25 c =
    other_word _ _ (grind (arith, reads_same)) (grind (arith, reads_same)) (grind (arith, reads_same)) (grind (arith, reads_same))

pub returns-in_default-26 : goal.returns-in_default-26
unfolding text
returns-in_default-26 c =
    other_word _ _ (grind (arith, reads_same)) (grind (arith, reads_same)) (grind (arith, reads_same)) (grind (arith, reads_same))

pub returns-in_default-27 : goal.returns-in_default-27
unfolding text
returns-in_default-27 c =
    other_word _ _ (grind (arith, reads_same)) (grind (arith, reads_same)) (grind (arith, reads_same)) (grind (arith, reads_same))
