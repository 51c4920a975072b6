use mathlib.Core.Path.{◌≡◌}
use mathlib.Core.List.{[]}
use Prim.Native.Nat.{ℕ, ◌+◌, ◌≤◌}
use native.Mathlib.Omega.{arith}
use lib.ListN.{get_or-eq_default}
use Rattle.octets.specs.Text.{text}
use Rattle.events.specs.AnswerLine.{outcomes}
use Rattle.events.proofs.answers.word_of.Goals as goal

pub returns-in-0 : goal.returns-in-0
unfolding outcomes text
returns-in-0 c = rw c.in-0.is

pub returns-in-1 : goal.returns-in-1
unfolding outcomes text
returns-in-1 c = rw c.in-1.is

pub returns-in-2 : goal.returns-in-2
unfolding outcomes text
returns-in-2 c = rw c.in-2.is

pub returns-in-3 : goal.returns-in-3
unfolding outcomes text
returns-in-3 c = rw c.in-3.is

pub returns-in-4 : goal.returns-in-4
unfolding outcomes text
returns-in-4 c = rw c.in-4.is

pub returns-in-5 : goal.returns-in-5
unfolding outcomes text
returns-in-5 c = rw c.in-5.is

pub returns-in-6 : goal.returns-in-6
unfolding outcomes text
returns-in-6 c = rw c.in-6.is

-- a number that is not the next one either
above : {n : ℕ} (k : ℕ) → k ≤ n → (n ≡ k → ⊥) → k + 1 ≤ n
above k h e = omega arith

pub returns-in-7-to-255 : goal.returns-in-7-to-255
unfolding outcomes text
returns-in-7-to-255 c =
    let n : ℕ = c.args.outcome in
    let two : 2 ≤ n = above 1 (above 0 (omega arith) c.in-7-to-255.in-7-to-255-own.rest.0.0.0.0.0.0.1) c.in-7-to-255.in-7-to-255-own.rest.0.0.0.0.0.1 in
    let four : 4 ≤ n = above 3 (above 2 two c.in-7-to-255.in-7-to-255-own.rest.0.0.0.0.1) c.in-7-to-255.in-7-to-255-own.rest.0.0.0.1 in
    let seven : 7 ≤ n = above 6 (above 5 (above 4 four c.in-7-to-255.in-7-to-255-own.rest.0.0.1) c.in-7-to-255.in-7-to-255-own.rest.0.1) c.in-7-to-255.in-7-to-255-own.rest.1 in
    rw (get_or-eq_default outcomes [] {n = n} seven)
