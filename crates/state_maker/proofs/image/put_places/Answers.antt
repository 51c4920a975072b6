use mathlib.Core.Path.{◌≡◌, refl}
use mathlib.Core.List.{List, []}
use Prim.Native.Nat.{ℕ, ◌+◌}
use borrow.Author.Rules.{rules}
use lib.ListN.{length-set}
use Rattle.plan.proofs.HeldLaws.{held_rows}
use Rattle.state_maker.specs.Places.{places_put}
use Rattle.state_maker.proofs.PlanRows.{put_stop, put_one, put_done}
use Rattle.state_maker.proofs.image.put_places.Goals as goal

no_place : (i : ℕ) (b : List ℕ) → places_put (i + 1) [] b ≡ b
unfolding places_put
no_place i b = refl

pub loop-i-init : goal.loop-i-init
loop-i-init c = record { long = search rules; left = refl }

pub returns-then-f-eq0 : goal.returns-then-f-eq0
returns-then-f-eq0 c = put_stop (held_rows (λ f. f.number)) c.loop-i.invariant _ (search rules) no_place c.if-f-eq0.true

pub loop-i-preserved : goal.loop-i-preserved
unfolding places_put
loop-i-preserved c =
    let p : _ = c.loop-i.invariant in
    record { long = rw length-set p.long; left = put_one (held_rows (λ f. f.number)) p _ (search rules) c.if-f-eq0.false }

pub returns : goal.returns
returns c = put_done (held_rows (λ f. f.number)) c.loop-i.invariant no_place (search rules)
