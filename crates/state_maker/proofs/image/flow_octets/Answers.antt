use mathlib.Core.Path.{◌≡◌, ap}
use mathlib.Core.List.{List, ◌∷◌, ◌++◌}
use Prim.Native.Nat.{ℕ}
use lib.ListN.{length}
use borrow.Author.Rules.{rules}
use Rattle.octets.specs.Octets.{low_octets}
use Rattle.plan.specs.declared.Flow.{Flow}
use Rattle.state.specs.Image.{zeros, flow_row}
use Rattle.state_maker.proofs.PlanRows.{eight}
use Rattle.state_maker.proofs.image.flow_octets.Goals as goal

pub returns : goal.returns
unfolding flow_row low_octets zeros
returns c =
    let f : Flow = c.args.f.now in
    let long : length f.mps ≡ 8 = search rules in
    let row : List ℕ → List ℕ
    = λ m. (0 ∷ f.number ∷ 0 ∷ 0 ∷ low_octets 2 f.vid) ++ (f.kind ∷ f.port ∷ m) ++ zeros 16 in
    rw c.to_le_bytes-vid.ensures (ap row (eight f.mps long))
