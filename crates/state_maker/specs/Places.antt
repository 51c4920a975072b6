-- How the code makes an image: the place of each flow, put where its number leads.
use Rattle.std.specs.Prelude.{List, [], ◌∷◌, ℕ, ◌+◌, set}
use Rattle.plan.specs.declared.Flow.{Flow}

-- b with the places of the flows from `place` on
unfoldable pub places_put : ℕ → List Flow → List ℕ → List ℕ
places_put place [] b = b
places_put place (f ∷ fs) b = places_put (place + 1) fs (set b (63 + f.number) place)
