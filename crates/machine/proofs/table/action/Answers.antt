use Rattle.std.proofs.Common.{ℕ, List, [], ◌∷◌, map, rules}
use Rattle.machine.specs.Table.{action_at, condition_at, event_at, action_of}
use Rattle.machine.proofs.Entries.{at2}
use Rattle.machine.proofs.table.action.Goals as goal

-- the definitions' table, entry by entry
rows : List (List ℕ)
rows =
    map (λ condition. map (action_at condition) (0 ∷ 1 ∷ 2 ∷ 3 ∷ 4 ∷ 5 ∷ 6 ∷ 7 ∷ [])) (0 ∷ 1 ∷ 2 ∷ [])

pub returns : goal.returns
unfolding action_at condition_at event_at action_of rows
returns c = at2 action_at 3 8 rows tt c.args.condition c.args.event (search rules) (search rules)
