use mathlib.Core.Path.{◌≡◌}
use mathlib.Core.List.{List}
use Prim.Native.Nat.{ℕ, ◌+◌, ◌-◌, ◌*◌}
use lib.ListN.{length}
use Rattle.machine.specs.declared.Session.{Session}
use Rattle.machine.specs.Machine.{key_of}
use Rattle.state_store.specs.StoredRows.{sessions_mapped, Swept}
use Rattle.state_store.proofs.MapLaws.{mapped_from}
use Rattle.state_store.proofs.SweptLaws.{SweptFrom}
use Rattle.octets.proofs.Laws.{Octets}
use Rattle.state_store.proofs.sessions.sweep_sessions.Given as goal

abbrev pub invariant-loop-i : goal.invariant-loop-i
invariant-loop-i g l =
    (length l.b ≡ 4096)
    × Octets l.b
    × ((f : Session → Session)
    → ((x : Session) → key_of (f x) ≡ key_of x)
    → ((x : Session) (y : Session) → goal.F-post g l.step x y → y ≡ f x)
    → mapped_from f (1536 + l.i * 32) (16 - l.i) l.b ≡ sessions_mapped f l.initial.b)
    × ((after : List ℕ) → SweptFrom (goal.F-post g l.step) (1536 + l.i * 32) (16 - l.i) l.b after
    → Swept (goal.F-post g l.step) l.initial.b after)
