-- A test for calls whose arguments are of the host's types.
use mathlib.Core.Path.{◌≡◌}
use mathlib.Core.Bool.{Bool, true}
use mathlib.Core.List.{List, [], ◌∷◌}
use Prim.Native.Nat.{ℕ, zero, suc, ◌<◌, ◌^◌}
use native.Mathlib.Omega.{arith}
use lib.Dec.{ltb}
use lib.ListN.{get_or}
use borrow.Author.Tests.{ltb-true}
use Rattle.octets.specs.Lists.{every}
use Rattle.octets.proofs.Same.{both_true}
use Rattle.calls.specs.Calls.{Call, make, frame, tick, allow, prohibit, notice, restart}
use Rattle.demands.specs.Runs.{Typed, AllTyped}

unfoldable pub is_typed : Call → Bool
is_typed (make text clock) = ltb clock (2 ^ 32)
is_typed (frame port side octets out) = every (λ x. ltb x 256) octets
is_typed (tick clock) = ltb clock (2 ^ 32)
is_typed (allow flow) = true
is_typed (prohibit flow) = true
is_typed (notice out) = true
is_typed (restart clock) = ltb clock (2 ^ 32)

pub each_small : (l : List ℕ) → every (λ x. ltb x 256) l ≡ true → (i : ℕ) → get_or l i 0 < 256
unfolding every
each_small [] h i = omega arith
each_small (x ∷ l) h zero = ltb-true x 256 (both_true (ltb x 256) (every (λ y. ltb y 256) l) h).0
each_small (x ∷ l) h (suc i) = each_small l (both_true (ltb x 256) (every (λ y. ltb y 256) l) h).1 i

pub typed : (c : Call) → is_typed c ≡ true → Typed c
unfolding is_typed
typed (make text clock) h = ltb-true clock (2 ^ 32) h
typed (frame port side octets out) h = each_small octets h
typed (tick clock) h = ltb-true clock (2 ^ 32) h
typed (allow flow) h = tt
typed (prohibit flow) h = tt
typed (notice out) h = tt
typed (restart clock) h = ltb-true clock (2 ^ 32) h

pub all_typed : (cs : List Call) → every is_typed cs ≡ true → AllTyped cs
unfolding every
all_typed [] h = tt
all_typed (c ∷ cs) h =
    let b : _ = both_true (is_typed c) (every is_typed cs) h in
    (typed c b.0, all_typed cs b.1)
