-- Laws of MPs by level, and of how many there are.
use mathlib.Core.Path.{◌≡◌, refl}
use mathlib.Core.Bool.{Bool}
use mathlib.Core.List.{List, [], ◌∷◌, ◌++◌, map}
use Prim.Native.Nat.{ℕ, zero, suc, ◌+◌}
use native.Mathlib.Omega.{arith}
use lib.Dec.{leb}
use lib.ListN.{length, get_or, set, replicate}
use borrow.Author.Tests.{eq-eqb}
use Rattle.octets.specs.Lists.{count}
use Rattle.plan.specs.declared.Flow.{Flow}
use Rattle.plan.specs.Plan.{mps_of, mp_count}
use Rattle.plan.specs.PlanText.{with_mp}
use Rattle.plan.proofs.WrittenFlows.{with_mps, bare}

-- the element behind others
pub get_past : (a : List ℕ) (x : ℕ) (b : List ℕ) → get_or (a ++ (x ∷ b)) (length a) 0 ≡ x
get_past [] x b = refl
get_past (y ∷ a) x b = get_past a x b

pub set_past : (a : List ℕ) (x y : ℕ) (b : List ℕ) → set (a ++ (x ∷ b)) (length a) y ≡ a ++ (y ∷ b)
set_past [] x y b = refl
set_past (z ∷ a) x y b = rw (set_past a x y b)

pub count_join : (test : ℕ → Bool) (a b : List ℕ) → count test (a ++ b) ≡ count test a + count test b
unfolding count
count_join test [] b = omega arith
count_join test (x ∷ a) b = omega (arith, count_join test a b)

pub none_counted : (n : ℕ) → count (leb 1) (replicate n 0) ≡ 0
unfolding count
none_counted zero = refl
none_counted (suc n) = omega (arith, none_counted n)

pub mps_join : (a b : List Flow) → mp_count (a ++ b) ≡ mp_count a + mp_count b
unfolding mp_count
mps_join [] b = omega arith
mps_join (f ∷ a) b = omega (arith, mps_join a b)

pub mps_bare : (l : List Flow) → mp_count (map bare l) ≡ 0
unfolding mp_count mps_of
mps_bare [] = refl
mps_bare (f ∷ l) = omega (arith, none_counted 8, mps_bare l)

-- an MP of the flow itself
pub with_this : (f : Flow) (mps : List ℕ) (kind level : ℕ)
    → with_mp f.number kind level (with_mps f mps) ≡ with_mps f (set mps level kind)
unfolding with_mp
with_this f mps kind level = rw (eq-eqb f.number f.number refl)
