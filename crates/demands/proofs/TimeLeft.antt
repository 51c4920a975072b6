-- A machine that has time left where it is active: nothing that happens to it leaves it active with none.
use mathlib.Core.Path.{◌≡◌, refl, subst}
use mathlib.Core.Bool.{Bool, true, false, cond, ◌&&◌}
use mathlib.Core.List.{List}
use Prim.Native.Nat.{ℕ, ◌-◌, ◌*◌, ◌≤◌}
use native.Mathlib.Omega.{arith}
use lib.Dec.{eqb, leb}
use borrow.Author.Tests.{leb-false}
use Rattle.octets.specs.Lists.{within}
use Rattle.octets.proofs.ListLaws.{within_low}
use Rattle.demands.specs.Machine.{Machine, nothing, notice as owing, prohibited, inactive, active, gets, activate, deactivate}
use Rattle.demands.specs.Machine.{ticked, allowed, forbidden, restarted, taken}

-- an active machine with time left, or one that is not active
unfoldable pub Going : Machine → Type 0
Going (prohibited owed) = Unit {0}
Going (inactive owed) = Unit {0}
Going (active level side left tag) = 1 ≤ left

seconds_going : (seconds : ℕ) → within 1 86400 seconds ≡ true → 1 ≤ seconds * 1000
seconds_going seconds h = omega (arith, within_low 1 86400 seconds h)

pub activate_going : (full seconds level side : ℕ) (tag : List ℕ) (m : Machine) → Going m
    → Going (activate full seconds level side tag m).next
unfolding Going activate gets
activate_going full seconds level side tag (prohibited owed) g = tt
activate_going full seconds level side tag (inactive owed) g = go (within 1 86400 seconds) refl (eqb full 0)
  where
    go : (good : Bool) → within 1 86400 seconds ≡ good → (free : Bool)
        → Going (cond good (cond free (gets 0 (active level side (seconds * 1000) tag)) (gets full (inactive owed)))
        (gets 6 (inactive owed))).next
    go true e true = seconds_going seconds e
    go true e false = tt
    go false e free = tt
activate_going full seconds level side tag (active own-level own-side left own-tag) g =
    go (eqb level own-level && eqb side own-side) (within 1 86400 seconds) refl
  where
    go : (same good : Bool) → within 1 86400 seconds ≡ good
        → Going (cond same (cond good (gets 4 (active own-level own-side (seconds * 1000) own-tag))
        (gets 6 (active own-level own-side left own-tag))) (gets 7 (active own-level own-side left own-tag))).next
    go true true e = seconds_going seconds e
    go true false e = g
    go false good e = g

pub deactivate_going : (level side : ℕ) (m : Machine) → Going m → Going (deactivate level side m).next
unfolding Going deactivate gets
deactivate_going level side (prohibited owed) g = tt
deactivate_going level side (inactive owed) g = tt
deactivate_going level side (active own-level own-side left tag) g = go (eqb level own-level && eqb side own-side)
  where
    go : (same : Bool) → Going (cond same (gets 0 (inactive nothing)) (gets 7 (active own-level own-side left tag))).next
    go true = tt
    go false = g

pub ticked_going : (e : ℕ) (m : Machine) → Going m → Going (ticked e m)
unfolding Going ticked
ticked_going e (prohibited owed) g = tt
ticked_going e (inactive owed) g = tt
ticked_going e (active level side left tag) g = go (leb left e) refl
  where
    go : (b : Bool) → leb left e ≡ b → Going (cond b (inactive (owing 8 level side tag)) (active level side (left - e) tag))
    go true h = tt
    go false h = omega (arith, leb-false left e h)

pub allowed_going : (m : Machine) → Going m → Going (allowed m)
unfolding Going allowed
allowed_going (prohibited owed) g = tt
allowed_going (inactive owed) g = tt
allowed_going (active level side left tag) g = g

pub forbidden_going : (m : Machine) → Going m → Going (forbidden m)
unfolding Going forbidden
forbidden_going (prohibited owed) g = tt
forbidden_going (inactive owed) g = tt
forbidden_going (active level side left tag) g = tt

pub restarted_going : (m : Machine) → Going m → Going (restarted m)
unfolding Going restarted
restarted_going (prohibited owed) g = tt
restarted_going (inactive owed) g = tt
restarted_going (active level side left tag) g = tt

pub taken_going : (m : Machine) → Going m → Going (taken m)
unfolding Going taken
taken_going (prohibited owed) g = tt
taken_going (inactive owed) g = tt
taken_going (active level side left tag) g = g

pub either_going : (b : Bool) (m n : Machine) → Going m → Going n → Going (cond b m n)
either_going true m n g h = g
either_going false m n g h = h

pub going_left : {m : Machine} {level side left : ℕ} {tag : List ℕ} → Going m → m ≡ active level side left tag → 1 ≤ left
unfolding Going
going_left g e = subst Going e g
