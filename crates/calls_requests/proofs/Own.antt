-- The machine of a key: the session that it finds, and what it is once a session is put in or taken out.
use mathlib.Core.Path.{◌≡◌, refl, ap}
use mathlib.Core.Bool.{Bool, true, false, cond, not, ◌||◌}
use mathlib.Core.List.{List, [], ◌∷◌}
use Prim.Native.Nat.{ℕ, suc, ◌+◌}
use native.Mathlib.Omega.{arith}
use lib.Dec.{eqb}
use lib.ListN.{length}
use borrow.Author.Tests.{eq-eqb, ne_eqb}
use Rattle.octets.specs.Lists.{some, count, put, without}
use Rattle.octets.proofs.Cases.{by_eq, by_lt}
use Rattle.machine.specs.declared.Session.{Session}
use Rattle.machine.specs.declared.Machine.{Machine}
use Rattle.machine.specs.declared.Machine.TheVariants.{Inactive, Active}
use Rattle.machine.specs.Machine.{key_of, is_open}
use Rattle.state.specs.State.{machine_of}
use Rattle.state.proofs.TableLaws.{Each}

-- the session of an active machine, or the one given
abbrev session_or : Session → Machine → Session
session_or x Inactive = x
session_or x (Active y) = y

pub active_same : (x y : Session) → Active x ≡ Active y → x ≡ y
active_same x y e = ap (session_or x) e

pub never_active : {A : Type 0} (x : Session) → Inactive ≡ Active x → A
never_active x e = let z : ◌≡◌ {A = ℕ} 0 1 = cc in absurd (omega arith)

module _ (k : ℕ) where
  pub machine_put : (x : Session) (xs : List Session) → key_of x ≡ k → is_open x ≡ true → machine_of k (put key_of x xs) ≡ Active x
  unfolding put machine_of
  machine_put x [] e o = rw (eq-eqb (key_of x) k e, o)
  machine_put x (y ∷ ys) e o =
      by_lt (key_of y) (key_of x)
      (λ l less. rw (l, ne_eqb (key_of y) k (λ z. omega arith)) (machine_put x ys e o))
      (λ l more. by_eq (key_of y) (key_of x)
      (λ f same. rw (l, f, eq-eqb (key_of x) k e, o))
      (λ f other. rw (l, f, eq-eqb (key_of x) k e, o)))

  pub machine_without : (xs : List Session) → machine_of k (without key_of k xs) ≡ Inactive
  unfolding without machine_of
  machine_without [] = refl
  machine_without (y ∷ ys) =
      by_eq (key_of y) k
      (λ e same. rw e (machine_without ys))
      (λ e other. rw (e, e) (machine_without ys))

  -- what is known of the session that an active machine has
  pub record Had (P : Session → Type 0) (xs : List Session) (x : Session) : Type 0 where
    pub keyed : key_of x ≡ k
    pub running : is_open x ≡ true
    pub there : some (λ y. eqb (key_of y) k) xs ≡ true
    pub each_has : P x

  pub machine_had : (P : Session → Type 0) (xs : List Session) (x : Session) → Each P xs → machine_of k xs ≡ Active x → Had P xs x
  unfolding machine_of some
  machine_had P [] x h e = never_active x e
  machine_had P (y ∷ ys) x h e =
      by_eq (key_of y) k
      (λ f same. here (is_open y) refl f same (rw f at e))
      (λ f other. further f (machine_had P ys x h.1 (rw f at e)))
    where
      here : (b : Bool) → is_open y ≡ b → eqb (key_of y) k ≡ true → key_of y ≡ k → cond b (Active y) Inactive ≡ Active x
          → Had P (y ∷ ys) x
      here true o f same e =
          let q : y ≡ x = active_same y x e in
          record { keyed = rw q at same; running = rw q at o; there = rw f; each_has = (rw q at h).0 }
      here false o f same e = never_active x e

      further : eqb (key_of y) k ≡ false → Had P ys x → Had P (y ∷ ys) x
      further f r = record { keyed = r.keyed; running = r.running; there = rw (f, r.there); each_has = r.each_has }

-- where none is owed a notice, every session is open
pub all_open : (xs : List Session) → some (λ x. not (is_open x)) xs ≡ false → count is_open xs ≡ length xs
unfolding some count
all_open [] e = refl
all_open (x ∷ xs) e = go (is_open x) e (all_open xs)
  where
    owed : Bool
    owed = some (λ y. not (is_open y)) xs

    go : (b : Bool) → (not b || owed) ≡ false → (owed ≡ false → count is_open xs ≡ length xs)
        → cond b 1 0 + count is_open xs ≡ suc (length xs)
    go true e f = omega (arith, f e)
    go false e f = let z : ◌≡◌ {A = ℕ} 0 1 = cc in absurd (omega arith)
