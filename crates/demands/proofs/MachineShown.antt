-- The unit's machine of a key, and the world's that it is.
use mathlib.Core.Path.{◌≡◌, refl}
use mathlib.Core.Bool.{Bool, true, false, cond}
use mathlib.Core.List.{List, [], ◌∷◌}
use Prim.Native.Nat.{ℕ}
use Rattle.octets.specs.Lists.{every}
use Rattle.octets.proofs.Cases.{by_eq}
use Rattle.octets.proofs.Same.{both_true}
use Rattle.machine.specs.declared.Session.{Session}
use Rattle.machine.specs.declared.Machine.{Machine}
use Rattle.machine.specs.declared.Machine.TheVariants.{Inactive, Active}
use Rattle.machine.specs.Machine.{key_of, is_open, status_of, seconds_left}
use Rattle.state.specs.State.{machine_of}
use Rattle.demands.specs.Machine.{Machine as Shown, Owed, nothing, notice, prohibited, inactive, active, idle}
use Rattle.demands.specs.Machine.{status_of as statusIn}
use Rattle.demands.specs.Shown.{resting, tag_in, machine_by, machine_in}

module _ (may : Bool) where
  -- the world's machine for one of the unit's, where no notice is owed
  abbrev pub shown : Machine → Shown
  shown Inactive = resting may nothing
  shown (Active x) = active x.level x.side x.left (tag_in x)

  pub open_shown : (k : ℕ) (xs : List Session) → every is_open xs ≡ true → machine_in may k xs ≡ shown (machine_of k xs)
  unfolding every machine_in machine_of machine_by
  open_shown k [] h = refl
  open_shown k (x ∷ xs) h =
      let b : _ = both_true (is_open x) (every is_open xs) h in
      by_eq (key_of x) k (λ e same. rw (e, b.0)) (λ e other. rw e (open_shown k xs b.1))

  -- A reply tells the same of both, whatever is owed.
  resting_idle : (owed : Owed) → statusIn (resting may owed) ≡ idle
  unfolding resting statusIn
  resting_idle owed = go may
    where
      go : (b : Bool) → statusIn (cond b (inactive owed) (prohibited owed)) ≡ idle
      go true = refl
      go false = refl

  pub status_same : (k : ℕ) (xs : List Session) → statusIn (machine_in may k xs) ≡ status_of (machine_of k xs)
  unfolding machine_in machine_of machine_by is_open statusIn status_of idle seconds_left
  status_same k [] = resting_idle nothing
  status_same k (x ∷ xs) =
      by_eq (key_of x) k
      (λ e same. by_eq x.notice 0
      (λ q none. rw (e, q))
      (λ q due. rw (e, q) (resting_idle (notice x.notice x.level x.side (tag_in x)))))
      (λ e other. rw e (status_same k xs))
