-- An active machine of a world that a valid state shows has time left.
use mathlib.Core.Path.{◌≡◌, refl, sym, ◌∙◌}
use mathlib.Core.Bool.{Bool, true, false, cond}
use mathlib.Core.List.{List, [], ◌∷◌}
use Prim.Native.Nat.{ℕ, ◌<◌, ◌≤◌, ◌^◌}
use lib.Dec.{eqb}
use Rattle.octets.specs.Lists.{every}
use Rattle.octets.proofs.Same.{both_true}
use Rattle.codec.specs.declared.FrameSet.{FrameSet}
use Rattle.machine.specs.declared.Session.{Session}
use Rattle.machine.specs.Machine.{is_open, key_of}
use Rattle.plan.specs.Plan.{flow_of_set, in_plan}
use Rattle.state.specs.State.{State, is_allowed, good_session, valid}
use Rattle.octets.proofs.ListLaws.{within_low}
use Rattle.state.proofs.Rules.{valid_parts}
use Rattle.calls.proofs.Standing.{good_parts, open_time}
use Rattle.demands.specs.Machine.{Owed, nothing, notice as owing, prohibited, active}
use Rattle.demands.specs.World.{World}
use Rattle.demands.specs.Shown.{resting, tag_in, machine_by, machine_in, machine_on, machine_at}
use Rattle.demands.proofs.Shows.{SmallSet, Shows}
use Rattle.demands.proofs.TimeLeft.{Going}
use Rattle.demands.proofs.TimeLeft.{either_going, going_left}

resting_going : (a : Bool) (owed : Owed) → Going (resting a owed)
unfolding resting Going
resting_going true owed = tt
resting_going false owed = tt

module _ (s : State) where
  session_going : (a : Bool) (x : Session) → good_session s x ≡ true → Going (machine_by a x)
  unfolding machine_by Going
  session_going a x good = go (is_open x) refl
    where
      go : (b : Bool) → is_open x ≡ b
          → Going (cond b (active x.level x.side x.left (tag_in x))
          (resting a (owing x.notice x.level x.side (tag_in x))))
      go true o = within_low 1 86400000 x.left (open_time (is_allowed x.flow s) x o (good_parts s x good).1).1
      go false o = resting_going a _

  sessions_going : (a : Bool) (k : ℕ) (xs : List Session) → every (good_session s) xs ≡ true → Going (machine_in a k xs)
  unfolding machine_in every
  sessions_going a k [] h = resting_going a nothing
  sessions_going a k (x ∷ xs) h =
      let b : _ = both_true (good_session s x) (every (good_session s) xs) h in
      either_going (eqb (key_of x) k) _ _ (session_going a x b.0) (sessions_going a k xs b.1)

  pub shown_unexpired : (w : World) → valid s ≡ true → Shows s w → (port : ℕ) (set : FrameSet) (source : ℕ) → SmallSet set
      → source < 2 ^ 48
      → {level side left : ℕ} {tag : List ℕ} → w.machine port set source ≡ active level side left tag → 1 ≤ left
  unfolding machine_at machine_on Going
  shown_unexpired w ok shows port set source small low e =
      let n : ℕ = (flow_of_set port set s.plan).number in
      going_left
      (either_going (in_plan n) (machine_on s n source) (prohibited nothing)
      (sessions_going _ _ s.sessions (valid_parts s ok).sessions_good) tt)
      (sym (shows.machines port set source small low) ∙ e)
