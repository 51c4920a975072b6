-- Machines that start again: a restart, and a state made anew.
use mathlib.Core.Path.{◌≡◌, refl}
use mathlib.Core.Bool.{Bool, true, false, cond}
use mathlib.Core.List.{List, [], ◌∷◌}
use Prim.Native.Nat.{ℕ, ◌-◌, ◌<◌, ◌^◌}
use Rattle.octets.specs.Lists.{every}
use Rattle.octets.proofs.Same.{both_true}
use Rattle.octets.proofs.Cases.{by_eq}
use Rattle.octets.proofs.ListLaws.{all_alike}
use Rattle.codec.specs.declared.FrameSet.{FrameSet}
use Rattle.machine.specs.declared.Session.{Session}
use Rattle.machine.specs.Machine.{is_open, key, key_of, owed}
use Rattle.plan.specs.Plan.{Plan, flow_of_set, in_plan}
use Rattle.state.specs.State.{State, is_allowed, good_session, valid, with_sessions, with_clock, made}
use Rattle.state.proofs.Rules.{valid_parts}
use Rattle.calls.specs.Calls.{restarted_at}
use Rattle.demands.specs.Machine.{Owed, nothing, notice, prohibited, active, restarted}
use Rattle.demands.specs.World.{World, fresh, all}
use Rattle.demands.specs.Shown.{resting, tag_in, machine_by, machine_in, machine_on, machine_at}
use Rattle.demands.proofs.Shows.{Shows}
use Rattle.demands.proofs.Keys.{open_allowed}

module _ (s : State) (w : World) (clock : ℕ) (ok : valid s ≡ true) (shows : Shows s w) where
  rests : (a : Bool) (owed : Owed) → restarted (resting a owed) ≡ resting a nothing
  unfolding resting restarted
  rests true owed = refl
  rests false owed = refl

  restart_in : (n source : ℕ) → source < 2 ^ 48 → (xs : List Session) → every (good_session s) xs ≡ true
      → restarted (machine_in (is_allowed n s) (key n source) xs) ≡ resting (is_allowed n s) nothing
  unfolding machine_in every machine_by restarted resting
  restart_in n source small [] h = rests (is_allowed n s) nothing
  restart_in n source small (x ∷ xs) h =
      let t : _ = both_true (good_session s x) (every (good_session s) xs) h in
      by_eq (key_of x) (key n source)
      (λ e same. rw e (go (is_open x) refl t.0 same))
      (λ e other. rw e (restart_in n source small xs t.1))
    where
      go : (b : Bool) → is_open x ≡ b → good_session s x ≡ true → key_of x ≡ key n source
          → restarted (cond b (active x.level x.side x.left (tag_in x))
          (resting (is_allowed n s) (notice x.notice x.level x.side (tag_in x)))) ≡ resting (is_allowed n s) nothing
      go true o good same = rw (open_allowed s ok x good n source small same o)
      go false o good same = rests (is_allowed n s) (notice x.notice x.level x.side (tag_in x))

  restart_at : (port : ℕ) (set : FrameSet) (source : ℕ) → source < 2 ^ 48
      → restarted (machine_at s port set source) ≡ machine_at (restarted_at clock s) port set source
  unfolding machine_at machine_on machine_in restarted_at restarted is_allowed with_clock with_sessions
  restart_at port set source small = go (in_plan (flow_of_set port set s.plan).number)
    where
      n : ℕ
      n = (flow_of_set port set s.plan).number

      go : (b : Bool) → restarted (cond b (machine_on s n source) (prohibited nothing))
          ≡ cond b (machine_on (restarted_at clock s) n source) (prohibited nothing)
      go true = restart_in n source small s.sessions (valid_parts s ok).sessions_good
      go false = refl

  pub restart_shown : Shows (restarted_at clock s) (all clock restarted w)
  unfolding restarted_at all with_clock with_sessions
  restart_shown =
      record {
        plan_same = shows.plan_same;
        clock_same = refl;
        machines =
            λ port set source set_small small.
            rw (shows.machines port set source set_small small) (restart_at port set source small);
      }

-- ---- a state made anew

pub fresh_shown : (plan : Plan) (clock : ℕ) → Shows (made plan clock) (fresh plan clock)
unfolding made fresh machine_at machine_on machine_in is_allowed resting
fresh_shown plan clock =
    record {
      plan_same = refl;
      clock_same = refl;
      machines = λ port set source set_small small. go port set source (in_plan (flow_of_set port set plan).number);
    }
  where
    go : (port : ℕ) (set : FrameSet) (source : ℕ) (b : Bool)
        → prohibited nothing ≡ cond b (machine_on (made plan clock) (flow_of_set port set plan).number source) (prohibited nothing)
    go port set source true = rw (all_alike false 32 ((flow_of_set port set plan).number - 1))
    go port set source false = refl
