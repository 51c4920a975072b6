-- Two valid states that show one world are equal: what a state holds is what its machines tell.
use mathlib.Core.Path.{◌≡◌, refl, sym, ap, ◌∙◌}
use mathlib.Core.Bool.{true, false}
use mathlib.Core.List.{List, [], ◌∷◌}
use Prim.Native.Nat.{ℕ, ◌/◌, ◌^◌}
use native.Mathlib.Omega.{arith}
use lib.Dec.{eqb}
use lib.Seq.{ext_get_or}
use Rattle.octets.specs.Lists.{every, first}
use Rattle.octets.proofs.Cases.{by_eq}
use Rattle.octets.proofs.ListLaws.{not_found}
use Rattle.octets.proofs.Members.{same_found}
use Rattle.machine.specs.declared.Session.{Session}
use Rattle.machine.specs.Machine.{key, key_of}
use Rattle.plan.specs.Plan.{flow_numbered, flow_of_set, in_plan}
use Rattle.state.specs.State.{State, with_sessions, is_allowed, valid, no_session}
use Rattle.state.specs.Image.{image, state_of, ok_image}
use Rattle.state.proofs.ImageLaws.{ok_valid, image_state}
use Rattle.state.proofs.OwedRow.{by_test}
use Rattle.state.proofs.Rules.{Valid, valid_parts}
use Rattle.demands.specs.World.{World, at}
use Rattle.demands.specs.Shown.{resting, machine_in, machine_on, machine_at, world_of}
use Rattle.demands.proofs.Shows.{Shows}
use Rattle.demands.proofs.Keys.{no_session_lem}
use Rattle.demands.proofs.AtKey.{at_there, at_gone}
use Rattle.demands.proofs.SessionTold.{session_by, found_told}
use Rattle.demands.proofs.FlagsTold.{flag_told}

-- what is found by a key is what the machine of the key tells
module _ (s : State) (ok : valid s ≡ true) (w : World) (shows : Shows s w) where
  found_shown : (k : ℕ) → first (λ x. eqb (key_of x) k) no_session s.sessions ≡ session_by k (at k w)
  unfolding machine_in resting first every
  found_shown k =
      by_test (in_plan (flow_numbered (k / 2 ^ 48) s.plan).number)
      (λ there.
      rw (at_there s ok w shows k there)
      (sym (found_told s ok (is_allowed (k / 2 ^ 48) s) k s.sessions (valid_parts s ok).sessions_good)))
      (λ gone.
      rw (
        at_gone s ok w shows k gone,
        not_found (λ x. eqb (key_of x) k) no_session s.sessions (no_session_lem s ok k gone),
      ) (sym (found_told s ok false k [] refl)))

-- Nothing that a host can't see stands in a state: the world that it shows is all of it.
pub shown_once : (s t : State) (w : World) → valid s ≡ true → valid t ≡ true → Shows s w → Shows t w → s ≡ t
unfolding no_session key_of key
shown_once s t w vs vt a b =
    let plans : s.plan ≡ t.plan = sym a.plan_same ∙ b.plan_same in
    let clocks : s.clock ≡ t.clock = sym a.clock_same ∙ b.clock_same in
    let x : Valid s = valid_parts s vs in
    let y : Valid t = valid_parts t vt in
    let flags : s.allowed ≡ t.allowed
    = ext_get_or false s.allowed t.allowed (x.allowed_length ∙ sym y.allowed_length)
    (λ i low. flag_told s vs w a i ∙ sym (flag_told t vt w b i)) in
    let rows : s.sessions ≡ t.sessions
    = same_found key_of 0 no_session (omega arith) s.sessions t.sessions x.sessions_ascend y.sessions_ascend
    (λ k. found_shown s vs w a k ∙ sym (found_shown t vt w b k)) in
    rw (sym plans, sym clocks, sym flags, sym rows)

-- So octets that pass and show one world are the same octets.
pub one_octets : (l k : List ℕ) {w : World} → ok_image l ≡ true → ok_image k ≡ true → Shows (state_of l) w → Shows (state_of k) w
    → l ≡ k
one_octets l k {w = w} p q a b =
    sym (image_state l p) ∙ ap image (shown_once (state_of l) (state_of k) w (ok_valid l p) (ok_valid k q) a b) ∙ image_state k q

-- Both have to be valid: a session that stands twice is shown as one that stands once.
twice_shown : (s : State) (x : Session) → Shows (with_sessions (x ∷ x ∷ []) s) (world_of (with_sessions (x ∷ []) s))
unfolding world_of with_sessions machine_at machine_on machine_in is_allowed
twice_shown s x =
    record {
      plan_same = refl;
      clock_same = refl;
      machines =
          λ port set source small low.
          let flow : ℕ = (flow_of_set port set s.plan).number in
          by_eq (key_of x) (key flow source) (λ e same. rw e) (λ e other. rw e);
    }
