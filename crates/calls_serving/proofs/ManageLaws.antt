-- What the rewritings of tick, allow, prohibit and restart make of a valid state's image.
use mathlib.Core.Path.{◌≡◌, refl, sym, ap, ◌∙◌}
use mathlib.Core.Bool.{Bool, true, false}
use mathlib.Core.List.{List, [], map}
use Prim.Native.Nat.{ℕ, ◌+◌, ◌-◌, ◌≤◌}
use lib.ListN.{set}
use Rattle.octets.specs.Octets.{low_octets, splice}
use Rattle.machine.specs.declared.Session.{Session}
use Rattle.machine.specs.declared.Machine.TheVariants.{Inactive}
use Rattle.machine.specs.Table.{Event, action_of, action_at, event_at, condition_number, condition_at}
use Rattle.machine.specs.Machine.{activity, condition_of}
use Rattle.machine.specs.Management.{managed_by, allowed_after}
use Rattle.machine.specs.Time.{elapsed, ticked}
use Rattle.state.specs.State.{State, with_sessions, is_allowed, with_allowed, with_clock}
use Rattle.state.specs.Image.{bit, image, state_of, ok_image}
use Rattle.state.proofs.Rules.{valid_parts}
use Rattle.state.proofs.ImageLaws.{ok_valid, image_state}
use Rattle.state_store.specs.StoredRows.{sessions_mapped, sessions_cleared}
use Rattle.state_store.proofs.Images.{Laid, laid, mapped_image, cleared_image}
use Rattle.state_store.proofs.Images.{clock_image, allowed_image}
use Rattle.calls.specs.Calls.{ticked_to, managed, restarted_at}

-- the table's entry for a flow without a session, at the row that the flow has
pub flow_action : (now : Bool) (event : ℕ)
    → action_at (condition_number (condition_of now Inactive)) event ≡ action_of (condition_of now Inactive) (event_at event)
unfolding action_at condition_at condition_number condition_of activity
flow_action true event = refl
flow_action false event = refl

-- is the flow allowed after an event?
abbrev pub allowed_by : Event → ℕ → State → Bool
allowed_by e flow s = allowed_after (action_of (condition_of (is_allowed flow s) Inactive) e) (is_allowed flow s)

clocked : (s : State) (clock : ℕ) {x y : List ℕ} → x ≡ image s → y ≡ splice 0 (low_octets 4 clock) x
    → y ≡ image (with_clock clock s)
clocked s clock ex ey = ey ∙ rw ex (clock_image s clock)

module _ (b : List ℕ) (ok : ok_image b ≡ true) where
  abbrev s : State
  s = state_of b

  same : image s ≡ b
  same = image_state b ok

  lay : Laid s
  lay = laid s (ok_valid b ok)

  flagged : (xs : List Session) (n : ℕ) (a : Bool) {x y : List ℕ} → 1 ≤ n → n ≤ 32 → x ≡ image (with_sessions xs s)
      → y ≡ set x (31 + n) (bit a) → y ≡ image (with_allowed (set s.allowed (n - 1) a) (with_sessions xs s))
  unfolding with_sessions
  flagged xs n a low high ex ey =
      ey ∙ rw ex (allowed_image (with_sessions xs s) n a (valid_parts s (ok_valid b ok)).allowed_length low high)

  pub ticked_there : (clock : ℕ) {last passed : ℕ} {x y : List ℕ} → last ≡ s.clock → passed ≡ elapsed clock last
      → x ≡ sessions_mapped (ticked passed) b → y ≡ splice 0 (low_octets 4 clock) x → y ≡ image (ticked_to clock s)
  unfolding ticked_to with_sessions with_clock
  ticked_there clock {last} {passed} el ep ex ey =
      let e : passed ≡ elapsed clock s.clock = rw el at ep in
      let at : sessions_mapped (ticked passed) b ≡ image (with_sessions (map (ticked (elapsed clock s.clock)) s.sessions) s)
      = rw (← e) (ap (sessions_mapped (ticked passed)) (sym same) ∙ mapped_image s lay (ticked passed)) in
      clocked (with_sessions (map (ticked (elapsed clock s.clock)) s.sessions) s) clock (ex ∙ at) ey

  pub restarted_there : (clock : ℕ) {x y : List ℕ} → x ≡ sessions_cleared b → y ≡ splice 0 (low_octets 4 clock) x
      → y ≡ image (restarted_at clock s)
  unfolding restarted_at with_sessions with_clock
  restarted_there clock ex ey =
      clocked (with_sessions [] s) clock (ex ∙ ap sessions_cleared (sym same) ∙ cleared_image s lay) ey

  pub managed_there : (flow event : ℕ) {on : Bool} {act : ℕ} {x y : List ℕ} → 1 ≤ flow → flow ≤ 32
      → on ≡ allowed_by (event_at event) flow s → act ≡ action_at 2 event → x ≡ sessions_mapped (managed_by act flow) b
      → y ≡ set x (31 + flow) (bit on) → y ≡ image (managed (event_at event) flow s)
  unfolding managed with_sessions with_allowed action_at condition_at
  managed_there flow event {on} {act} low high eo ea ex ey =
      let f : Session → Session = managed_by act flow in
      rw (eo, ea) at
      (flagged (map f s.sessions) flow on low high (ex ∙ ap (sessions_mapped f) (sym same) ∙ mapped_image s lay f) ey)
