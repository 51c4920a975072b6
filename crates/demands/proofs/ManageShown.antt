-- Allow and prohibit: they touch the machines of their flow, whatever the source, and no other.
use mathlib.Core.Path.{◌≡◌, refl, sym, ap, ◌∙◌}
use mathlib.Core.Bool.{Bool, true, false}
use mathlib.Core.List.{map, map-id}
use Prim.Native.Nat.{ℕ, ◌<◌, ◌^◌}
use borrow.Author.Tests.{eq-eqb, ne_eqb}
use Rattle.machine.specs.declared.Session.{Session}
use Rattle.machine.specs.Table.{mgmt_allow, mgmt_prohibit, action_of}
use Rattle.machine.specs.Machine.{key, is_open, owed}
use Rattle.machine.specs.Management.{closed_by, managed_by}
use Rattle.plan.specs.Plan.{flow_numbered, in_plan}
use Rattle.state.specs.State.{State, is_allowed, notice_due, valid}
use Rattle.calls.specs.Calls.{managed}
use Rattle.calls.proofs.Flags.{flagged}
use Rattle.calls.proofs.ManageValid.{withdrawn, allow_flagged, prohibit_flagged, withdrawn_key}
use Rattle.demands.specs.Machine.{nothing, allowed, forbidden}
use Rattle.demands.specs.World.{World, of_flow}
use Rattle.demands.specs.Shown.{resting, tag_in, machine_by, machine_in, machine_on}
use Rattle.demands.proofs.Shows.{Shows}
use Rattle.demands.proofs.SessionsShown.{open_map}
use Rattle.demands.proofs.FlowShown.{flag_own, flag_beside, flow_shown}

module _ (s : State) (w : World) (flow : ℕ) (ok : valid s ≡ true) (shows : Shows s w)
    (there : in_plan (flow_numbered flow s.plan).number ≡ true) (quiet : notice_due s ≡ false) where
  -- ---- allow

  lifted : (a : Bool) → allowed (resting a nothing) ≡ resting true nothing
  unfolding allowed resting
  lifted true = refl
  lifted false = refl

  allowed_by_lem : (x : Session) → is_open x ≡ true → machine_by true x ≡ allowed (machine_by true x)
  unfolding machine_by allowed
  allowed_by_lem x o = rw o

  allow_own : (source : ℕ) → source < 2 ^ 48
      → machine_on (flagged s flow true s.sessions) flow source ≡ allowed (machine_on s flow source)
  unfolding machine_on
  allow_own source small =
      rw (flag_own s w flow ok shows there true s.sessions)
      (ap (machine_in true (key flow source)) (sym (map-id s.sessions))
      ∙ open_map s ok quiet flow source small true (λ x. x) allowed (λ x. refl) (lifted (is_allowed flow s))
      (λ x o here may. rw may (allowed_by_lem x o)))

  allow_beside : (n source : ℕ) → source < 2 ^ 48 → in_plan n ≡ true → (n ≡ flow → ⊥)
      → machine_on (flagged s flow true s.sessions) n source ≡ machine_on s n source
  unfolding machine_on
  allow_beside n source small here other = rw (flag_beside s w flow ok shows there true s.sessions n here other)

  pub allow_shown : Shows (managed mgmt_allow flow s) (of_flow (flow_numbered flow w.plan) allowed w)
  allow_shown =
      rw (allow_flagged s flow) (flow_shown s w flow ok shows there true s.sessions allowed allow_own allow_beside)

  -- ---- prohibit

  abbrev closed : State
  closed = flagged s flow false (map (withdrawn flow) s.sessions)

  barred : (a : Bool) → forbidden (resting a nothing) ≡ resting false nothing
  unfolding forbidden resting
  barred true = refl
  barred false = refl

  withdrawn_by : (x : Session) → is_open x ≡ true → x.flow ≡ flow
      → machine_by false (withdrawn flow x) ≡ forbidden (machine_by true x)
  unfolding machine_by forbidden managed_by closed_by action_of owed is_open resting tag_in
  withdrawn_by x o e = rw (o, eq-eqb x.flow flow e)

  closed_own : (source : ℕ) → source < 2 ^ 48 → machine_on closed flow source ≡ forbidden (machine_on s flow source)
  unfolding machine_on
  closed_own source small =
      rw (flag_own s w flow ok shows there false (map (withdrawn flow) s.sessions))
      (open_map s ok quiet flow source small false (withdrawn flow) forbidden (withdrawn_key s flow ok there quiet)
      (barred (is_allowed flow s)) (λ x o here may. rw may (withdrawn_by x o here)))

  stays : (a : Bool) (x : Session) → is_open x ≡ true → (x.flow ≡ flow → ⊥) → machine_by a (withdrawn flow x) ≡ machine_by a x
  unfolding managed_by
  stays a x o apart = rw (o, ne_eqb x.flow flow apart)

  closed_beside : (n source : ℕ) → source < 2 ^ 48 → in_plan n ≡ true → (n ≡ flow → ⊥)
      → machine_on closed n source ≡ machine_on s n source
  unfolding machine_on
  closed_beside n source small here other =
      rw (flag_beside s w flow ok shows there false (map (withdrawn flow) s.sessions) n here other)
      (open_map s ok quiet n source small (is_allowed n s) (withdrawn flow) (λ m. m) (withdrawn_key s flow ok there quiet) refl
      (λ x o own may. stays (is_allowed n s) x o (λ e. other (sym own ∙ e))))

  pub prohibit_shown : Shows (managed mgmt_prohibit flow s) (of_flow (flow_numbered flow w.plan) forbidden w)
  prohibit_shown =
      rw (prohibit_flagged s flow)
      (flow_shown s w flow ok shows there false (map (withdrawn flow) s.sessions) forbidden closed_own closed_beside)
