-- What is found in an image, whatever its octets are, is what the state says that they are read as.
use mathlib.Core.Path.{◌≡◌, refl}
use mathlib.Core.Bool.{Bool, true, false, cond, ◌||◌, not}
use mathlib.Core.List.{List}
use Prim.Native.Nat.{ℕ}
use native.Mathlib.Omega.{arith}
use lib.Dec.{eqb}
use lib.ListN.{get_or, drop}
use borrow.Author.Tests.{eq-eqb, ne_eqb}
use Rattle.std.specs.Prelude.{Option, Some, is_some}
use Rattle.octets.specs.Octets.{low_number}
use Rattle.octets.specs.Lists.{some}
use Rattle.octets.proofs.Cases.{by_eq}
use Rattle.codec.specs.declared.FrameSet.{FrameSet}
use Rattle.machine.specs.declared.Session.{Session}
use Rattle.machine.specs.declared.Machine.{Machine}
use Rattle.machine.specs.declared.Machine.TheVariants.{Inactive, Active}
use Rattle.machine.specs.Machine.{key_of, is_open}
use Rattle.plan.specs.declared.Port.{Port}
use Rattle.plan.specs.declared.Flow.{Flow}
use Rattle.plan.specs.Plan.{no_port, no_flow, port_numbered, set_key, flow_key, flow_of_set}
use Rattle.state.specs.State.{machine_of, no_session, first_owed, notice_due}
use Rattle.state.specs.Image.{port_in, flow_in, session_in, state_of}
use Rattle.state.specs.Rows.{row_found, port_at, flow_at, session_at, owed_at, flow_of_row, machine_of_row}
use Rattle.state.proofs.FoundLaws.{Found, found, found_first}
use Rattle.state.proofs.RowLaws.{flow_key_in, session_key_in}

or_cond : (p q : Bool) → (p || q) ≡ cond p true q
or_cond true q = refl
or_cond false q = refl

module _ (b : List ℕ) where
  -- the port of a number
  pub port_found : (number : ℕ) {r : ℕ} → r ≡ port_at number b
      → Found r no_port (port_in (drop r b)) (port_numbered number (state_of b).plan)
  unfolding port_at port_in port_numbered state_of
  port_found number e =
      let passes : Port → Bool = λ p. eqb p.number number in
      found_first port_in (λ l. eqb (get_or l 7 0) number) passes no_port 16 (λ l. refl) 8 128 b (omega arith) e

  -- the flow of a port and a frame set
  pub flow_found : (port : ℕ) (set : FrameSet) → flow_of_row (row_found (flow_at port set b)) b ≡ flow_of_set port set (state_of b).plan
  unfolding flow_at flow_of_row flow_of_set state_of
  flow_found port set =
      let k : ℕ = set_key port set.kind set.vid in
      let f : Found (flow_at port set b) no_flow (flow_in (drop (flow_at port set b) b)) (flow_of_set port set (state_of b).plan)
      = found_first flow_in (λ l. eqb (low_number 4 (drop 4 l)) k) (λ f. eqb (flow_key f) k) no_flow 32 (λ l. rw flow_key_in) 32 256 b
      (omega arith) refl in
      by_eq (flow_at port set b) 0 (λ e z. simp e (f.nothing z)) (λ e z. simp e (f.something z))

  -- whether there is a flow of the port and the frame set
  pub flow_there : (port : ℕ) (set : FrameSet) {row : Option ℕ} → row ≡ row_found (flow_at port set b)
      → is_some row ≡ some (λ f. eqb (flow_key f) (set_key port set.kind set.vid)) (state_of b).plan.flows
  unfolding flow_at state_of some
  flow_there port set e =
      let k : ℕ = set_key port set.kind set.vid in
      let sought : Flow → Bool = λ f. eqb (flow_key f) k in
      let r : ℕ = flow_at port set b in
      let f : Found r false true (some sought (state_of b).plan.flows)
      = found flow_in (λ l. eqb (low_number 4 (drop 4 l)) k) sought (λ x. true) (some sought) 32
      (λ l. rw flow_key_in) (λ x xs. or_cond (sought x) (some sought xs)) 32 256 b (omega arith) refl in
      rw e (by_eq r 0 (λ t z. simp t (f.nothing z)) (λ t z. simp t (f.something z)))

  -- the machine of a session's row
  module _ (at : ℕ) {x : Session} (read : x ≡ session_in (drop at b)) where
    pub row_owed : (x.notice ≡ 0 → ⊥) → Inactive ≡ machine_of_row (Some at) b
    unfolding machine_of_row is_open
    row_owed h = rw (← read, ne_eqb x.notice 0 h)

    pub row_open : x.notice ≡ 0 → Active x ≡ machine_of_row (Some at) b
    unfolding machine_of_row is_open
    row_open h = rw (← read, eq-eqb x.notice 0 h)

  -- the machine of a key
  pub machine_found : (key : ℕ) {row : Option ℕ} → row ≡ row_found (session_at key b)
      → machine_of_row row b ≡ machine_of key (state_of b).sessions
  unfolding session_at machine_of_row state_of machine_of
  machine_found key e =
      let hit : Session → Machine = λ x. cond (is_open x) (Active x) Inactive in
      let r : ℕ = session_at key b in
      let f : Found r Inactive (hit (session_in (drop r b))) (machine_of key (state_of b).sessions)
      = found session_in (λ l. eqb (low_number 8 l) key) (λ x. eqb (key_of x) key) hit (machine_of key) 32
      (λ l. rw session_key_in) (λ x xs. refl) 16 1536 b (omega arith) refl in
      rw e (by_eq r 0 (λ t z. simp t (f.nothing z)) (λ t z. simp t (f.something z)))

  -- the first session that is owed a notice, and whether one is
  pub owed_found : {r : ℕ} → r ≡ owed_at b → Found r no_session (session_in (drop r b)) (first_owed (state_of b))
  unfolding owed_at session_in state_of first_owed is_open
  owed_found e =
      let owed : Session → Bool = λ x. not (is_open x) in
      found_first session_in (λ l. not (eqb (get_or l 12 0) 0)) owed no_session 32 (λ l. refl) 16 1536 b (omega arith) e

  pub notice_found : {row : Option ℕ} → row ≡ row_found (owed_at b) → is_some row ≡ notice_due (state_of b)
  unfolding owed_at session_in state_of notice_due is_open some
  notice_found e =
      let owed : Session → Bool = λ x. not (is_open x) in
      let r : ℕ = owed_at b in
      let f : Found r false true (notice_due (state_of b))
      = found session_in (λ l. not (eqb (get_or l 12 0) 0)) owed (λ x. true) (some owed) 32
      (λ l. refl) (λ x xs. or_cond (owed x) (some owed xs)) 16 1536 b (omega arith) refl in
      rw e (by_eq r 0 (λ t z. simp t (f.nothing z)) (λ t z. simp t (f.something z)))
