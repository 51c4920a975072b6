-- A valid state's rows are read back, and its tables have their lengths.
use mathlib.Core.Path.{◌≡◌}
use mathlib.Core.Bool.{true}
use mathlib.Core.List.{List}
use Prim.Native.Nat.{ℕ, ◌*◌, ◌≤◌}
use native.Mathlib.Omega.{arith}
use lib.ListN.{length}
use Rattle.octets.proofs.ListLaws.{within_low}
use Rattle.machine.specs.declared.Session.{Session}
use Rattle.plan.specs.declared.Port.{Port}
use Rattle.plan.specs.declared.Flow.{Flow}
use Rattle.plan.specs.Plan.{Plan, good_port, good_flow, so_far, keeps_rules}
use Rattle.plan.proofs.Kept.{rules_so_far, rules}
use Rattle.plan.proofs.Room.{ports_few, flows_few}
use Rattle.state.specs.State.{State, good_session, valid}
use Rattle.state.specs.Image.{port_row, flow_row, session_row, table, port_in, flow_in, session_in}
use Rattle.state.proofs.Rules.{Valid, valid_parts}
use Rattle.state.proofs.RowLaws.{port_length, flow_length, session_length, port_back, flow_back, session_back}
use Rattle.state.proofs.RowLaws.{port_head, flow_head, session_head}
use Rattle.state.proofs.TableLaws.{Each, each, each_also, Readable, table_length}
use Rattle.state.proofs.Fits.{GoodPort, good_port_lem, GoodFlow, good_flow_lem, GoodSession, good_session_lem}

-- ---- each row of a valid state is read back

module _ (plan : Plan) (k : keeps_rules plan ≡ true) where
  pub ports_readable : Each (Readable port_row port_in 16) plan.ports
  ports_readable = each (Readable port_row port_in 16) good_port one plan.ports (rules plan k).ports_good
    where
      one : (p : Port) → good_port p ≡ true → Readable port_row port_in 16 p
      one p h =
          let g : GoodPort p = good_port_lem p h in
          record {
            long = port_length p;
            back = λ t. port_back p t g.fits;
            some = λ t. port_head p t (within_low 1 8 p.number g.number_within);
          }

  pub flows_readable : Each (Readable flow_row flow_in 32) plan.flows
  flows_readable = each (Readable flow_row flow_in 32) (good_flow plan) one plan.flows (rules plan k).flows_good
    where
      one : (f : Flow) → good_flow plan f ≡ true → Readable flow_row flow_in 32 f
      one f h =
          let g : GoodFlow f = good_flow_lem plan f h in
          record {
            long = flow_length f g.fits.mps_fit;
            back = λ t. flow_back f t g.fits;
            some = λ t. flow_head f t g.port_some;
          }

pub sessions_readable : (s : State) → valid s ≡ true → Each (Readable session_row session_in 32) s.sessions
sessions_readable s v =
    let p : Valid s = valid_parts s v in
    let one : (x : Session) → good_session s x ≡ true → Readable session_row session_in 32 x
    = λ x h.
    let g : GoodSession x = good_session_lem s x p.plan_kept h in
    record {
      long = session_length x;
      back = λ t. session_back x t g.fits;
      some = λ t. session_head x t g.fits g.key_some;
    } in
    each (Readable session_row session_in 32) (good_session s) one s.sessions p.sessions_good

-- ---- the lengths

pub record Sized (s : State) : Type 0 where
  pub allowed_size : length s.allowed ≡ 32
  pub ports_size : length (table 128 port_row s.plan.ports) ≡ 128
  pub flows_size : length (table 1024 flow_row s.plan.flows) ≡ 1024
  pub sessions_size : length (table 512 session_row s.sessions) ≡ 512

module _ {A : Type 0} (row : A → List ℕ) (read : List ℕ → A) (width : ℕ) (xs : List A) (h : Each (Readable row read width) xs) where
  pub readable_long : Each (λ x. length (row x) ≡ width) xs
  readable_long = each_also (Readable row read width) (λ x. length (row x) ≡ width) (λ x r. r.long) xs h

  pub readable_size : (n : ℕ) → length xs * width ≤ n → length (table n row xs) ≡ n
  readable_size n f = table_length row width n xs readable_long f

pub sized : (s : State) → valid s ≡ true → Sized s
sized s v =
    let p : Valid s = valid_parts s v in
    let k : keeps_rules s.plan ≡ true = p.plan_kept in
    let far : so_far s.plan ≡ true = (rules_so_far s.plan k).1 in
    let ports : length s.plan.ports ≤ 8 = ports_few s.plan far in
    let flows : length s.plan.flows ≤ 32 = flows_few s.plan far in
    let sessions : length s.sessions ≤ 16 = p.sessions_few in
    record {
      allowed_size = p.allowed_length;
      ports_size = readable_size port_row port_in 16 s.plan.ports (ports_readable s.plan k) 128 (omega arith);
      flows_size = readable_size flow_row flow_in 32 s.plan.flows (flows_readable s.plan k) 1024 (omega arith);
      sessions_size = readable_size session_row session_in 32 s.sessions (sessions_readable s v) 512 (omega arith);
    }
