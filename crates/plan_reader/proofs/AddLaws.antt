-- What a line with no fault tells of the records that it is added to: there is room, and its numbers are low. What the records are
-- with it.
use mathlib.Core.Path.{◌≡◌, ap, ◌∙◌}
use mathlib.Core.Bool.{true, false}
use mathlib.Core.List.{List, map}
use Prim.Native.Nat.{ℕ, ◌<◌, ◌≤◌}
use lib.Dec.{eqb}
use lib.ListN.{length, replicate}
use Rattle.octets.specs.Lists.{some}
use Rattle.octets.proofs.ListLaws.{within_low, within_high}
use Rattle.plan.specs.declared.Port.{Port}
use Rattle.plan.specs.declared.Flow.{Flow}
use Rattle.plan.specs.declared.Records.{Records}
use Rattle.plan.specs.Plan.{Plan, no_port, no_flow, set_key, flow_key, so_far}
use Rattle.plan.specs.Line.{port_line, flow_line, mp_line}
use Rattle.plan.specs.PlanText.{port_reason, flow_reason, mp_reason, with_mp, added}
use Rattle.plan.specs.Records.{held_ports, held_flows, plan_of, filled, by_value}
use Rattle.plan.proofs.Faultless.{port_cleared, flow_cleared, mp_cleared}
use Rattle.plan.proofs.Room.{port_absent, set_absent, port_room, flow_room}
use Rattle.plan.proofs.AddedMp.{with_none}
use Rattle.plan_reader.proofs.ReasonLaws.{vid_high}
use Rattle.plan_records.specs.Insertion.{place_of, inserted}
use Rattle.plan_records.proofs.InsertLaws.{filled_put, filled_map}

pub record PortFits (r : Records) (number : ℕ) : Type 0 where
  pub low : number ≤ 8
  pub room : length (held_ports r.ports) < 8
  pub new : some (λ p. eqb p.number number) (held_ports r.ports) ≡ false

pub record FlowFits (r : Records) (number port kind vid : ℕ) : Type 0 where
  pub low : number ≤ 32
  pub port_low : port ≤ 8
  pub vid_low : vid ≤ 4094
  pub room : length (held_flows r.flows) < 32
  pub new : some (λ f. eqb (flow_key f) (set_key port kind vid)) (held_flows r.flows) ≡ false

module _ (r : Records) (h : so_far (plan_of r) ≡ true) where
  pub port_fits_lem : (number address : ℕ) → port_reason (plan_of r) number address ≡ 0 → PortFits r number
  unfolding plan_of
  port_fits_lem number address e =
      let f : _ = port_cleared (plan_of r) number address e in
      record {
        low = within_high 1 8 number f.number_fits;
        room = port_room (plan_of r) h number f.number_fits f.number_new;
        new = port_absent (plan_of r) h number f.number_new;
      }

  pub flow_fits_lem : (number port kind vid : ℕ) → flow_reason (plan_of r) number port kind vid ≡ 0 → FlowFits r number port kind vid
  unfolding plan_of
  flow_fits_lem number port kind vid e =
      let f : _ = flow_cleared (plan_of r) number port kind vid e in
      record {
        low = within_high 1 32 number f.number_fits;
        port_low = within_high 1 8 port f.port_fits;
        vid_low = vid_high kind vid f.vid_fits;
        room = flow_room (plan_of r) h number f.number_fits f.number_new;
        new = set_absent (plan_of r) h port kind vid f.set_new;
      }

pub level_fits : (plan : Plan) (flow level : ℕ) → mp_reason plan flow level ≡ 0 → level ≤ 7
level_fits plan flow level e = within_high 0 7 level (mp_cleared plan flow level e).level_fits

-- ---- the rows of a plan by value, with a record more

module _ (r : Records) (v : r ≡ by_value (plan_of r)) where
  port_rows : r.ports ≡ filled 8 no_port (held_ports r.ports)
  unfolding by_value plan_of
  port_rows = ap (λ (x : Records). x.ports) v

  flow_rows : r.flows ≡ filled 32 no_flow (held_flows r.flows)
  unfolding by_value plan_of
  flow_rows = ap (λ (x : Records). x.flows) v

  pub port_added : (number kind address : ℕ) {rows : List Port} → PortFits r number
      → let x : Port = record { number = number; kind = kind; address = address } in
      rows ≡ inserted (place_of (λ p. p.number) number (held_ports r.ports)) x r.ports
      → ◌≡◌ {A = Records} (record { ports = rows; flows = r.flows }) (by_value (added (port_line number kind address) (plan_of r)))
  unfolding by_value plan_of added
  port_added number kind address f e =
      let x : Port = record { number = number; kind = kind; address = address } in
      let held : List Port = held_ports r.ports in
      let ports : _ = e ∙ ap (inserted (place_of (λ (p : Port). p.number) number held) x) port_rows
      ∙ filled_put no_port (λ (p : Port). p.number) x 8 held f.room f.new in
      λ i. record { ports = ports i; flows = flow_rows i }

  pub flow_added : (number port kind vid : ℕ) {rows : List Flow} → FlowFits r number port kind vid
      → let x : Flow = record { number = number; port = port; kind = kind; vid = vid; mps = replicate 8 0 } in
      rows ≡ inserted (place_of flow_key (flow_key x) (held_flows r.flows)) x r.flows
      → ◌≡◌ {A = Records} (record { ports = r.ports; flows = rows }) (by_value (added (flow_line number port kind vid) (plan_of r)))
  unfolding by_value plan_of added flow_key
  flow_added number port kind vid f e =
      let x : Flow = record { number = number; port = port; kind = kind; vid = vid; mps = replicate 8 0 } in
      let held : List Flow = held_flows r.flows in
      let flows : _ = e ∙ ap (inserted (place_of flow_key (flow_key x) held) x) flow_rows
      ∙ filled_put no_flow flow_key x 32 held f.room f.new in
      λ i. record { ports = port_rows i; flows = flows i }

  pub mp_added : (flow kind level : ℕ) {rows : List Flow} → mp_reason (plan_of r) flow level ≡ 0
      → rows ≡ map (with_mp flow kind level) r.flows
      → ◌≡◌ {A = Records} (record { ports = r.ports; flows = rows }) (by_value (added (mp_line flow kind level) (plan_of r)))
  unfolding by_value plan_of added
  mp_added flow kind level g e =
      let none : _ = with_none flow kind level (within_low 1 32 flow (mp_cleared (plan_of r) flow level g).flow_fits) in
      let flows : _ = e ∙ ap (map (with_mp flow kind level)) flow_rows
      ∙ filled_map no_flow (with_mp flow kind level) none 32 (held_flows r.flows) in
      λ i. record { ports = port_rows i; flows = flows i }
