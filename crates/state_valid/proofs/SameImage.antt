-- The image of a state, compared with octets part by part.
use mathlib.Core.Path.{◌≡◌, ◌∙◌}
use mathlib.Core.Bool.{◌&&◌}
use mathlib.Core.List.{List, ◌++◌, map}
use Prim.Native.Nat.{ℕ, ◌+◌}
use lib.ListN.{length, take, drop, length-map}
use lib.Seq.{drop-drop}
use Rattle.octets.specs.Octets.{low_octets, same}
use Rattle.octets.proofs.LowLaws.{low_octets_length}
use Rattle.state.specs.State.{State}
use Rattle.state.specs.Image.{port_row, flow_row, session_row, table, places, bit, image}
use Rattle.state.specs.Image.{unit_flag, shared_address, ports_open, behind_places, port_counters, flows_open, behind_sessions}
use Rattle.state.proofs.BaseParts.{Lengths, lengths}
use Rattle.state.proofs.Sizes.{Sized}
use Rattle.state.proofs.ImageParts.{image_parts, places_length}
use Rattle.state_tables.proofs.RowsLaw.{same_parts}

-- a part of n octets, and what follows
same_at : (p q l : List ℕ) (at n : ℕ) → length p ≡ n
    → same (p ++ q) (drop at l) ≡ (same p (take n (drop at l)) && same q (drop (at + n) l))
same_at p q l at n e = rw (same_parts, e, drop-drop)

pub same_image : (s : State) (l : List ℕ) → Sized s
    → same (image s) l
    ≡ (same (low_octets 4 s.clock) (take 4 l)
    && (same (unit_flag s) (take 4 (drop 4 l))
    && (same (shared_address s) (take 8 (drop 8 l))
    && (same (ports_open s) (take 16 (drop 16 l))
    && (same (map bit s.allowed) (take 32 (drop 32 l))
    && (same (places 32 1 s.plan.flows) (take 32 (drop 64 l))
    && (same (behind_places s) (take 32 (drop 96 l))
    && (same (table 128 port_row s.plan.ports) (take 128 (drop 128 l))
    && (same (table 1024 flow_row s.plan.flows) (take 1024 (drop 256 l))
    && (same (port_counters s) (take 192 (drop 1280 l))
    && (same (flows_open s) (take 64 (drop 1472 l))
    && (same (table 512 session_row s.sessions) (take 512 (drop 1536 l))
    && same (behind_sessions s) (drop 2048 l)))))))))))))
same_image s l h =
    let n : Lengths s = lengths s in
    rw (
      image_parts s,
      same_at _ _ l 0 4 (low_octets_length 4 s.clock),
      same_at _ _ l 4 4 n.flag,
      same_at _ _ l 8 8 n.shared,
      same_at _ _ l 16 16 n.ports_open_is,
      same_at _ _ l 32 32 (length-map s.allowed bit ∙ h.allowed_size),
      same_at _ _ l 64 32 (places_length 32 1 s.plan.flows),
      same_at _ _ l 96 32 n.behind_places,
      same_at _ _ l 128 128 h.ports_size,
      same_at _ _ l 256 1024 h.flows_size,
      same_at _ _ l 1280 192 n.counters,
      same_at _ _ l 1472 64 n.flows_open_is,
      same_at _ _ l 1536 512 h.sessions_size,
    )
