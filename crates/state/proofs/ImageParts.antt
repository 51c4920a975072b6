-- Where the parts of an image stand, for a state whose parts have their lengths.
use mathlib.Core.Path.{◌≡◌, refl, ap, ◌∙◌}
use mathlib.Core.List.{List, ◌++◌, map, append_assoc}
use Prim.Native.Nat.{ℕ, suc, zero, ◌+◌}
use native.Mathlib.Omega.{arith}
use lib.ListN.{length, drop, length-append, length-map}
use lib.Seq.{drop-drop, drop_at}
use Rattle.octets.specs.Octets.{low_octets}
use Rattle.octets.proofs.LowLaws.{low_octets_length}
use Rattle.plan.specs.declared.Flow.{Flow}
use Rattle.state.specs.State.{State}
use Rattle.state.specs.Image.{port_row, flow_row, session_row, table, bit, places, head, image}
use Rattle.state.specs.Image.{unit_flag, shared_address, ports_open, behind_places, port_counters, flows_open, behind_sessions}
use Rattle.state.proofs.BaseParts.{Lengths, lengths}
use Rattle.state.proofs.Sizes.{Sized}

pub places_length : (n m : ℕ) (fs : List Flow) → length (places n m fs) ≡ n
unfolding places
places_length zero m fs = refl
places_length (suc n) m fs = ap suc (places_length n (m + 1) fs)

-- an image from each part on
module _ (s : State) where
  abbrev pub sessions_part : List ℕ
  sessions_part = table 512 session_row s.sessions ++ behind_sessions s

  abbrev pub counts_part : List ℕ
  counts_part = port_counters s ++ (flows_open s ++ sessions_part)

  abbrev pub flows_part : List ℕ
  flows_part = table 1024 flow_row s.plan.flows ++ counts_part

  abbrev pub ports_part : List ℕ
  ports_part = table 128 port_row s.plan.ports ++ flows_part

  abbrev pub places_part : List ℕ
  places_part = places 32 1 s.plan.flows ++ (behind_places s ++ ports_part)

  abbrev pub allowed_part : List ℕ
  allowed_part = map bit s.allowed ++ places_part

  -- what stands before it
  abbrev pub front_part : ℕ → List ℕ
  front_part clock = low_octets 4 clock ++ (unit_flag s ++ (shared_address s ++ ports_open s))

  pub front_length : (clock : ℕ) → length (front_part clock) ≡ 32
  front_length clock =
      simp length-append
      (let n : Lengths s = lengths s in omega (arith, low_octets_length 4 clock))

  pub image_parts : image s ≡ low_octets 4 s.clock ++ (unit_flag s ++ (shared_address s ++ (ports_open s ++ allowed_part)))
  unfolding image head
  image_parts = simp append_assoc

  pub image_front : image s ≡ front_part s.clock ++ allowed_part
  image_front = rw image_parts (simp append_assoc)

module _ (s : State) (h : Sized s) where
  -- what stands behind a part
  next_part : (at n : ℕ) (p q : List ℕ) → drop at (image s) ≡ p ++ q → length p ≡ n → drop (at + n) (image s) ≡ q
  next_part at n p q e k = rw (← drop-drop n at (image s), e) (drop_at p q n k)

  pub image_allowed : drop 32 (image s) ≡ allowed_part s
  image_allowed = rw image_front (drop_at (front_part s s.clock) (allowed_part s) 32 (front_length s s.clock))

  pub image_places : drop 64 (image s) ≡ places_part s
  image_places =
      next_part 32 32 (map bit s.allowed) (places_part s) image_allowed (length-map s.allowed bit ∙ h.allowed_size)

  behind_places_lem : drop 96 (image s) ≡ behind_places s ++ ports_part s
  behind_places_lem =
      let fs : List Flow = s.plan.flows in
      next_part 64 32 (places 32 1 fs) (behind_places s ++ ports_part s) image_places (places_length 32 1 fs)

  pub image_ports : drop 128 (image s) ≡ ports_part s
  image_ports = next_part 96 32 (behind_places s) (ports_part s) behind_places_lem (lengths s).behind_places

  pub image_flows : drop 256 (image s) ≡ flows_part s
  image_flows = next_part 128 128 (table 128 port_row s.plan.ports) (flows_part s) image_ports h.ports_size

  behind_flows : drop 1280 (image s) ≡ counts_part s
  behind_flows = next_part 256 1024 (table 1024 flow_row s.plan.flows) (counts_part s) image_flows h.flows_size

  behind_counters : drop 1472 (image s) ≡ flows_open s ++ sessions_part s
  behind_counters = next_part 1280 192 (port_counters s) (flows_open s ++ sessions_part s) behind_flows (lengths s).counters

  pub image_sessions : drop 1536 (image s) ≡ sessions_part s
  image_sessions = next_part 1472 64 (flows_open s) (sessions_part s) behind_counters (lengths s).flows_open_is

  pub head_size : length (head s) ≡ 1536
  unfolding head
  head_size =
      let n : Lengths s = lengths s in
      simp (length-append, length-map)
      (omega (arith, low_octets_length 4 s.clock, places_length 32 1 s.plan.flows))

  pub image_size : length (image s) ≡ 4096
  unfolding image
  image_size = simp length-append (omega (arith, head_size, (lengths s).behind_sessions_is))
