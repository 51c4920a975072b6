-- The image, there and back: octets that pass are the one image of a valid state, and that image is read as the state.
use mathlib.Core.Path.{◌≡◌, refl, sym, ap, ◌∙◌}
use mathlib.Core.Bool.{Bool, true, false}
use mathlib.Core.List.{List, [], ◌∷◌, ◌++◌, map}
use Prim.Native.Nat.{ℕ}
use native.Mathlib.Omega.{arith}
use lib.Dec.{eqb}
use lib.ListN.{length, take, drop, length-map}
use lib.Seq.{take_at}
use Rattle.octets.specs.Octets.{low_number, same}
use Rattle.octets.proofs.LowLaws.{low_octets_lem}
use Rattle.octets.proofs.Same.{both_true, same_equal, same_self}
use Rattle.plan.specs.Plan.{so_far, keeps_rules}
use Rattle.plan.proofs.Kept.{rules_so_far}
use Rattle.plan.proofs.Room.{ports_few, flows_few}
use Rattle.state.specs.State.{State, valid}
use Rattle.state.specs.Image.{port_row, flow_row, session_row, rows_in, bit, head, image}
use Rattle.state.specs.Image.{unit_flag, shared_address, ports_open, behind_sessions}
use Rattle.state.specs.Image.{port_in, flow_in, session_in, state_of, ok_image}
use Rattle.state.proofs.Rules.{Valid, valid_parts}
use Rattle.state.proofs.TableLaws.{rows_back}
use Rattle.state.proofs.Sizes.{ports_readable, flows_readable, sessions_readable, Sized, sized}
use Rattle.state.proofs.ImageParts.{allowed_part, places_part, flows_part, counts_part}
use Rattle.state.proofs.ImageParts.{image_parts, image_allowed, image_ports, image_flows, image_sessions}
use Rattle.state.proofs.ImageParts.{head_size, image_size}

-- ---- octets that pass

pub ok_valid : (l : List ℕ) → ok_image l ≡ true → valid (state_of l) ≡ true
unfolding ok_image
ok_valid l h = (both_true (valid (state_of l)) (same (image (state_of l)) l) h).0

pub image_state : (l : List ℕ) → ok_image l ≡ true → image (state_of l) ≡ l
unfolding ok_image
image_state l h = same_equal (image (state_of l)) l (both_true (valid (state_of l)) (same (image (state_of l)) l) h).1

pub ok_length : (l : List ℕ) → ok_image l ≡ true → length l ≡ 4096
ok_length l h = rw (image_state l h) at (image_size (state_of l) (sized (state_of l) (ok_valid l h)))

-- ---- the image of a valid state

bits_back : (xs : List Bool) → map (eqb 1) (map bit xs) ≡ xs
unfolding bit
bits_back [] = refl
bits_back (true ∷ xs) = ap {B = List Bool} (λ q. true ∷ q) (bits_back xs)
bits_back (false ∷ xs) = ap {B = List Bool} (λ q. false ∷ q) (bits_back xs)

module _ (s : State) (v : valid s ≡ true) where
  parts : Valid s
  parts = valid_parts s v

  size : Sized s
  size = sized s v

  kept : keeps_rules s.plan ≡ true
  kept = parts.plan_kept

  far : so_far s.plan ≡ true
  far = (rules_so_far s.plan kept).1

  pub image_length_lem : length (image s) ≡ 4096
  image_length_lem = image_size s size

  pub head_length : length (head s) ≡ 1536
  head_length = head_size s size

  clock_back : low_number 4 (image s) ≡ s.clock
  clock_back =
      let behind : List ℕ = unit_flag s ++ (shared_address s ++ (ports_open s ++ allowed_part s)) in
      rw (image_parts s) (low_octets_lem 4 s.clock behind parts.clock_fits)

  allowed_back : map (eqb 1) (take 32 (drop 32 (image s))) ≡ s.allowed
  allowed_back =
      let n : length (map bit s.allowed) ≡ 32 = length-map s.allowed bit ∙ parts.allowed_length in
      rw (image_allowed s size, take_at (map bit s.allowed) (places_part s) 32 n) (bits_back s.allowed)

  ports_back : rows_in 8 16 port_in (drop 128 (image s)) ≡ s.plan.ports
  ports_back =
      let r : _ = ports_readable s.plan kept in
      rw (image_ports s size)
      (rows_back port_row port_in 16 (omega arith) 8 128 s.plan.ports (flows_part s) r (ports_few s.plan far) (omega arith))

  flows_back : rows_in 32 32 flow_in (drop 256 (image s)) ≡ s.plan.flows
  flows_back =
      let r : _ = flows_readable s.plan kept in
      let t : List ℕ = counts_part s in
      rw (image_flows s size)
      (rows_back flow_row flow_in 32 (omega arith) 32 1024 s.plan.flows t r (flows_few s.plan far) (omega arith))

  sessions_back : rows_in 16 32 session_in (drop 1536 (image s)) ≡ s.sessions
  sessions_back =
      let r : _ = sessions_readable s v in
      rw (image_sessions s size)
      (rows_back session_row session_in 32 (omega arith) 16 512 s.sessions (behind_sessions s) r parts.sessions_few
      (omega arith))

  pub state_image : state_of (image s) ≡ s
  unfolding state_of
  state_image = rw (ports_back, flows_back, clock_back, allowed_back, sessions_back)

  pub image_ok : ok_image (image s) ≡ true
  unfolding ok_image
  image_ok = rw (state_image, v, same_self)

-- One state has one image: octets that pass and are read as the same state are the same octets.
pub one_image : (k l : List ℕ) → ok_image k ≡ true → ok_image l ≡ true → state_of k ≡ state_of l → k ≡ l
one_image k l h i e = sym (image_state k h) ∙ ap image e ∙ image_state l i

-- One image has one state: valid states with the same image are the same state.
pub one_state : (s t : State) → valid s ≡ true → valid t ≡ true → image s ≡ image t → s ≡ t
one_state s t v w e = sym (state_image s v) ∙ ap state_of e ∙ state_image t w
