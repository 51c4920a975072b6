-- What each rewriting makes of a state's image: the image of a state.
use mathlib.Core.Path.{◌≡◌, refl, ap, ◌∙◌}
use mathlib.Core.Bool.{Bool, true}
use mathlib.Core.List.{List, [], ◌++◌, map, append_assoc}
use Prim.Native.Nat.{ℕ, ◌+◌, ◌-◌, ◌<◌, ◌≤◌}
use native.Mathlib.Omega.{arith}
use lib.ListN.{length, set, length-map}
use lib.Seq.{set-append_left}
use Rattle.octets.specs.Octets.{low_octets, splice}
use Rattle.octets.specs.Lists.{put, without}
use Rattle.machine.specs.declared.Session.{Session}
use Rattle.machine.specs.Machine.{key_of}
use Rattle.state.specs.State.{State, with_clock, with_allowed, with_sessions, valid, good_session}
use Rattle.state.specs.Image.{session_row, table, bit, head, image}
use Rattle.state.specs.Image.{unit_flag, shared_address, ports_open, behind_places, port_counters, flows_open, behind_sessions}
use Rattle.state.proofs.Runs.{set_past, set_map}
use Rattle.state.proofs.RowLaws.{SessionFits}
use Rattle.state.proofs.TableLaws.{each}
use Rattle.state.proofs.Rules.{Valid, valid_parts}
use Rattle.state.proofs.Fits.{good_fits}
use Rattle.state.proofs.ImageParts.{front_part, front_length, places_part, image_parts, image_front}
use Rattle.state.proofs.ImageLaws.{head_length}
use Rattle.state_store.specs.StoredRows.{sessions_mapped, sessions_cleared, session_put, session_removed}
use Rattle.state_store.proofs.Tables.{Tabled, table_then, mapped_table, cleared_table}
use Rattle.state_store.proofs.PutTable.{put_table}
use Rattle.state_store.proofs.RemoveTable.{removed_table}

-- ---- a state whose image has its head and its table where they belong

pub record Laid (s : State) : Type 0 where
  pub head_long : length (head s) ≡ 1536
  pub tabled : Tabled s.sessions

pub laid : (s : State) → valid s ≡ true → Laid s
laid s v =
    let p : Valid s = valid_parts s v in
    record {
      head_long = head_length s v;
      tabled =
          record {
            few = p.sessions_few;
            order = p.sessions_ascend;
            fit = each SessionFits (good_session s) (λ x. good_fits s x p.plan_kept) s.sessions p.sessions_good;
          };
    }

-- neither the head nor what stands behind the sessions depends on them
module _ (s : State) (xs : List Session) where
  head_with : head (with_sessions xs s) ≡ head s
  unfolding head with_sessions unit_flag shared_address ports_open behind_places port_counters flows_open
  head_with = refl

  image_with : image (with_sessions xs s) ≡ head s ++ table_then (behind_sessions s) 512 xs
  unfolding image with_sessions behind_sessions
  image_with = rw head_with (append_assoc (head s) (table 512 session_row xs) (behind_sessions s))

module _ (s : State) (l : Laid s) where
  abbrev behind : List ℕ
  behind = behind_sessions s

  parted : image s ≡ head s ++ table_then behind 512 s.sessions
  unfolding image
  parted = append_assoc (head s) (table 512 session_row s.sessions) behind

  pub put_image : (x : Session) → length (put key_of x s.sessions) ≤ 16
      → session_put x (image s) ≡ image (with_sessions (put key_of x s.sessions) s)
  put_image x room =
      rw (parted, image_with s (put key_of x s.sessions))
      (put_table (head s) behind x s.sessions l.head_long l.tabled room)

  pub removed_image : (k : ℕ) → session_removed k (image s) ≡ image (with_sessions (without key_of k s.sessions) s)
  removed_image k =
      rw (parted, image_with s (without key_of k s.sessions))
      (removed_table (head s) behind k s.sessions l.head_long l.tabled)

  pub mapped_image : (f : Session → Session) → sessions_mapped f (image s) ≡ image (with_sessions (map f s.sessions) s)
  mapped_image f =
      rw (parted, image_with s (map f s.sessions)) (mapped_table (head s) behind s.sessions l.head_long l.tabled f)

  pub cleared_image : sessions_cleared (image s) ≡ image (with_sessions [] s)
  cleared_image = rw (parted, image_with s []) (cleared_table (head s) behind s.sessions l.head_long l.tabled)

-- ---- the head

pub clock_image : (s : State) (clock : ℕ) → splice 0 (low_octets 4 clock) (image s) ≡ image (with_clock clock s)
unfolding low_octets unit_flag shared_address ports_open behind_places port_counters flows_open behind_sessions with_clock
clock_image s clock = rw (image_parts s, image_parts (with_clock clock s))

pub allowed_image : (s : State) (n : ℕ) (a : Bool) → length s.allowed ≡ 32 → 1 ≤ n → n ≤ 32
    → set (image s) (31 + n) (bit a) ≡ image (with_allowed (set s.allowed (n - 1) a) s)
unfolding unit_flag shared_address ports_open behind_places port_counters flows_open behind_sessions with_allowed
allowed_image s n a long low high =
    let now : List ℕ = map bit s.allowed in
    let front : List ℕ = front_part s s.clock in
    let e : 31 + n ≡ 32 + (n - 1) = omega arith in
    let fit : n - 1 < length now = rw length-map (omega arith) in
    rw (image_front s, e, image_front (with_allowed (set s.allowed (n - 1) a) s), ← set_map bit s.allowed (n - 1) a)
    (set_past front (now ++ places_part s) 32 (n - 1) (bit a) (front_length s s.clock)
    ∙ ap (λ (q : List ℕ). front ++ q) (set-append_left now (places_part s) (n - 1) (bit a) fit))
