-- A session that opens, restarts or goes leaves a valid state.
use mathlib.Core.Path.{◌≡◌}
use mathlib.Core.Bool.{Bool, true}
use mathlib.Core.List.{List}
use Prim.Native.Nat.{ℕ, ◌<◌, ◌≤◌}
use native.Mathlib.Omega.{arith}
use lib.Dec.{eqb}
use lib.ListN.{length}
use Rattle.octets.specs.Lists.{some, put, without}
use Rattle.octets.proofs.Ordered.{without_ascends, without_every, without_length}
use Rattle.octets.proofs.PutLaws.{put_every, put_ascends, put_length, put_again}
use Rattle.machine.specs.declared.Session.{Session}
use Rattle.machine.specs.declared.Change.{Change}
use Rattle.machine.specs.declared.Change.TheVariants.{Same, Opened, Restarted, Closed}
use Rattle.machine.specs.Machine.{key_of}
use Rattle.state.specs.State.{State, with_sessions, good_session, valid}
use Rattle.state.proofs.Rules.{Valid, valid_parts}
use Rattle.state.proofs.Fits.{good_session_lem}
use Rattle.calls.specs.Frame.{changed}
use Rattle.calls.proofs.Standing.{with_valid}

-- is a session of this session's key there?
abbrev pub there : Session → List Session → Bool
there x xs = some (λ y. eqb (key_of y) (key_of x)) xs

-- a change that leaves a valid state: a session opens where there is room, or one that is there restarts
abbrev pub GoodChange : State → Change → Type 0
GoodChange s Same = Unit {0}
GoodChange s (Opened x) = (good_session s x ≡ true) × (length s.sessions < 16)
GoodChange s (Restarted x) = (good_session s x ≡ true) × (there x s.sessions ≡ true)
GoodChange s Closed = Unit {0}

module _ (s : State) (h : valid s ≡ true) where
  v : Valid s
  v = valid_parts s h

  put_valid : (x : Session) → good_session s x ≡ true → length (put key_of x s.sessions) ≤ 16
      → valid (with_sessions (put key_of x s.sessions) s) ≡ true
  put_valid x good few =
      with_valid s (put key_of x s.sessions) h few
      (put_ascends key_of x 0 s.sessions (good_session_lem s x v.plan_kept good).key_some v.sessions_ascend)
      (put_every key_of x (good_session s) s.sessions good v.sessions_good)

  pub without_valid : (k : ℕ) → valid (with_sessions (without key_of k s.sessions) s) ≡ true
  without_valid k =
      with_valid s (without key_of k s.sessions) h (omega (arith, v.sessions_few, without_length key_of k s.sessions))
      (without_ascends key_of 0 k s.sessions v.sessions_ascend)
      (without_every key_of (good_session s) k s.sessions v.sessions_good)

  pub changed_valid : (k : ℕ) (c : Change) → GoodChange s c → valid (changed k c s) ≡ true
  unfolding changed
  changed_valid k Same g = h
  changed_valid k (Opened x) g = put_valid x g.0 (omega (arith, g.1, put_length key_of x s.sessions))
  changed_valid k (Restarted x) g =
      put_valid x g.0 (omega (arith, v.sessions_few, put_again key_of 0 x s.sessions v.sessions_ascend g.1))
  changed_valid k Closed g = without_valid k
