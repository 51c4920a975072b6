-- What a tick and management keep of a session: all but the time left and the notice.
use mathlib.Core.Path.{◌≡◌, refl, sym}
use mathlib.Core.Bool.{Bool, true, false, cond, ◌&&◌}
use mathlib.Core.List.{List}
use Prim.Native.Nat.{ℕ, ◌-◌, ◌≤◌}
use native.Mathlib.Omega.{arith}
use lib.Dec.{eqb, leb}
use Rattle.octets.specs.Octets.{low_number}
use Rattle.machine.specs.declared.Session.{Session}
use Rattle.machine.specs.Table.{active, timer_expiration, action_of, nothing, expire, withdraw}
use Rattle.machine.specs.Machine.{key, key_of, is_open, lasting, owed}
use Rattle.machine.specs.Management.{closed_by, managed_by}
use Rattle.machine.specs.Time.{ticked}
use Rattle.state.specs.Image.{session_in}
use Rattle.state.proofs.RowLaws.{SessionFits, session_key_in}

-- y is x, with its time run down or closed
pub record Keeps (x y : Session) : Type 0 where
  pub flow_kept : y.flow ≡ x.flow
  pub source_kept : y.source ≡ x.source
  pub level_kept : y.level ≡ x.level
  pub side_kept : y.side ≡ x.side
  pub count_kept : y.taglen ≡ x.taglen
  pub tag_kept : y.tag ≡ x.tag
  pub left_less : y.left ≤ x.left

-- the session with this time left and this notice
abbrev changed : ℕ → ℕ → Session → Session
changed ms code x =
    record {
      flow = x.flow;
      source = x.source;
      level = x.level;
      side = x.side;
      taglen = x.taglen;
      tag = x.tag;
      left = ms;
      notice = code;
    }

keeps_changed : (ms code : ℕ) (x : Session) → ms ≤ x.left → Keeps x (changed ms code x)
keeps_changed ms code x h =
    record {
      flow_kept = refl;
      source_kept = refl;
      level_kept = refl;
      side_kept = refl;
      count_kept = refl;
      tag_kept = refl;
      left_less = h;
    }

keeps_same : (x : Session) → Keeps x x
keeps_same x = keeps_changed x.left x.notice x (omega arith)

keeps_owed : (code : ℕ) (x : Session) → Keeps x (owed code x)
unfolding owed
keeps_owed code x = keeps_changed 0 code x (omega arith)

keeps_lasting : (ms : ℕ) (x : Session) → ms ≤ x.left → Keeps x (lasting ms x)
unfolding lasting
keeps_lasting ms x h = keeps_changed ms x.notice x h

keeps_cond : (b : Bool) {x y z : Session} → Keeps x y → Keeps x z → Keeps x (cond b y z)
keeps_cond true p q = p
keeps_cond false p q = q

keeps_closed : (action : ℕ) (x : Session) → Keeps x (closed_by action x)
unfolding closed_by
keeps_closed action x =
    keeps_cond (eqb action nothing) (keeps_same x)
    (keeps_cond (eqb action expire) (keeps_owed 8 x)
    (keeps_cond (eqb action withdraw) (keeps_owed 9 x) (keeps_owed 255 x)))

pub keeps_ticked : (passed : ℕ) (x : Session) → Keeps x (ticked passed x)
unfolding ticked
keeps_ticked passed x =
    keeps_cond (is_open x)
    (keeps_cond (leb x.left passed)
    (keeps_closed (action_of active timer_expiration) x)
    (keeps_lasting (x.left - passed) x (omega arith)))
    (keeps_same x)

pub keeps_managed : (action flow : ℕ) (x : Session) → Keeps x (managed_by action flow x)
unfolding managed_by
keeps_managed action flow x =
    keeps_cond (is_open x && eqb x.flow flow) (keeps_closed action x) (keeps_same x)

module _ {x y : Session} (k : Keeps x y) where
  pub kept_key : key_of y ≡ key_of x
  unfolding key_of key
  kept_key = rw (k.flow_kept, k.source_kept)

  pub kept_fits : SessionFits x → SessionFits y
  kept_fits f =
      record {
        flow_fits = rw k.flow_kept f.flow_fits;
        source_fits = rw k.source_kept f.source_fits;
        left_fits = omega (arith, k.left_less, f.left_fits);
        tag_fits = rw k.tag_kept f.tag_fits;
      }

-- the row that x was read from has the key of what became of it
pub kept_in : (l : List ℕ) (x y : Session) → key_of y ≡ key_of x → x ≡ session_in l → low_number 8 l ≡ key_of y
kept_in l x y k ex = sym (rw (k, ex) (session_key_in l))
