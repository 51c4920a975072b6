-- A session of a valid state is what its machine tells: with the key, all that the session holds.
use mathlib.Core.Path.{◌≡◌, refl, sym}
use mathlib.Core.Bool.{Bool, true, false, not, ◌&&◌, ◌||◌}
use mathlib.Core.List.{List, [], ◌∷◌, append-nil}
use Prim.Native.Nat.{ℕ, ◌/◌, ◌%◌, ◌^◌}
use lib.Dec.{eqb, ltb}
use lib.ListN.{length}
use borrow.Author.Tests.{eqb-true}
use Rattle.octets.specs.Octets.{number}
use Rattle.octets.specs.Lists.{every, first}
use Rattle.octets.proofs.Same.{both_true}
use Rattle.octets.proofs.Cases.{by_eq}
use Rattle.octets.proofs.Laws.{octets_length}
use Rattle.octets.proofs.Round.{number_octets}
use Rattle.codec.specs.FrameSet.{group, set_of, tag_fits}
use Rattle.machine.specs.declared.Session.{Session}
use Rattle.machine.specs.Machine.{is_open, key_of}
use Rattle.plan.specs.declared.Flow.{Flow}
use Rattle.plan.specs.Plan.{flow_numbered, in_plan, mp_at, faces}
use Rattle.state.specs.State.{State, is_allowed, good_time, good_session, valid, no_session}
use Rattle.state.proofs.Fits.{tag_fits_lem}
use Rattle.calls.proofs.Standing.{good_parts}
use Rattle.demands.specs.Machine.{Machine, Owed, nothing, notice, prohibited, inactive, active}
use Rattle.demands.specs.Shown.{resting, tag_in, machine_by, machine_in}
use Rattle.demands.proofs.Keys.{key_flow, key_source, session_source}

-- ---- the session of a key that a machine tells

told : (k level side left code : ℕ) (tag : List ℕ) → Session
told k level side left code tag =
    record {
      flow = k / 2 ^ 48;
      source = k % 2 ^ 48;
      level = level;
      side = side;
      taglen = length tag;
      tag = number (length tag) tag;
      left = left;
      notice = code;
    }

owing : ℕ → Owed → Session
owing k nothing = no_session
owing k (notice code level side tag) = told k level side 0 code tag

pub session_by : ℕ → Machine → Session
session_by k (prohibited owed) = owing k owed
session_by k (inactive owed) = owing k owed
session_by k (active level side left tag) = told k level side left 0 tag

-- ---- it is the session

rests : (k : ℕ) (a : Bool) (owed : Owed) → session_by k (resting a owed) ≡ owing k owed
unfolding session_by resting
rests k true owed = refl
rests k false owed = refl

module _ (s : State) (ok : valid s ≡ true) (x : Session) (good : good_session s x ≡ true) where
  tag_told : number (length (tag_in x)) (tag_in x) ≡ x.tag
  unfolding tag_in
  tag_told =
      let f : Flow = flow_numbered x.flow s.plan in
      let d : Bool = tag_fits (set_of f.kind f.vid) x.taglen x.tag in
      let ahead : Bool = in_plan f.number && ltb x.source (2 ^ 48) && not (group x.source) in
      let t : _ = both_true (ahead && d) (faces (mp_at x.level f) x.side) (good_parts s x good).0 in
      let fits : d ≡ true = (both_true ahead d t.0).1 in
      rw octets_length
      (rw append-nil at (number_octets x.taglen x.tag [] (tag_fits_lem (set_of f.kind f.vid) x.taglen x.tag fits).1.1))

  told_again : (left code : ℕ) → left ≡ x.left → code ≡ x.notice → told (key_of x) x.level x.side left code (tag_in x) ≡ x
  unfolding told key_of
  told_again left code p q =
      let small : _ = session_source s ok x good in
      rw (key_flow x.flow x.source small, key_source x.flow x.source small, tag_told, p, q) (unfold tag_in in rw octets_length)

  pub session_told : (a : Bool) → session_by (key_of x) (machine_by a x) ≡ x
  unfolding session_by machine_by is_open good_time owing
  session_told a =
      by_eq x.notice 0
      (λ e none. rw e (told_again x.left 0 refl (rw none)))
      (λ e due.
      let may : Bool = is_allowed x.flow s in
      let coded : Bool = (eqb x.notice 8 && may) || (eqb x.notice 9 && not may) in
      let time : (eqb x.left 0 && coded) ≡ true = rw e at (good_parts s x good).1 in
      rw (e, rests) (told_again 0 x.notice (sym (eqb-true x.left 0 (both_true (eqb x.left 0) coded time).0)) refl))

-- so the machine of any key tells what is found by it
pub found_told : (s : State) → valid s ≡ true → (a : Bool) (k : ℕ) (xs : List Session) → every (good_session s) xs ≡ true
    → session_by k (machine_in a k xs) ≡ first (λ x. eqb (key_of x) k) no_session xs
unfolding machine_in first every owing
found_told s ok a k [] h = rests k a nothing
found_told s ok a k (x ∷ xs) h =
    let b : _ = both_true (good_session s x) (every (good_session s) xs) h in
    by_eq (key_of x) k
    (λ e same. rw (e, ← same) (session_told s ok x b.0 a))
    (λ e other. rw e (found_told s ok a k xs b.1))
