-- What a machine decides is a change that leaves a valid state.
use mathlib.Core.Path.{◌≡◌, refl}
use mathlib.Core.Bool.{Bool, true, false, cond, or-true}
use mathlib.Core.List.{List, [], ◌∷◌}
use Prim.Native.Nat.{ℕ, ◌*◌, ◌<◌, ◌≤◌}
use native.Mathlib.Omega.{arith}
use lib.Dec.{eqb}
use lib.ListN.{length}
use borrow.Author.Tests.{le-leb, eq-eqb}
use Rattle.octets.specs.Lists.{within, every, some}
use Rattle.octets.proofs.Same.{both_true}
use Rattle.octets.proofs.ListLaws.{within_low, within_high}
use Rattle.machine.specs.declared.Session.{Session}
use Rattle.machine.specs.declared.Machine.{Machine}
use Rattle.machine.specs.declared.Machine.TheVariants.{Inactive, Active}
use Rattle.machine.specs.declared.Change.TheVariants.{Opened, Restarted, Closed}
use Rattle.machine.specs.Table.{admit, report, restart, already, close}
use Rattle.machine.specs.Machine.{Decision, key_of, is_open, lasting, good_seconds, same_mp}
use Rattle.machine.specs.Machine.{answered, admitted, refreshed, restarted, closed, decided}
use Rattle.state.specs.State.{State, is_allowed, good_session, machine_of}
use Rattle.calls.proofs.Standing.{stands, good_parts, good_whole, open_time, time_open}
use Rattle.calls.proofs.ChangeValid.{there, GoodChange}

-- the session of an active machine is there, open and good
record Running (s : State) (xs : List Session) (x : Session) : Type 0 where
  here : there x xs ≡ true
  runs : is_open x ≡ true
  good : good_session s x ≡ true

module _ (s : State) where
  running : (k : ℕ) (x : Session) (xs : List Session) → every (good_session s) xs ≡ true → machine_of k xs ≡ Active x
      → Running s xs x
  unfolding machine_of every some
  running k x [] a e = let z : ◌≡◌ {A = ℕ} 0 1 = cc in absurd (omega arith)
  running k x (y ∷ xs) a e =
      let b : _ = both_true (good_session s y) (every (good_session s) xs) a in
      go (eqb (key_of y) k) (is_open y) refl b.0 (running k x xs b.1) e
    where
      go : (mine «open» : Bool) → is_open y ≡ «open» → good_session s y ≡ true → (machine_of k xs ≡ Active x → Running s xs x)
          → cond mine (cond «open» (Active y) Inactive) (machine_of k xs) ≡ Active x → Running s (y ∷ xs) x
      go true true o g r e =
          let same : y ≡ x = cc in
          rw (← same) (record { here = rw (eq-eqb (key_of y) (key_of y) refl); runs = o; good = g })
      go true false o g r e = let z : ◌≡◌ {A = ℕ} 0 1 = cc in absurd (omega arith)
      go false c o g r e =
          let q : Running s xs x = r e in
          record { here = rw q.here (or-true (eqb (key_of y) (key_of x))); runs = q.runs; good = q.good }

  -- with a good time, on an allowed flow
  lasting_good : (seconds : ℕ) (x : Session) → stands s.plan x ≡ true → is_allowed x.flow s ≡ true → is_open x ≡ true
      → good_seconds seconds ≡ true → good_session s (lasting (seconds * 1000) x) ≡ true
  unfolding lasting is_open good_seconds within
  lasting_good seconds x p a o g =
      let y : Session = lasting (seconds * 1000) x in
      let low : 1 ≤ seconds = within_low 1 86400 seconds g in
      let high : seconds ≤ 86400 = within_high 1 86400 seconds g in
      good_whole s y p
      (rw a (time_open y o (rw (le-leb 1 (seconds * 1000) (omega arith), le-leb (seconds * 1000) 86400000 (omega arith)))))

  -- The machine is one of the state's; the new session stands where it may open, if there is room.
  module _ (k : ℕ) (all : every (good_session s) s.sessions ≡ true) (room seconds : ℕ) (new : Session)
      (space : eqb room 0 ≡ true → length s.sessions < 16) (place : stands s.plan new ≡ true)
      (may : is_allowed new.flow s ≡ true) (fresh : is_open new ≡ true) where
    abbrev Good : Decision → Type 0
    Good d = GoodChange s d.change

    no_change : (code : ℕ) → Good (answered code)
    unfolding answered
    no_change code = tt

    admitted_good : Good (admitted room seconds new)
    unfolding admitted
    admitted_good = go (good_seconds seconds) (eqb room 0) refl refl
      where
        go : (g r : Bool) → good_seconds seconds ≡ g → eqb room 0 ≡ r
            → Good
            (cond g (cond r (record { code = 0; change = Opened (lasting (seconds * 1000) new) }) (answered room)) (answered 6))
        go true true g r = (lasting_good seconds new place may fresh g, space r)
        go true false g r = no_change room
        go false r g e = no_change 6

    restarted_good : (m : Machine) → machine_of k s.sessions ≡ m → Good (restarted seconds new m)
    unfolding restarted refreshed lasting key_of
    restarted_good Inactive e = no_change 7
    restarted_good (Active x) e = go (same_mp new x) (good_seconds seconds) refl
      where
        again : good_seconds seconds ≡ true → GoodChange s (Restarted (lasting (seconds * 1000) x))
        again g =
            let r : Running s s.sessions x = running k x s.sessions all e in
            let p : _ = good_parts s x r.good in
            let t : _ = open_time (is_allowed x.flow s) x r.runs p.1 in
            (lasting_good seconds x p.0 t.0 r.runs g, r.here)

        go : (a g : Bool) → good_seconds seconds ≡ g
            → Good
            (cond a (cond g (record { code = 4; change = Restarted (lasting (seconds * 1000) x) }) (answered 6)) (answered 7))
        go true true g = again g
        go true false g = no_change 6
        go false b g = no_change 7

    closed_good : (m : Machine) → Good (closed new m)
    unfolding closed
    closed_good Inactive = no_change 7
    closed_good (Active x) = go (same_mp new x)
      where
        go : (a : Bool) → Good (cond a (record { code = 0; change = Closed }) (answered 7))
        go true = tt
        go false = no_change 7

    pub decided_good : (action : ℕ) → Good (decided action room seconds new (machine_of k s.sessions))
    unfolding decided
    decided_good action =
        let m : Machine = machine_of k s.sessions in
        go m refl (eqb action admit) (eqb action restart) (eqb action already) (eqb action close) (eqb action report)
      where
        go : (m : Machine) → machine_of k s.sessions ≡ m → (a b c d r : Bool)
            → Good
            (cond a (admitted room seconds new)
            (cond b (restarted seconds new m)
            (cond c (answered 5) (cond d (closed new m) (cond r (answered 0) (answered 255))))))
        go m e true b c d r = admitted_good
        go m e false true c d r = restarted_good m e
        go m e false false true d r = no_change 5
        go m e false false false true r = closed_good m
        go m e false false false false true = no_change 0
        go m e false false false false false = no_change 255
