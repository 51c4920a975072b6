-- The loop that sums a list up: a turn, and its ends.
use mathlib.Core.Path.{◌≡◌, refl, ap, sym, ◌∙◌}
use mathlib.Core.Bool.{Bool, true, false, cond}
use mathlib.Core.List.{List}
use Prim.Native.Nat.{ℕ, ◌+◌, ◌≤◌}
use native.Mathlib.Omega.{arith}
use lib.Dec.{eqb}
use lib.ListN.{length, take, drop, length-take}
use Rattle.codec_tlvs.specs.Tlv.{Tlv, Parsed, ended, cut, followed, parse, is_unknown}
use Rattle.codec_tlvs.specs.Walk.{bad, step_at, timer_of, tlv_of, with_unknown, by_timer, count}
use Rattle.codec_tlvs.specs.declared.Tlv.{Tlv as Found}
use Rattle.codec_tlvs.specs.declared.BadList.{BadList}
use Rattle.codec_tlvs.specs.declared.Summary.{Summary}
use Rattle.std.specs.Prelude.{is_some, Some, None, Result, Ok, Err}
use Rattle.codec_tlvs.proofs.Walk.{parse_at, stood}
use Rattle.codec_tlvs.proofs.Sum.{Summed, count_on, count_all, sum_up, bad_all}

sum_followed : (s : Summed) (t : Tlv) (p : Parsed) → sum_up s (followed t p) ≡ sum_up (count_on s t.kind t.value) p
unfolding followed
sum_followed s t p = refl

all_bad : (p : Parsed) → sum_up (Err bad) p ≡ Err bad
all_bad p = go p.bad
  where
    go : (b : Bool) → cond b (Err bad) (count_all (Err bad) p.tlvs) ≡ Err bad
    go true = refl
    go false = bad_all p.tlvs

module _ (l : List ℕ) (at : ℕ) (s : Summary) where
  pub turn : {t : Found} {r : Summed} → Ok (Some t) ≡ step_at l at → r ≡ count s t.kind (take t.len (drop t.start l))
      → sum_up r (parse (drop t.next l)) ≡ sum_up (Ok s) (parse (drop at l))
  turn {t} e er = rw (parse_at l at, ← e, sum_followed (Ok s) (tlv_of t.kind (take t.len (drop t.start l))), er)

  -- a TLV that makes the list bad
  pub spoils : {t : Found} → Ok (Some t) ≡ step_at l at → Err bad ≡ count s t.kind (take t.len (drop t.start l))
      → Err bad ≡ sum_up (Ok s) (parse (drop at l))
  spoils {t} e er = sym (all_bad (parse (drop t.next l))) ∙ turn e er

  pub ends : Ok None ≡ step_at l at → Ok s ≡ sum_up (Ok s) (parse (drop at l))
  unfolding ended
  ends e = rw (parse_at l at, ← e)

  pub breaks : Err bad ≡ step_at l at → Err bad ≡ sum_up (Ok s) (parse (drop at l))
  unfolding cut
  breaks e = rw (parse_at l at, ← e)

-- the octets of unknown TLVs, none if the list is bad
abbrev pub unknown_of : Summed → ℕ
unknown_of (Ok s) = s.unknown
unknown_of (Err e) = 0

-- one TLV adds at most its own octets
pub count_unknown : (s : Summary) (kind : ℕ) (v : List ℕ) → unknown_of (count s kind v) ≤ s.unknown + 3 + length v
unfolding count
count_unknown s kind v = go (is_unknown (tlv_of kind v)) (eqb kind 37) (timer_of v)
  where
    timer : (n : ℕ) (b : Bool)
        → unknown_of (cond b (Err bad) (Ok (record { seconds = Some n; unknown = s.unknown }))) ≤ s.unknown + 3 + length v
    timer n true = omega arith
    timer n false = omega arith

    go : (w b : Bool) (t : Result ℕ BadList)
        → unknown_of (cond w (Ok (with_unknown s (length v))) (cond b (by_timer s t) (Ok s))) ≤ s.unknown + 3 + length v
    go true b t = omega arith
    go false false t = omega arith
    go false true (Err e) = omega arith
    go false true (Ok n) = timer n (is_some s.seconds)

-- the same of a TLV of the PDU: not more than the places before the next one
pub grown : (s : Summary) {r : Summary} (l : List ℕ) (at : ℕ) {t : Found} → Ok (Some t) ≡ step_at l at
    → Ok r ≡ count s t.kind (take t.len (drop t.start l)) → s.unknown ≤ at → r.unknown ≤ t.next
grown s {r} l at {t} e er h =
    let v : List ℕ = take t.len (drop t.start l) in
    omega (arith, stood l at e, ap unknown_of er, count_unknown s t.kind v, length-take t.len (drop t.start l))
