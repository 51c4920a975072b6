-- The summary of a list, gathered TLV by TLV, is what the definitions of `Tlv` say of the whole list.
use mathlib.Core.Path.{◌≡◌, refl, sym}
use mathlib.Core.Bool.{Bool, true, false, cond, ◌&&◌, ◌||◌, not, false≢true}
use mathlib.Core.List.{List, [], ◌∷◌, ◌++◌, append-nil}
use Prim.Native.Nat.{ℕ, ◌+◌}
use native.Mathlib.Nat.{add-zero, zero-add}
use native.Mathlib.Omega.{arith}
use lib.Dec.{leb, eqb}
use lib.ListN.{length, drop}
use lib.Seq.{append_snoc}
use borrow.Author.Tests.{le-leb, eqb-true, ne_eqb}
use Rattle.octets.specs.Octets.{number}
use Rattle.octets.specs.Lists.{some}
use Rattle.codec_tlvs.specs.Tlv.{Tlv, Parsed, subtype, is_timer, bad_tlv, timers, bad_list, is_unknown, unknowns, tlv_list}
use Rattle.codec_tlvs.specs.Walk.{bad, timer_of, summary_of, with_unknown, with_timer, by_timer, count}
use Rattle.codec_tlvs.specs.declared.BadList.{BadList}
use Rattle.codec_tlvs.specs.declared.Summary.{Summary}
use Rattle.std.specs.Prelude.{slice_get, None, Result, Ok, Err}
use Rattle.codec_tlvs.proofs.Short.{list_length}

-- what a list comes to
abbrev pub Summed : Type 0
Summed = Result Summary BadList

-- one TLV more; a bad list stays bad
abbrev pub count_on : Summed → ℕ → List ℕ → Summed
count_on (Ok s) kind value = count s kind value
count_on (Err e) kind value = Err e

-- a summary with a list's TLVs more, and that with a whole parse more
abbrev pub count_all : Summed → List Tlv → Summed
count_all s [] = s
count_all s (t ∷ ts) = count_all (count_on s t.kind t.value) ts

abbrev pub sum_up : Summed → Parsed → Summed
sum_up s p = cond p.bad (Err bad) (count_all s p.tlvs)

abbrev pub empty_summary : Summary
empty_summary = record { seconds = None; unknown = 0 }

-- one TLV more, in the words of `Tlv`
count_one : (s : Summary) (t : Tlv)
    → count s t.kind t.value
    ≡ cond (bad_tlv t) (Err bad)
    (cond (is_timer t) (with_timer s (number 4 (drop 1 t.value))) (cond (is_unknown t) (Ok (with_unknown s (length t.value))) (Ok s)))
unfolding count timer_of bad_tlv is_timer is_unknown
count_one s t =
    go (eqb t.kind 37) (eqb t.kind 0) (eqb len 0) (eqb (subtype t) 1) (eqb len 5) (λ e. ne_eqb len 5 (five e))
  where
    n : ℕ
    n = number 4 (drop 1 t.value)

    len : ℕ
    len = length t.value

    five : eqb len 0 ≡ true → len ≡ 5 → ⊥
    five z f = omega (arith, eqb-true len 0 z)

    go : (k e z d f : Bool) → (z ≡ true → f ≡ false)
        → cond (cond k (not z && not d) (not e)) (Ok (with_unknown s len)) (cond k (by_timer s (cond f (Ok n) (Err bad))) (Ok s))
        ≡ cond (k && z || k && d && not f) (Err bad)
        (cond (k && d) (with_timer s n) (cond (cond k (not z && not d) (not e)) (Ok (with_unknown s len)) (Ok s)))
    go false e z d f short = refl
    go true e true d f short = rw (short refl)
    go true e false false f short = refl
    go true e false true false short = refl
    go true e false true true short = refl

-- the summary of what was met: these timers, and so many octets of unknown TLVs
so_far_lem : List ℕ → ℕ → Summed
so_far_lem l u = cond (leb 2 (length l)) (Err bad) (Ok (record { seconds = slice_get l 0; unknown = u }))

many : (x y : ℕ) (l : List ℕ) (u : ℕ) → so_far_lem (x ∷ y ∷ l) u ≡ Err bad
unfolding so_far_lem
many x y l u = rw (le-leb 2 (length (x ∷ y ∷ l)) (omega arith))

cond_same : (b : Bool) (s : Summed) → cond b s s ≡ s
cond_same true s = refl
cond_same false s = refl

pub bad_all : (ts : List Tlv) → count_all (Err bad) ts ≡ Err bad
bad_all [] = refl
bad_all (t ∷ ts) = bad_all ts

one_more : (l : List ℕ) (u : ℕ) (t : Tlv) → count_on (so_far_lem l u) t.kind t.value
    ≡ cond (bad_tlv t) (Err bad)
    (cond (is_timer t) (so_far_lem (l ++ (number 4 (drop 1 t.value) ∷ [])) u)
    (cond (is_unknown t) (so_far_lem l (u + 3 + length t.value)) (so_far_lem l u)))
unfolding so_far_lem
one_more [] u t = count_one (record { seconds = None; unknown = u }) t
one_more (x ∷ []) u t = count_one (record { seconds = slice_get (x ∷ []) 0; unknown = u }) t
one_more (x ∷ y ∷ l) u t =
    rw (many x y l u, many x y (l ++ (number 4 (drop 1 t.value) ∷ [])) u, many x y l (u + 3 + length t.value))
    (sym (rw (cond_same (is_unknown t) (Err bad), cond_same (is_timer t) (Err bad)) (cond_same (bad_tlv t) (Err bad))))

timer_known : (t : Tlv) → is_timer t ≡ true → is_unknown t ≡ false
unfolding is_timer is_unknown
timer_known t = go (eqb t.kind 37) (eqb (length t.value) 0) (eqb (subtype t) 1)
  where
    go : (k z s : Bool) → (k && s) ≡ true → cond k (not z && not s) (not (eqb t.kind 0)) ≡ false
    go false z s h = absurd (false≢true h)
    go true true s h = refl
    go true false s h = rw h

-- a list's TLVs more, whatever was met before
abbrev AllMore : List Tlv → Type 0
AllMore ts =
    (l : List ℕ) (u : ℕ)
    → count_all (so_far_lem l u) ts ≡ cond (some bad_tlv ts) (Err bad) (so_far_lem (l ++ timers ts) (u + length (tlv_list (unknowns ts))))

all_more : (ts : List Tlv) → AllMore ts
unfolding some timers unknowns tlv_list
all_more [] l u = rw (append-nil, add-zero)
all_more (t ∷ ts) l u = rw (one_more l u t) (go (all_more ts) (bad_tlv t) (is_timer t) (is_unknown t) (timer_known t))
  where
    n : ℕ
    n = number 4 (drop 1 t.value)

    long : u + length (tlv_list (t ∷ unknowns ts)) ≡ u + 3 + length t.value + length (tlv_list (unknowns ts))
    long = omega (arith, list_length t (unknowns ts))

    go : AllMore ts → (b i w : Bool) → (i ≡ true → w ≡ false)
        → count_all
        (cond b (Err bad) (cond i (so_far_lem (l ++ (n ∷ [])) u) (cond w (so_far_lem l (u + 3 + length t.value)) (so_far_lem l u)))) ts
        ≡ cond (b || some bad_tlv ts) (Err bad)
        (so_far_lem (l ++ cond i (n ∷ timers ts) (timers ts)) (u + length (tlv_list (cond w (t ∷ unknowns ts) (unknowns ts)))))
    go more true i w known = bad_all ts
    go more false true w known = rw (known refl, ← append_snoc l n (timers ts)) (more (l ++ (n ∷ [])) u)
    go more false false true known = rw long (more l (u + 3 + length t.value))
    go more false false false known = more l u

-- the whole list
pub sum_all : (p : Parsed) → sum_up (Ok empty_summary) p ≡ summary_of p
unfolding summary_of bad_list so_far_lem
sum_all p = rw (all_more p.tlvs [] 0, zero-add) (go p.bad (some bad_tlv p.tlvs))
  where
    go : (a b : Bool)
        → cond a (Err bad) (cond b (Err bad) (so_far_lem (timers p.tlvs) (length (tlv_list (unknowns p.tlvs)))))
        ≡ cond (a || b || leb 2 (length (timers p.tlvs))) (Err bad)
        (Ok (record { seconds = slice_get (timers p.tlvs) 0; unknown = length (tlv_list (unknowns p.tlvs)) }))
    go true b = refl
    go false true = refl
    go false false = refl
