-- Unknown TLVs, and lists that unknown TLVs were added to.
use mathlib.Core.Path.{◌≡◌, refl}
use mathlib.Core.Bool.{Bool, true, false, cond, not, ◌&&◌, ◌||◌, false≢true}
use mathlib.Core.List.{List, ◌∷◌}
use lib.Dec.{eqb}
use lib.ListN.{length}
use Rattle.octets.specs.Lists.{some}
use Rattle.codec_tlvs.specs.Tlv.{Tlv, subtype, is_timer, bad_tlv, timers, is_unknown, unknowns}
use Rattle.codec_tlvs.specs.Additions.{Added, ended, kept, new}

-- an unknown TLV is no timer, and not bad
unknown_only : (t : Tlv) → is_unknown t ≡ true → (is_timer t ≡ false) × (bad_tlv t ≡ false)
unfolding bad_tlv is_unknown is_timer
unknown_only t =
    go (eqb t.kind 37) (eqb t.kind 0) (eqb (length t.value) 0) (eqb (subtype t) 1) (eqb (length t.value) 5)
  where
    go : (k e z s f : Bool) → cond k (not z && not s) (not e) ≡ true
        → ((k && s) ≡ false) × (((k && z) || ((k && s) && not f)) ≡ false)
    go false e z s f h = (refl, refl)
    go true e true s f h = absurd (false≢true h)
    go true e false true f h = absurd (false≢true h)
    go true e false false f h = (refl, refl)

-- ---- added

pub added_timers : {ts us : List Tlv} → Added ts us → timers us ≡ timers ts
unfolding timers
added_timers ended = refl
added_timers (kept {t} a) = rw (added_timers a)
added_timers (new {t} e a) = rw (unknown_only t e).0 (added_timers a)

pub added_bad : {ts us : List Tlv} → Added ts us → some bad_tlv us ≡ some bad_tlv ts
unfolding some
added_bad ended = refl
added_bad (kept {t} a) = rw (added_bad a)
added_bad (new {t} e a) = rw (unknown_only t e).1 (added_bad a)

-- The unknown ones stand in their order, those of before and those that were added.
pub added_unknowns : {ts us : List Tlv} → Added ts us → Added (unknowns ts) (unknowns us)
unfolding unknowns
added_unknowns ended = ended
added_unknowns (kept {t} {ts} {us} a) = go (added_unknowns a) (is_unknown t)
  where
    go : Added (unknowns ts) (unknowns us) → (b : Bool)
        → Added (cond b (t ∷ unknowns ts) (unknowns ts)) (cond b (t ∷ unknowns us) (unknowns us))
    go more true = kept more
    go more false = more
added_unknowns (new {t} e a) = rw e (new e (added_unknowns a))
