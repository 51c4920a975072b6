-- Later protocol versions (LATER): a frame with a request, rewritten as a later version of the protocol would send it.
use Rattle.std.specs.Prelude.{◌≡◌, List, ◌++◌, ℕ, ◌≤◌, length}
use Rattle.codec.specs.Later.{Parts, pdu_in, Laid, LaterParts}

-- LATER-3, LATER-4, LATER-5, LATER-6: g is f rewritten: the same octets ahead of the PDU (addresses, tag, type), the PDU rewritten by its
-- parts, and at most 2,000 octets (LATER-7).
pub record Later (f g : List ℕ) : Type 0 where
  pub head : List ℕ
  pub old : Parts
  pub new : Parts
  pub old_laid : Laid old
  pub new_laid : Laid new
  pub old_is : f ≡ head ++ pdu_in old
  pub new_is : g ≡ head ++ pdu_in new
  pub rewritten : LaterParts old new
  pub fits : length g ≤ 2000
