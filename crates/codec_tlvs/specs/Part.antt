-- TLVs (TLV): a part of a slice, identified by where it lies as well as by what it holds.
use Rattle.std.specs.Prelude.{◌≡◌, List, ℕ, ◌+◌, take, drop}
use Rattle.std.specs.Borrow.{Bor}

-- TLV-13, FORM-4: v is the part of s that starts at `start` and has `len` octets: in the same block of memory, so many octets further on.
-- (A copy of those octets lies elsewhere, and is no part.)
pub record Part (s : Bor (List ℕ)) (start len : ℕ) (v : Bor (List ℕ)) : Type 0 where
  pub place : v.ref_ptr ≡ (s.ref_ptr.0, s.ref_ptr.1 + start)
  pub octets : v.now ≡ take len (drop start s.now)
