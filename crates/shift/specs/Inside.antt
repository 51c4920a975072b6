-- What was read and not yet served stands in the buffer.
use Rattle.std.specs.Prelude.{List, ℕ, ◌≤◌, length}

-- what was read and not yet served, from one place up to another, lies within the buffer
abbrev pub Inside : ℕ → ℕ → List ℕ → Type 0
Inside from upto buffer = (from ≤ upto) × (upto ≤ length buffer)
