-- Paths of places in a JSON value.
use Rattle.std.specs.Prelude.{ℕ, List, ◌++◌, codes, decimal}

-- a member of a list
abbrev pub index : ℕ → List ℕ
index at = codes "[" ++ (decimal at ++ codes "]")

-- a member of the list at a path, and what stands behind it
abbrev pub member_path : List ℕ → ℕ → List ℕ → List ℕ
member_path list at rest = list ++ index at ++ rest
