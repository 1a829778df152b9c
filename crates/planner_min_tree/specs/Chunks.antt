-- A list of points in chunks, one after the other.
use Rattle.std.specs.Prelude.{ℕ, suc, ◌<◌, nat_lt, if◌then◌else◌, List, [], ◌∷◌, ◌++◌, length}
use Rattle.planner_min_tree.specs.declared.points.Point.{Point}
use Rattle.planner_min_tree.specs.Points.{latest_of}

-- the items of lists, one list after the other
abbrev pub flat : {X : Type 0} → List (List X) → List X
flat [] = []
flat (xs ∷ lists) = xs ++ flat lists

-- a fact of each
abbrev pub Each : {X : Type 0} → (X → Type 0) → List X → Type 0
Each P [] = Unit {0}
Each P (x ∷ xs) = P x × Each P xs

-- no list is empty
abbrev pub AreFilled : {X : Type 0} → List (List X) → Type 0
AreFilled lists = Each (λ xs. 0 < length xs) lists

-- which chunk has the place of a time: the first that ends at it or later, and the last one where all end before it
abbrev pub chunk_at : ℕ → List (List Point) → ℕ
chunk_at t [] = 0
chunk_at t (ps ∷ []) = 0
chunk_at t (ps ∷ qs ∷ chunks) = if nat_lt (latest_of ps) t then suc (chunk_at t (qs ∷ chunks)) else 0
