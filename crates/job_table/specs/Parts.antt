-- What a part of a table holds, and what is true of each node.
use Rattle.std.specs.Prelude.{◌≡◌, ◌≢◌, ℕ, suc, ◌+◌, ◌*◌, ◌^◌, ◌<◌, ◌≤◌, List, [], ◌∷◌, ◌++◌, length, map, Some}
use Rattle.std.specs.Ordering.{nat_cmp}
use Rattle.std.specs.FinMap.{find}
use Rattle.node_store.specs.Parts.{parts_of}
use Rattle.job_table.specs.declared.tables.Row.{Row}
use Rattle.job_table.specs.declared.parts.Body.{Body}
use Rattle.job_table.specs.declared.parts.Body.TheVariants.{Empty, Entry, Fork}
use Rattle.job_table.specs.declared.parts.Branch.{Branch}

-- the parts of a node, each as its keys with their rows and its height
abbrev pub parts_in : Branch → List (List (ℕ × Row) × ℕ)
parts_in branch = parts_of branch.parts

-- the key before its last digit was taken off
abbrev pub with_digit : ℕ → ℕ × Row → ℕ × Row
with_digit digit entry = (16 * entry.0 + digit, entry.1)

-- the entries of parts, of which the first has the keys that end in this digit, the next one those that end in the next
abbrev pub entries_from : ℕ → List (List (ℕ × Row) × ℕ) → List (ℕ × Row)
entries_from digit [] = []
entries_from digit (part ∷ parts) = map (with_digit digit) part.0 ++ entries_from (suc digit) parts

abbrev pub entries_of : Body → List (ℕ × Row)
entries_of Empty = []
entries_of (Entry key row) = (key, row) ∷ []
entries_of (Fork branch) = entries_from 0 (parts_in branch)

abbrev pub height_of : Body → ℕ
height_of Empty = 0
height_of (Entry key row) = 0
height_of (Fork branch) = branch.below + 1

-- no key has more digits
abbrev pub AreBelow : ℕ → List (ℕ × Row) → Type 0
AreBelow most [] = Unit {0}
AreBelow most (entry ∷ entries) = (entry.0 < most) × AreBelow most entries

-- a part of which the keys have at most so many digits
pub record IsPart (digits : ℕ) (part : List (ℕ × Row) × ℕ) : Type 0 where
  pub keys : AreBelow (16 ^ digits) part.0
  pub high : part.1 ≤ digits
  pub forked : 0 < part.1 → part.1 ≡ digits

abbrev pub AreParts : ℕ → List (List (ℕ × Row) × ℕ) → Type 0
AreParts digits [] = Unit {0}
AreParts digits (part ∷ parts) = IsPart digits part × AreParts digits parts

-- sixteen parts, of which the keys have at most so many digits as are left
pub record IsBranch (branch : Branch) : Type 0 where
  pub sixteen : length (parts_in branch) ≡ 16
  pub parts : AreParts branch.below (parts_in branch)

abbrev pub IsLevel : Body → Type 0
IsLevel Empty = Unit {0}
IsLevel (Entry key row) = Unit {0}
IsLevel (Fork branch) = IsBranch branch

-- the new entries have this row at the key, and at each other key what the old ones have
pub record Sets (old new : List (ℕ × Row)) (key : ℕ) (row : Row) : Type 0 where
  pub here : find nat_cmp key new ≡ Some row
  pub others : (other : ℕ) → other ≢ key → find nat_cmp other new ≡ find nat_cmp other old
