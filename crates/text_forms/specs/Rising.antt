-- Where a number stands, or would stand, in a rising list.
use Rattle.std.specs.Prelude.{ℕ, ◌<◌, ◌≤◌, List, length, slice_index}

-- the numbers before the index are less than `from`, and those from it on are not
pub record IsIndexOf (list : List ℕ) (from index : ℕ) : Type 0 where
  pub within : index ≤ length list
  pub before : (i : ℕ) → i < index → slice_index list i < from
  pub after : (i : ℕ) → index ≤ i → i < length list → from ≤ slice_index list i
