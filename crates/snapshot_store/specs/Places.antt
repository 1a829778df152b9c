-- Which part of a page has an item or has room for the next one, and what a change of that part makes of the page.
use Rattle.std.specs.Prelude.{◌≡◌, ℕ, ◌+◌, ◌*◌, ◌^◌, ◌<◌, ◌≤◌, List, ◌++◌, length, slice_get, slice_set}
use Rattle.std.specs.Prelude.{Option, Some}
use Rattle.snapshot_store.specs.Parts.{parts_in, items_in, IsPart, ArePacked}
use Rattle.snapshot_store.specs.declared.parts.Page.{Page}

-- the part at `place` has at `rest` the item that the page has at `at`
pub record HasItem {E : Type 0} (page : Page E) (at : ℕ) (part : List E × ℕ) (place rest : ℕ) : Type 0 where
  pub inside : rest < length part.0
  pub high : part.1 ≡ page.below
  pub same : slice_get (items_in (parts_in page)) at ≡ slice_get part.0 rest
  pub items : (x : E) → items_in (slice_set (parts_in page) place (slice_set part.0 rest x, part.1)) ≡ slice_set
      (items_in (parts_in page)) at x
  pub packed : (x : E) → ArePacked page.below (slice_set (parts_in page) place (slice_set part.0 rest x, part.1))

-- the part at `place` has `rest` items, and the page's next items go there, as many as that part has room for
pub record HasRoom {E : Type 0} (page : Page E) (part : List E × ℕ) (place rest : ℕ) : Type 0 where
  pub len : rest ≡ length part.0
  pub room : rest < 2 ^ (4 * page.below)
  pub fits : IsPart page.below part
  pub items : (xs : List E) → items_in (slice_set (parts_in page) place (part.0 ++ xs, page.below)) ≡ items_in
      (parts_in page) ++ xs
  pub packed : (xs : List E) → rest + length xs ≤ 2 ^ (4 * page.below) →
      ArePacked page.below (slice_set (parts_in page) place (part.0 ++ xs, page.below))

-- an item is given
abbrev pub IsGiven : {E : Type 0} → Option E → Type 0
IsGiven {E = E} given = (item : E) × (given ≡ Some item)
