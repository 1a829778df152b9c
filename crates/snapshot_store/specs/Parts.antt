-- What a part of a list holds, and what is true of each page.
use Rattle.std.specs.Prelude.{◌≡◌, ℕ, ◌+◌, ◌*◌, ◌^◌, ◌<◌, ◌≤◌, List, [], ◌∷◌, ◌++◌, length}
use Rattle.node_store.specs.Parts.{parts_of}
use Rattle.snapshot_store.specs.declared.parts.Body.{Body}
use Rattle.snapshot_store.specs.declared.parts.Body.TheVariants.{Empty, Item, Fork}
use Rattle.snapshot_store.specs.declared.parts.Page.{Page}

-- the parts of a page, each as its items and its height
abbrev pub parts_in : {E : Type 0} → Page E → List (List E × ℕ)
parts_in page = parts_of page.parts

-- the items of parts, one part after the other
abbrev pub items_in : {E : Type 0} → List (List E × ℕ) → List E
items_in [] = []
items_in (part ∷ parts) = part.0 ++ items_in parts

abbrev pub items_of : {E : Type 0} → Body E → List E
items_of Empty = []
items_of (Item item) = item ∷ []
items_of (Fork page) = items_in (parts_in page)

abbrev pub height_of : {E : Type 0} → Body E → ℕ
height_of Empty = 0
height_of (Item item) = 0
height_of (Fork page) = page.below + 1

-- a part of that height, or an empty one
pub record IsPart {E : Type 0} (height : ℕ) (part : List E × ℕ) : Type 0 where
  pub within : length part.0 ≤ 2 ^ (4 * height)
  pub high : part.1 ≤ height
  pub tall : 0 < length part.0 → part.1 ≡ height
  pub forked : 0 < part.1 → part.1 ≡ height

-- a part of height 1 with as many items as it has room for
pub record IsFull {E : Type 0} (part : List E × ℕ) : Type 0 where
  pub fits : IsPart 1 part
  pub all : length part.0 ≡ 16

-- parts of that height, of which those before an item are full
abbrev pub ArePacked : {E : Type 0} → ℕ → List (List E × ℕ) → Type 0
ArePacked height [] = Unit {0}
ArePacked height (part ∷ parts) = IsPart height part × (length part.0 < 2 ^ (4 * height) → items_in parts ≡ [])
    × ArePacked height parts

-- sixteen parts of one height
pub record IsPage {E : Type 0} (page : Page E) : Type 0 where
  pub low : page.below < 16
  pub sixteen : length (parts_in page) ≡ 16
  pub packed : ArePacked page.below (parts_in page)

abbrev pub IsLevel : {E : Type 0} → Body E → Type 0
IsLevel Empty = Unit {0}
IsLevel (Item item) = Unit {0}
IsLevel (Fork page) = IsPage page
