-- Trees as their items and their heights.
use Rattle.std.specs.Prelude.{◌≡◌, ℕ, ◌+◌, ◌*◌, ◌^◌, ◌<◌, ◌≤◌, max, List, [], ◌∷◌, ◌++◌, length}
use Rattle.balanced_tree.specs.declared.trees.Shape.{Shape}
use Rattle.balanced_tree.specs.declared.trees.Shape.TheVariants.{Empty, Leaf, Fork}

-- neither number is greater than the other by more than that
abbrev pub DifferByAtMost : ℕ → ℕ → ℕ → Type 0
DifferByAtMost by l r = (l ≤ r + by) × (r ≤ l + by)

-- a tree of two items or more has two sides of which neither is empty or higher by more than one
pub record AreSides {E : Type 0} (t l r : List E × ℕ) : Type 0 where
  pub items : t.0 ≡ l.0 ++ r.0
  pub left : 0 < length l.0
  pub right : 0 < length r.0
  pub height : t.1 ≡ max l.1 r.1 + 1
  pub near : DifferByAtMost 1 l.1 r.1

-- the height is at most twice the binary logarithm of the number of items
abbrev pub IsTall : {E : Type 0} → List E × ℕ → Type 0
IsTall t = 0 < length t.0 → 2 ^ t.1 ≤ length t.0 * length t.0

-- the height to which two sides settle
pub record Settles (l r h : ℕ) : Type 0 where
  pub least : max l r ≤ h
  pub most : h ≤ max l r + 1
  pub near : DifferByAtMost 1 l r → h ≡ max l r + 1

-- how an edit of one of the two sides of a tree changes their heights
pub record Shift {E : Type 0} (l r new_l new_r : List E × ℕ) : Type 0 where
  pub some : 0 < length (new_l.0 ++ new_r.0)
  pub near : DifferByAtMost 2 new_l.1 new_r.1
  pub least : max l.1 r.1 ≤ max new_l.1 new_r.1 + 1
  pub most : max new_l.1 new_r.1 ≤ max l.1 r.1 + 1
  pub apart : max new_l.1 new_r.1 < max l.1 r.1 → DifferByAtMost 1 new_l.1 new_r.1
  pub no_left : length new_l.0 ≡ 0 → max l.1 r.1 ≤ new_r.1
  pub no_right : length new_r.0 ≡ 0 → max l.1 r.1 ≤ new_l.1

-- what a tree is made of: nothing, one item, or two sides
abbrev pub HasShape : {E M : Type 0} → List E × ℕ → Shape E M → Type 0
HasShape t Empty = t ≡ ([], 0)
HasShape t (Leaf item) = t ≡ (item.now ∷ [], 0)
HasShape t (Fork l r) = AreSides t l.now r.now
