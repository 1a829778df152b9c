-- What a tree holds, and what is true of each level.
use Rattle.std.specs.Prelude.{◌≡◌, ℕ, ◌+◌, max, List, [], ◌∷◌, ◌++◌, length}
use Rattle.balanced_tree.specs.declared.trees.Tree.TheInside.{Inside}
use Rattle.balanced_tree.specs.declared.trees.Body.{Body}
use Rattle.balanced_tree.specs.declared.trees.Body.TheVariants.{Empty, Leaf, Fork}
use Rattle.balanced_tree.specs.declared.trees.Outline.{Outline}
use Rattle.balanced_tree.specs.Sides.{AreSides, IsTall}

-- the items of a tree's sides, one side after the other
abbrev pub items_of : {E M : Type 0} → Body E M → List E
items_of Empty = []
items_of (Leaf item) = item ∷ []
items_of (Fork sides) = sides.left.0 ++ sides.right.0

-- a tree without sides has no height, and one with sides is one higher than its higher side
abbrev pub IsLevel : {E M : Type 0} → ℕ → Body E M → Type 0
IsLevel h Empty = h ≡ 0
IsLevel h (Leaf item) = h ≡ 0
IsLevel h (Fork sides) = AreSides (sides.left.0 ++ sides.right.0, h) sides.left sides.right

-- each number that a tree keeps is that of its items
pub record IsTree {E M : Type 0} (of_items : List E → M) (t : Inside E M) : Type 0 where
  pub level : IsLevel t.height t.body
  pub len : t.len ≡ length (items_of t.body)
  pub sum : t.sum ≡ of_items (items_of t.body)
  pub tall : IsTall (items_of t.body, t.height)

-- the numbers of two sides together
pub record Outlines {E M : Type 0} (of_items : List E → M) (l r : List E × ℕ) (o : Outline M) : Type 0 where
  pub height : o.height ≡ max l.1 r.1 + 1
  pub len : o.len ≡ length (l.0 ++ r.0)
  pub sum : o.sum ≡ of_items (l.0 ++ r.0)
  pub tall : IsTall (l.0 ++ r.0, o.height)
