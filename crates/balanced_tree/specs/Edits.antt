-- One item of a list replaced by none, one or two.
use Rattle.std.specs.Prelude.{ℕ, zero, suc, List, [], ◌∷◌, ◌++◌}
use Rattle.balanced_tree.specs.declared.edits.Edit.{Edit}
use Rattle.balanced_tree.specs.declared.edits.Edit.TheVariants.{Put, Pair, Cut}

-- what stands in the place of an item
abbrev pub made : {E : Type 0} → Edit E → List E
made (Put item) = item ∷ []
made (Pair first second) = first ∷ second ∷ []
made Cut = []

-- the list with the item at that place replaced
abbrev pub edited : {E : Type 0} → List E → ℕ → Edit E → List E
edited [] at edit = []
edited (item ∷ items) zero edit = made edit ++ items
edited (item ∷ items) (suc at) edit = item ∷ edited items at edit
