-- Names of types, and the items of a list with commas.
use Rattle.std.specs.Prelude.{ℕ, ◌==◌, Bool, List}
use Rattle.std.specs.List.{slice_split}
use Rattle.flux_defs.specs.declared.limits.TheConstants.{MOST_TYPE_BYTES}
use Rattle.text_forms.specs.Names.{is_name}

-- the name of a type
abbrev pub is_type_name : List ℕ → Bool
is_type_name name = is_name MOST_TYPE_BYTES name

-- what stands between the commas (44) of a text; of the empty text one empty item
abbrev pub items_of : List ℕ → List (List ℕ)
items_of text = slice_split (λ byte. byte == 44) text
