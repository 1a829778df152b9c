-- Texts in the order in which they were first seen.
use Rattle.std.specs.Prelude.{ℕ, List, [], ◌∷◌, ◌++◌, map, fold, if◌then◌else◌, Vec, Option, position}
use Rattle.std.specs.List.{list_any, position_or_len}
use Rattle.std.specs.Str.{bytes_eq}
use Rattle.std.specs.declared.alloc.Global.{Global}

-- the bytes of each text
abbrev pub texts_of : List (Vec ℕ Global) → List (List ℕ)
texts_of = map (λ v. v.items)

-- the text's index, or, where it is not among them, the one past the last
abbrev pub index_of : List (List ℕ) → List ℕ → ℕ
index_of texts text = position_or_len (bytes_eq text) texts

-- the text's index, and none where it is not among them
abbrev pub number_of : List (List ℕ) → List ℕ → Option ℕ
number_of texts text = position (bytes_eq text) texts

-- the texts with one more at the end, unless it is among them
abbrev pub with_text : List (List ℕ) → List ℕ → List (List ℕ)
with_text texts text = if list_any (bytes_eq text) texts then texts else texts ++ text ∷ []

-- the texts with each of these in turn
abbrev pub with_texts : List (List ℕ) → List (List ℕ) → List (List ℕ)
with_texts texts more = fold with_text texts more
