-- How a text is cut into items.
use Rattle.std.specs.Prelude.{ℕ, ◌+◌, ◌==◌, Bool, true, false, not, ◌&&◌, if◌then◌else◌, List, [], ◌∷◌, ◌++◌, length}
use Rattle.std.specs.Prelude.{take, drop, Option, Some, None, Result, Ok, Err}
use Rattle.std.specs.List.{position}

-- whether what follows the byte stands inside brackets: 91 is '[', and 93 is ']'
abbrev pub is_inside : Bool → ℕ → Bool
is_inside inside byte = if byte == 91 then true else (if byte == 93 then false else inside)

-- the pieces with some bytes before the first
abbrev pub with_front : List ℕ → List (List ℕ) → List (List ℕ)
with_front front [] = front ∷ []
with_front front (piece ∷ pieces) = (front ++ piece) ∷ pieces

-- what stands between the commas; a comma (44) inside brackets parts nothing
abbrev pub pieces : Bool → List ℕ → List (List ℕ)
pieces inside [] = [] ∷ []
pieces inside (byte ∷ bytes) = if ((byte == 44) && not inside)
    then ([] ∷ pieces false bytes) else with_front (byte ∷ []) (pieces (is_inside inside byte) bytes)

-- the pieces behind an item, which begin behind a comma
abbrev pub pieces_after : List ℕ → List (List ℕ)
pieces_after [] = []
pieces_after (comma ∷ bytes) = pieces false bytes

-- an item's bytes, and the place of its first byte in the whole text
pub record Item : Type 0 where
  pub at : ℕ
  pub bytes : List ℕ

-- the pieces with their places; between two of them stands a comma
abbrev pub placed : ℕ → List (List ℕ) → List Item
placed at [] = []
placed at (piece ∷ pieces) = record { at = at; bytes = piece } ∷ placed (at + length piece + 1) pieces

-- the items of a text whose first byte has the place `at`
abbrev pub items_of : ℕ → List ℕ → List Item
items_of at text = placed at (pieces false text)

-- what was read first, and what is read behind it
abbrev pub with_first : {X : Type 0} → List X → Result (List X) ℕ → Result (List X) ℕ
with_first first (Ok others) = Ok (first ++ others)
with_first first (Err at) = Err at

-- 45 is '-'
abbrev pub is_dash : ℕ → Bool
is_dash byte = byte == 45

-- what stands before and behind the first dash; with none, both ends are the whole
abbrev pub ends_at : List ℕ → Option ℕ → List ℕ × List ℕ
ends_at bytes None = (bytes, bytes)
ends_at bytes (Some dash) = (take dash bytes, drop (dash + 1) bytes)

abbrev pub ends_of : List ℕ → List ℕ × List ℕ
ends_of bytes = ends_at bytes (position is_dash bytes)
