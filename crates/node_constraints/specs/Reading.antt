-- What the texts of a list are read as.
use Rattle.std.specs.Prelude.{ℕ, List, [], ◌∷◌, Option, Some, None, option_and_then, option_map, Result, Ok, Err}
use Rattle.serde_json.specs.Data.{Data, Items, no_items, item}
use Rattle.serde_json.specs.Find.{as_str}

abbrev pub ok_of : {X E : Type 0} → Result X E → Option X
ok_of (Ok x) = Some x
ok_of (Err e) = None

-- what a value is read as, where it is a text that can be read
abbrev pub read_value : {X : Type 0} → (List ℕ → Result X ℕ) → Data → Option X
read_value read d = option_and_then (λ text. ok_of (read text)) (as_str d)

abbrev pub read_first : {X : Type 0} → Option X → Option (List X) → Option (List X)
read_first None others = None
read_first (Some x) others = option_map (λ xs. x ∷ xs) others

-- what each value is read as, where each is a text that can be read
abbrev pub read_all : {X : Type 0} → (List ℕ → Result X ℕ) → Items → Option (List X)
read_all read no_items = Some []
read_all read (item d ds) = read_first (read_value read d) (read_all read ds)
