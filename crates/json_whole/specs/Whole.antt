-- The value of a text.
use Rattle.std.specs.Prelude.{ℕ, List, if◌then◌else◌, Option, None, option_and_then}
use Rattle.std.specs.Str.{is_utf8}
use Rattle.json.specs.Lex.{tokens}
use Rattle.json.specs.Json as json
use Rattle.serde_json.specs.Data.{Data}
use Rattle.serde_json.specs.Read.{max_depth, read}
use Rattle.json_whole.specs.Plain.{plain_of}

-- the tree of a JSON text in which at most 127 arrays and objects nest
abbrev pub json_in : List ℕ → Option json.Json
json_in text = option_and_then (λ p. json.if_last p.0 p.1) (json.value max_depth (tokens text))

-- the value of the JSON text in UTF-8 that the bytes are, and none where they are no such text. At most 127 arrays
-- and objects nest, surrogate escapes are paired, and the last value of a repeated key counts.
abbrev pub value_in : List ℕ → Option Data
value_in text = if is_utf8 text then read text else None

-- the value of the plain form of the bytes, and none where that is no JSON
unfoldable pub value_of : List ℕ → Option Data
value_of bytes = value_in (plain_of bytes)
