-- Texts as JSON holds them.
use Rattle.std.specs.Prelude.{ℕ, List, [], if◌then◌else◌}
use Rattle.std.specs.Str.{is_utf8}

-- a text as JSON holds it: one that is no UTF-8 is written as the empty text
abbrev pub readable : List ℕ → List ℕ
readable text = if is_utf8 text then text else []
