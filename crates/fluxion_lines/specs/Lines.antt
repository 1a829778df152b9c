-- How the input is split into lines.
use Rattle.std.specs.Prelude.{◌≡◌, ◌⊎◌, ℕ, ◌<◌, ◌==◌, List, [], ◌∷◌, ◌++◌, length, if◌then◌else◌}
use Rattle.std.specs.Str.Lines.{strip_carriage_return}

-- the lines, with one byte more at the front of the first
abbrev pub with_byte : ℕ → List (List ℕ) → List (List ℕ)
with_byte b [] = (b ∷ []) ∷ []
with_byte b (line ∷ lines) = (b ∷ line) ∷ lines

-- the runs of bytes that line feeds end; the last may end with the bytes
abbrev pub lines_of : List ℕ → List (List ℕ)
lines_of [] = []
lines_of (b ∷ bytes) = if b == 10 then [] ∷ lines_of bytes else with_byte b (lines_of bytes)

-- what is read of a line: all but one carriage return at its end
abbrev pub read_of : List ℕ → List ℕ
read_of line = strip_carriage_return line

-- the bytes begin with this run, and more follows it after a line feed; or the run is all of them, and isn't empty
abbrev pub BeginsWithLine : List ℕ → List ℕ → List ℕ → Type 0
BeginsWithLine raw more bytes = (bytes ≡ raw ++ (10 ∷ more)) ⊎ ((bytes ≡ raw) × (0 < length raw) × (more ≡ []))
