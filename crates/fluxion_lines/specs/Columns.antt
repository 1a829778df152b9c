-- The column LINE of an output: the second word of each of its lines.
use Rattle.std.specs.Prelude.{ℕ, ◌==◌, List, map, count_by, unwrap_or}
use Rattle.text_forms.specs.Numbers.{number_in}
use Rattle.fluxion_lines.specs.Lines.{lines_of}
use Rattle.fluxion_lines.specs.Words.{first_word, after_word}

-- the number of the input's line that an output line answers: its second word
abbrev pub line_named : List ℕ → ℕ
line_named line = unwrap_or (number_in (first_word (after_word line))) 0

-- the numbers of the input's lines that an output answers, in the order of its lines
abbrev pub line_column : List ℕ → List ℕ
line_column bytes = map line_named (lines_of bytes)

-- how many line feeds the bytes have
abbrev pub line_feeds : List ℕ → ℕ
line_feeds bytes = count_by (λ b. b == 10) bytes
