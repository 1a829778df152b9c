-- Words of a line.
use Rattle.std.specs.Prelude.{ℕ, ◌==◌, not, List, take, drop}
use Rattle.std.specs.List.{position_or_len}

-- the bytes from the first that is no space on
abbrev pub skipped : List ℕ → List ℕ
skipped bytes = drop (position_or_len (λ b. not (b == 32)) bytes) bytes

-- the first word, which is empty where there is none
abbrev pub first_word : List ℕ → List ℕ
first_word bytes = take (position_or_len (λ b. b == 32) (skipped bytes)) (skipped bytes)

-- what follows the first word
abbrev pub after_word : List ℕ → List ℕ
after_word bytes = drop (position_or_len (λ b. b == 32) (skipped bytes)) (skipped bytes)
