-- The plain form of a text: strings and all else stay, and each run of number bytes outside strings is written as
-- a number that 64 bits hold or as a list of its text.
use Rattle.std.specs.Prelude.{ℕ, ◌==◌, List, [], ◌∷◌, ◌++◌, if◌then◌else◌}
use Rattle.json.specs.Ascii as ascii
use Rattle.json_whole.specs.Run.{begins_run, is_run_byte, first_run, written}

-- where a byte stands: outside strings and runs, right behind a byte of a run, within a string, or right behind
-- a backslash in a string
pub data Place : Type 0 where
  outside : Place
  in_run : Place
  in_string : Place
  escaped : Place

-- where the byte behind x stands, by where x stands
abbrev pub next_outside : ℕ → Place
next_outside x = if x == ascii.quote then in_string else (if begins_run x then in_run else outside)

abbrev pub next_in_string : ℕ → Place
next_in_string x = if x == ascii.quote then outside else (if x == ascii.backslash then escaped else in_string)

abbrev pub next_place : Place → ℕ → Place
next_place outside x = next_outside x
next_place in_run x = if is_run_byte x then in_run else next_outside x
next_place in_string x = next_in_string x
next_place escaped x = in_string

-- what is written for the byte x, which xs follow: itself, but a whole run where the run begins, and nothing more
-- for its other bytes
abbrev pub written_at : Place → ℕ → List ℕ → List ℕ
written_at outside x xs = if begins_run x then written (first_run (x ∷ xs)) else x ∷ []
written_at in_run x xs = if is_run_byte x then [] else x ∷ []
written_at in_string x xs = x ∷ []
written_at escaped x xs = x ∷ []

-- the plain form of a text that begins at the place
unfoldable pub plain_from : Place → List ℕ → List ℕ
plain_from place [] = []
plain_from place (x ∷ xs) = written_at place x xs ++ plain_from (next_place place x) xs

-- the plain form of a whole text
abbrev pub plain_of : List ℕ → List ℕ
plain_of text = plain_from outside text
