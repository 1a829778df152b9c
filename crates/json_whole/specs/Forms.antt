-- What the walk over a text says of its parts.
use Rattle.std.specs.Prelude.{ℕ, List, ◌++◌, take, drop}
use Rattle.json_whole.specs.Run.{digit_count, listed}
use Rattle.json_whole.specs.Plain.{Place, plain_from}
use Rattle.json_whole.specs.declared.runs.Form.{Form}
use Rattle.json_whole.specs.declared.runs.Form.TheVariants.{Same, Digits, Listed}

-- a run in the form
abbrev pub written_as : Form → List ℕ → List ℕ
written_as Same run = run
written_as Digits run = take (digit_count run) run
written_as Listed run = listed run

-- the bytes before `at` as they are, and the plain form of the rest, which begins at the place
abbrev pub plain_behind : Place → ℕ → List ℕ → List ℕ
plain_behind place at text = take at text ++ plain_from place (drop at text)
