-- Where the entry of a client's line stands in a history.
use Rattle.std.specs.Prelude.{◌≡◌, ℕ, ◌≤◌, List, length, slice_get, Option, Some, None}
use Rattle.flux_defs.specs.declared.journal.Command.{Command}
use Rattle.flux_defs.specs.declared.journal.ClientLine.{ClientLine}
use Rattle.flux_defs.specs.declared.journal.Entry.{Entry}
use Rattle.flux_defs.specs.Scripts.{line_of}

-- the line that is answered by what stands there
abbrev pub line_of_any : Option Entry → Option ClientLine
line_of_any None = None
line_of_any (Some e) = Some (line_of e)

-- the line that entry `at` of the history answers, if there is such an entry
abbrev pub line_at : List Entry → ℕ → Option ClientLine
line_at history at = line_of_any (slice_get history at)

-- entry `at` of the later history answers this line of the client, and stands behind all that was seen before
abbrev pub IsPlaced : ℕ → ℕ → Command → ℕ → List Entry → List Entry → Type 0
IsPlaced client line command at before later =
    (length before ≤ at) × (line_at later at ≡ Some (record { client = client; line = line; command = command }))
