-- The commands of an input, line by line, and the first line that is past a limit.
use Rattle.std.specs.Prelude.{ℕ, ◌+◌, nat_lt, Bool, true, false, List, [], ◌∷◌, map, length, Option, Some, None}
use Rattle.std.specs.Prelude.{if◌then◌else◌}
use Rattle.std.specs.Option.{option_or}
use Rattle.flux_defs.specs.declared.limits.Limits.{Limits}
use Rattle.resource_graph.specs.NamedGraph.{NamedGraph}
use Rattle.text_table.specs.Tables.{index_of, with_text, with_texts}
use Rattle.fluxion_lines.specs.declared.commands.Form.{Form}
use Rattle.fluxion_lines.specs.Lines.{lines_of, read_of}
use Rattle.fluxion_lines.specs.Commands.{client_of, command_of, bars_of_command}
use Rattle.flux_defs.specs.declared.journal.ClientLine.{ClientLine}
use Rattle.fluxion_lines.specs.declared.input.Over.{Over}
use Rattle.fluxion_lines.specs.declared.input.Over.TheVariants as over

-- the client of a line as it stands
abbrev pub client_in : List ℕ → List ℕ
client_in raw = client_of (read_of raw)

-- the clients, each once, in the order of their first lines
abbrev pub clients_of : List ℕ → List (List ℕ)
clients_of bytes = with_texts [] (map client_in (lines_of bytes))

-- the line at a number, where these are the clients of the lines before it
abbrev pub line_at : NamedGraph → Form → List (List ℕ) → ℕ → List ℕ → ClientLine
line_at g form clients at raw =
    record { client = index_of clients (client_in raw); line = at; command = command_of g form (read_of raw) }

-- the lines from a number on, behind lines of these clients
abbrev pub lines_from : NamedGraph → Form → List (List ℕ) → ℕ → List (List ℕ) → List ClientLine
lines_from g form clients at [] = []
lines_from g form clients at (raw ∷ raws) =
    line_at g form clients at raw ∷ lines_from g form (with_text clients (client_in raw)) (at + 1) raws

-- all lines, numbered from 1
abbrev pub numbered_lines : NamedGraph → Form → List ℕ → List ClientLine
numbered_lines g form bytes = lines_from g form [] 1 (lines_of bytes)

-- ---- limits that the text of the lines alone tells

-- whether the limit is one of these: on lines, on bytes of a line, or on clients
abbrev pub is_by_size : Over → Bool
is_by_size (over.Lines line) = true
is_by_size (over.LineBytes line) = true
is_by_size (over.Clients line) = true
is_by_size (over.Barred line) = false

-- the limit that a line of this number and so many bytes passes, where the clients are then so many
abbrev pub over_size : Limits → ℕ → ℕ → ℕ → Option Over
over_size limits at bytes clients =
    if nat_lt limits.lines at then Some (over.Lines at)
    else if nat_lt limits.line_bytes bytes then Some (over.LineBytes at)
    else if nat_lt limits.clients clients then Some (over.Clients at)
    else None

-- the same of a line as it stands, behind lines of these clients
abbrev pub line_over_size : Limits → List (List ℕ) → ℕ → List ℕ → Option Over
line_over_size limits clients at raw = over_size limits at (length raw) (length (with_text clients (client_in raw)))

-- the first line from a number on that is past one of these limits
abbrev pub over_size_from : Limits → List (List ℕ) → ℕ → List (List ℕ) → Option Over
over_size_from limits clients at [] = None
over_size_from limits clients at (raw ∷ raws) = option_or
    (line_over_size limits clients at raw) (over_size_from limits (with_text clients (client_in raw)) (at + 1) raws)

-- the first line of an input that is past a limit that the text alone tells: on lines, on bytes of a line, or on
-- clients
abbrev pub over_size_in : Limits → List ℕ → Option Over
over_size_in limits bytes = over_size_from limits [] 1 (lines_of bytes)

-- ---- all limits

-- how many nodes the ask of a line as it stands bars
abbrev pub bars_in : NamedGraph → Form → List ℕ → ℕ
bars_in g form raw = bars_of_command (command_of g form (read_of raw))

-- the limit that a line passes by the barred nodes of all lines up to it
abbrev pub over_bars : Limits → ℕ → ℕ → Option Over
over_bars limits at bars = if nat_lt limits.barred bars then Some (over.Barred at) else None

-- the limit that a line passes, behind lines of these clients that bar so many nodes
abbrev pub line_over : Limits → NamedGraph → Form → List (List ℕ) → ℕ → ℕ → List ℕ → Option Over
line_over limits g form clients bars at raw =
    option_or (line_over_size limits clients at raw) (over_bars limits at (bars + bars_in g form raw))

-- the first line from a number on that is past a limit: on lines, on bytes of a line, on clients, or on barred nodes
abbrev pub over_from : Limits → NamedGraph → Form → List (List ℕ) → ℕ → ℕ → List (List ℕ) → Option Over
over_from limits g form clients bars at [] = None
over_from limits g form clients bars at (raw ∷ raws) =
    option_or (line_over limits g form clients bars at raw)
    (over_from limits g form (with_text clients (client_in raw)) (bars + bars_in g form raw) (at + 1) raws)

-- the first line of an input that is past a limit
abbrev pub over_in : Limits → NamedGraph → Form → List ℕ → Option Over
over_in limits g form bytes = over_from limits g form [] 0 1 (lines_of bytes)
