-- An input as a script: its clients, and beside each its lines in order.
use Rattle.std.specs.Prelude.{ℕ, ◌==◌, List, map, filter, length}
use Rattle.std.specs.List.{range_with_len}
use Rattle.flux_defs.specs.declared.journal.Line.{Line}
use Rattle.flux_defs.specs.declared.journal.Script.{Script}
use Rattle.resource_graph.specs.NamedGraph.{NamedGraph}
use Rattle.fluxion_lines.specs.declared.commands.Form.{Form}
use Rattle.flux_defs.specs.declared.journal.ClientLine.{ClientLine}
use Rattle.fluxion_lines.specs.Inputs.{clients_of, numbered_lines}

-- the line without its client
abbrev pub line_held : ClientLine → Line
line_held l = record { line = l.line; command = l.command }

-- the lines of the client with this number
abbrev pub lines_by : ℕ → List ClientLine → List Line
lines_by client lines = map line_held (filter (λ l. l.client == client) lines)

-- by client, its lines
abbrev pub script_of : NamedGraph → Form → List ℕ → Script
script_of g form bytes = record {
  clients = clients_of bytes;
  lines = map (λ client. lines_by client (numbered_lines g form bytes)) (range_with_len 0 (length (clients_of bytes)));
}

-- the numbers of all lines, in the order of the input
abbrev pub input_order : NamedGraph → Form → List ℕ → List ℕ
input_order g form bytes = map (λ l. l.line) (numbered_lines g form bytes)
