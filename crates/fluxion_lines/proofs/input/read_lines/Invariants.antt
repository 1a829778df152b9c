use Rattle.std.proofs.Common.{◌≡◌, ◌+◌, ◌≤◌, ◌++◌, length, map}
use Rattle.std.specs.List.{AllByRecursion}
use Rattle.flux_defs.specs.Scheduler.{IsProper}
use Rattle.text_table.specs.Tables.{with_texts}
use Rattle.fluxion_lines.specs.Lines.{lines_of}
use Rattle.fluxion_lines.specs.Inputs.{client_in, clients_of, lines_from, numbered_lines, over_from, over_in}
use Rattle.fluxion_lines.proofs.input.read_lines.Given as goal

-- what is left completes the lines and clients so far, and has the first line past a limit; the nodes barred so far are
-- within theirs
abbrev pub invariant-lines : goal.invariant-lines
invariant-lines l = record {
  few : length l.lines.items + length l.rest ≤ length l.bytes;
  clients : with_texts l.table (map client_in (lines_of l.rest)) ≡ clients_of l.bytes;
  lines : l.lines.items ++ lines_from l.graph l.form l.table (length l.lines.items + 1) (lines_of l.rest)
      ≡ numbered_lines l.graph l.form l.bytes;
  bars : l.bars ≤ l.limits.barred;
  over : over_from l.limits l.graph l.form l.table l.bars (length l.lines.items + 1) (lines_of l.rest)
      ≡ over_in l.limits l.graph l.form l.bytes;
  proper : AllByRecursion (λ x. IsProper l.graph.resources.vertices x.command) l.lines.items;
}

abbrev pub decreases-lines : goal.decreases-lines
decreases-lines l = length l.rest
