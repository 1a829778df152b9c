use Rattle.std.proofs.Common.{◌≡◌, ◌-◌, ◌≤◌, length}
use Rattle.dfu_match.specs.Rows.{Knows}
use Rattle.dfu_match.proofs.topmost.note_short.Given as goal

-- the vertices before `at` are noted
abbrev pub invariant-each : goal.invariant-each
invariant-each g l = record {
  later : l.from ≤ l.at;
  known : Knows l.s.graph.now.resources.vertices (g.F.FreeView.stands_for l.s.view.now) l.s.barred.now l.s.needs.now
      l.s.window l.known;
  own : l.known.own ≡ l.initial.known.own;
}

abbrev pub decreases-each : goal.decreases-each
decreases-each g l = length l.s.graph.now.resources.vertices - l.at
