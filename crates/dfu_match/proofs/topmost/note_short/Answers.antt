use Rattle.std.proofs.Common.{◌∙◌, arith}
use Rattle.dfu_match.proofs.NotingLaws.{none_to, none_before, none_below}
use Rattle.dfu_match.proofs.RowLaws.{knows_noted, knows_passed, none_row}
use Rattle.dfu_match.proofs.topmost.note_short.Goals as goal

pub returns-in_default-clause-known : goal.returns-in_default-clause-known
returns-in_default-clause-known g c =
    let s = c.args.s.now in
    let graph = s.graph.now in
    let need = c.args.need.now in
    knows_passed graph.resources.vertices (g.F.FreeView.stands_for s.view.now) s.barred.now s.needs.now s.window
    c.args.own c.each.at c.args.past c.each.known c.pass.new.self need c.requires.of_own c.pass.ensures.own
    c.pass.ensures.rows c.pass.ensures.blocks c.pass.ensures.end
    (none_to graph.resources graph.names c.is_valid.ensures.valid need c.args.kind c.requires.of_kind c.each.at
    c.args.past c.in_default.ensures)
    c.each.invariant.known

pub each-preserved : goal.each-preserved
each-preserved g c =
    let s = c.args.s.now in
    let graph = s.graph.now in
    let need = c.args.need.now in
    let valid = c.is_valid.ensures.valid in
    let next = c.in-Some.ensures in
    let from = c.each.invariant.later in
    let low = next.low in
    let past = c.past-next.ensures.later in
    record {
      later = omega (arith, from, low, past);
      known = knows_noted graph.resources.vertices (g.F.FreeView.stands_for s.view.now) s.barred.now s.needs.now
          s.window c.args.own c.each.at c.past-next.result _ c.each.known c.note.new.self need c.requires.of_own
          c.note.ensures.own c.note.ensures.noted
          (none_before graph.resources graph.names valid need c.args.kind c.requires.of_kind c.each.at c.args.past
          c.in-Some.vertex next)
          (none_below graph.resources graph.names valid need c.args.kind c.requires.of_kind c.in-Some.vertex
          c.past-next.result next.of_kind c.past-next.ensures)
          (none_row graph.resources.vertices (g.F.FreeView.stands_for s.view.now) s.barred.now s.window need
          c.in-Some.vertex c.args.moment c.args.from c.args.past ((c.requires.of_kind c.in-Some.vertex).1 next.of_kind)
          (omega (arith, from, low)) next.high c.requires.none)
          c.each.invariant.known;
      own = c.note.ensures.own ∙ c.each.invariant.own;
    }
