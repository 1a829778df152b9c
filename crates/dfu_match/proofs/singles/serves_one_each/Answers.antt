use Rattle.std.proofs.Common.{sym, ◌∙◌, true≢false}
use Rattle.dfu_match.proofs.CountLaws.{one_each}
use Rattle.dfu_match.proofs.singles.serves_one_each.Goals as goal
use Rattle.dfu_match.proofs.singles.serves_one_each.Goals.{then-is_empty, else-is_empty}

pub returns-then-is_empty-2 : goal.returns-then-is_empty-2
returns-then-is_empty-2 g c = λ known present stands. elim c.if-is_empty.branch [
  | then-is_empty w ↦ (
      let s = c.args.s.now in
      rw c.in-Vert.is (one_each s.graph.now.resources.vertices present s.barred.now s.window
      (c.is_bare.ensures.bare known present stands)
      (w.is_empty-then-is_empty.ensures.0 (sym w.value-is ∙ c.if-is_empty-2.true)) c.in-Vert.kind c.in-Vert.count
      c.in-Vert.hold c.in-Vert.needs (c.is_empty.ensures.0 w.if-is_empty.true)))
  | else-is_empty w ↦ absurd (true≢false (sym c.if-is_empty-2.true ∙ w.value-is ∙ w.if-is_empty.false))
]
