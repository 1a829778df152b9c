use Rattle.std.proofs.Common.{sym}
use Rattle.vertex_planners.proofs.RisingLaws.{gap_past_last}
use Rattle.vertex_planners.proofs.numbers.find.Goals as goal

pub returns-then-last-vertex-clause-gap : goal.returns-then-last-vertex-clause-gap
returns-then-last-vertex-clause-gap c =
    gap_past_last c.args.numbers.now c.in-Some.last.now c.args.vertex c.requires (sym c.in-Some.ensures.value)
    c.if-last-vertex.true
