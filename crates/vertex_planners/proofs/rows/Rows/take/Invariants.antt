use Rattle.vertex_planners.proofs.RowLaws.{TakenSoFar}
use Rattle.vertex_planners.proofs.rows.Rows.take.Given as goal

-- the numbers of the places so far are taken off
abbrev pub invariant-loop-place : goal.invariant-loop-place
invariant-loop-place l = TakenSoFar l.fn.self.places.items l.self.places.items l.vertex l.place l.row
