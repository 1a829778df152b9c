use Rattle.std.proofs.Common.{IfSome, IfNone}
use Rattle.vertex_planners.specs.Rows.{IsLeft}
use Rattle.vertex_planners.proofs.RowLaws.{HasNoneBefore}
use Rattle.vertex_planners.proofs.rows.last_of.Given as goal

-- a vertex that is left, or there is none in the places so far
abbrev pub invariant-loop-amounts : goal.invariant-loop-amounts
invariant-loop-amounts l = record {
  some : IfSome l.last (IsLeft l.places);
  none : IfNone l.last (HasNoneBefore l.amounts-index l.places);
}
