use Rattle.std.proofs.Common.{List, subst}
use Rattle.vertex_planners.specs.declared.amounts.Amounts.{Amounts}
use Rattle.vertex_planners.specs.Rows.{IsLeft}
use Rattle.vertex_planners.proofs.rows.Rows.pop.Goals as goal

pub returns-in-Some-clause-taken : goal.returns-in-Some-clause-taken
returns-in-Some-clause-taken c = record {
  was = subst (λ (places : List Amounts). IsLeft places c.in-Some.vertex) c.as_slice.ensures.value
      c.in-Some.ensures.some;
  row_is = c.in_ok-take-in-Some.ensures;
}
