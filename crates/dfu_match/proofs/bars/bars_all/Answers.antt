use Rattle.std.proofs.Common.{◌≡◌, ℕ, ◌<◌, List, Option, length, is_some, true, inl, inr, sym, subst, arith}
use Rattle.std.specs.Option.{IsSomeAnd}
use Rattle.std.specs.List.{list_any}
use Rattle.std.proofs.lemmas.Bool.{cases_lt}
use Rattle.std.proofs.lemmas.Option.{slice_get_past}
use Rattle.std.specs.Prelude.{IsTrue}
use Rattle.flux_defs.specs.declared.vertices.Vertex.{Vertex}
use Rattle.flux_defs.specs.Graph.{IsNode, is_at_or_below}
use Rattle.dfu_match.proofs.bars.bars_all.Goals as goal

pub loop-vertex-preserved : goal.loop-vertex-preserved
loop-vertex-preserved c v lt node = elim (cases_lt v c.loop-vertex.vertex) [
  | inl before ↦ c.loop-vertex.invariant v before node
  | inr here ↦ (
      let same : c.loop-vertex.vertex ≡ v = omega arith in
      let vs = c.args.graph.now.resources.vertices in
      subst (λ (x : ℕ). IsTrue (list_any (is_at_or_below vs x) c.args.barred.now)) same
      (c.in-Some.ensures (subst (IsNode vs) (sym same) node)))
]

within : (vertices : List Vertex) (v : ℕ) → IsNode vertices v → v < length vertices
within vertices v node = elim (cases_lt v (length vertices)) [
  | inl lt ↦ lt
  | inr past ↦ absurd (subst (λ (o : Option Vertex). IsSomeAnd o (λ x. is_some x.rank ≡ true))
      (slice_get_past vertices v past) node)
]

pub returns : goal.returns
returns c t v node =
    let lt = within c.args.graph.now.resources.vertices v node in
    let over = c.loop-vertex-test.false in
    let all = c.len-vertex-end.ensures in
    c.loop-vertex.invariant v (omega arith) node
