use Rattle.std.proofs.Common.{◌≡◌, ◌+◌, ◌<◌, Bool, Vec, Global, get_or, length, true, sym, ◌∙◌, subst, refl, arith}
use Rattle.std.proofs.lemmas.List.{length-set}
use Rattle.std.proofs.lemmas.Option.{slice_get-get_or}
use Rattle.resource_graph.proofs.ChainLaws.{no_vertex}
use Rattle.resource_graph.proofs.TableLaws.{PoolsTo, pools_more, pools_same}
use Rattle.resource_graph.proofs.tables.pool_table.Goals as goal
use Rattle.resource_graph.proofs.tables.pool_table.Goals.{then-vertex-ne1, else-vertex-ne1}

pub loop-vertex-preserved : goal.loop-vertex-preserved
loop-vertex-preserved c =
    let vertices = c.args.vertices.now in
    let at = c.loop-vertex.vertex-index in
    let kind = (get_or vertices at no_vertex).kind in
    let within : at < length vertices = omega arith in
    let kind_in : kind < length c.loop-vertex.pools.items = omega (
      arith,
      c.loop-vertex.invariant.0,
      c.requires.known at (get_or vertices at no_vertex) (slice_get-get_or vertices at no_vertex within),
    ) in
    elim c.if-vertex-ne1.branch [
      | then-vertex-ne1 w ↦
          subst (λ (p : Vec Bool Global). (length p.items ≡ c.args.kinds) × PoolsTo vertices (at + 1) p.items)
          (sym w.pools-is) (
            length-set c.loop-vertex.pools.items kind true ∙ c.loop-vertex.invariant.0,
            pools_more vertices
                at c.loop-vertex.pools.items kind within refl kind_in w.if-vertex-ne1.true c.loop-vertex.invariant.1,
          )
      | else-vertex-ne1 w ↦
          subst (λ (p : Vec Bool Global). (length p.items ≡ c.args.kinds) × PoolsTo vertices (at + 1) p.items)
          (sym w.pools-is) (
            c.loop-vertex.invariant.0,
            pools_same vertices at c.loop-vertex.pools.items within w.if-vertex-ne1.false c.loop-vertex.invariant.1,
          )
    ]
