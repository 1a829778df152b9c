use Rattle.std.proofs.Common.{◌≡◌, ◌++◌, ◌∷◌, [], arith, get_or, refl}
use Rattle.std.proofs.lemmas.Option.{slice_get-get_or}
use Rattle.resource_graph.proofs.ChainLaws.{no_vertex}
use Rattle.resource_graph.proofs.TableLaws.{lists_all, lists_more}
use Rattle.resource_graph.proofs.tables.list_table.Goals as goal

pub loop-v-preserved : goal.loop-v-preserved
loop-v-preserved c =
    let items : c.push.new.self.items ≡ c.index_mut.result.now.items ++ c.loop-v.v ∷ [] = c.in_ok-push.ensures.items in
    lists_more c.args.vertices.now c.args.kinds c.loop-v.v c.loop-v.lists.items
    (get_or c.args.vertices.now c.loop-v.v no_vertex).kind c.index_mut.result.now c.push.new.self refl (omega arith)
    (omega (
      arith,
      c.loop-v.invariant.as_many,
      c.requires.known c.loop-v.v (get_or c.args.vertices.now
          c.loop-v.v no_vertex) (slice_get-get_or c.args.vertices.now c.loop-v.v no_vertex (omega arith)),
    ))
    c.index_mut.ensures.value items c.loop-v.invariant

pub returns : goal.returns
returns c = lists_all c.args.vertices.now c.args.kinds c.loop-v.v c.loop-v.lists.items c.loop-v.invariant (omega arith)
