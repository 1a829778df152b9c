use Rattle.std.proofs.Common.{◌≡◌, ◌<◌, ◌≤◌, cond, length, get_or, Some, sym, ◌∙◌, ap, arith, inl, inr}
use Rattle.std.specs.Prelude.{slice_get}
use Rattle.std.proofs.lemmas.Bool.{cases_Bool}
use Rattle.std.proofs.lemmas.Option.{slice_get-get_or}
use Rattle.resource_graph.proofs.ChainLaws.{parent_at, no_vertex}
use Rattle.graph_build.proofs.MadeLaws.{made_more, rank_made, nodes_more}
use Rattle.graph_build.proofs.arrange.vertices_of.Goals as goal

pub loop-at-preserved : goal.loop-at-preserved
loop-at-preserved c =
    let vertices = c.args.vertices.now in
    let order = c.args.order.now in
    let most = c.loop-at.at-index in
    let i = get_or order most 0 in
    let at : slice_get order most ≡ Some i = slice_get-get_or order most 0 (omega arith) in
    let within : i < length vertices = c.requires.indices.known most i at in
    let x = get_or vertices i no_vertex in
    let at_x : slice_get vertices i ≡ Some x = slice_get-get_or vertices i no_vertex within in
    let rank = rank_made c.args.kinds.now vertices order most x c.is_node-node.result c.ranks_given-ranked.result
    c.loop-at.nodes c.rank_for-rank.result
    c.is_node-node.ensures c.ranks_given-ranked.ensures c.loop-at.invariant.counted c.rank_for-rank.ensures in
    let one : c.one_if-nodes.result ≡ cond c.is_node-node.result 1 0 = c.one_if-nodes.ensures in
    let little : c.one_if-nodes.result ≤ 1 = elim (cases_Bool c.is_node-node.result) [
      | inl node ↦ (let e : c.one_if-nodes.result ≡ 1 = one ∙ ap (λ t. cond t 1 0) node in omega arith)
      | inr other ↦ (let e : c.one_if-nodes.result ≡ 0 = one ∙ ap (λ t. cond t 1 0) other in omega arith)
    ] in
    record {
      made = made_more c.args.kinds.now vertices order c.args.numbers.now c.args.kind_numbers.now most i
          c.loop-at.made.items c.push.new.self.items x c.renumbered.result at at_x
          c.renumbered.ensures.made (c.renumbered.ensures.ranked ∙ rank) c.in_ok-push.ensures.items
          c.loop-at.invariant.made;
      counted = nodes_more c.args.kinds.now vertices order most i x c.is_node-node.result c.loop-at.nodes
          c.one_if-nodes.result at at_x c.is_node-node.ensures c.loop-at.invariant.counted one;
      few = omega (arith, c.loop-at.invariant.few);
    }

pub renumbered-requires-clause-parent : goal.renumbered-requires-clause-parent
renumbered-requires-clause-parent c = λ p e.
    let order = c.args.order.now in
    let i = get_or order c.loop-at.at-index 0 in
    let at : slice_get order c.loop-at.at-index ≡ Some i = slice_get-get_or order c.loop-at.at-index 0
    (omega arith) in
    let within : i < length c.args.vertices.now = c.requires.indices.known c.loop-at.at-index i at in
    let low : p < length c.args.vertices.now =
    c.requires.parents i p (sym (parent_at c.args.vertices.now i no_vertex within) ∙ e) in
    omega (arith, c.requires.whole)

pub renumbered-requires-clause-kind : goal.renumbered-requires-clause-kind
renumbered-requires-clause-kind c =
    let order = c.args.order.now in
    let i = get_or order c.loop-at.at-index 0 in
    let at : slice_get order c.loop-at.at-index ≡ Some i = slice_get-get_or order c.loop-at.at-index 0
    (omega arith) in
    let within : i < length c.args.vertices.now = c.requires.indices.known c.loop-at.at-index i at in
    c.requires.numbered i (get_or c.args.vertices.now i no_vertex)
    (slice_get-get_or c.args.vertices.now i no_vertex within)
