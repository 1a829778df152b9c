use Rattle.std.proofs.Common.{sym, subst, length}
use Rattle.graph_build.specs.Raw.{raw_graph, raw_names}
use Rattle.graph_build.specs.Faults.{HasDoubleName}
use Rattle.resource_graph.specs.Finds.{IsFirstOf}
use Rattle.graph_build.specs.Keys.{HasEach, IsSiblingKey, IsNodeName}
use Rattle.graph_build.specs.contracts.doubles.SiblingKeyOrd.TheImpl as order
use Rattle.graph_build.proofs.KeyLaws.{finds_sibling, finds_node, finds_double_name}
use Rattle.graph_build.proofs.SiblingLaws.{repeated_doubles}
use Rattle.graph_build.proofs.OrderLaws.{same_sibling, itself_sibling, same_text, itself_text}
use Rattle.std.specs.Cmp.Lexicographic.{slice_cmp}
use Rattle.std.specs.Ordering.{nat_cmp}
use Rattle.graph_build.proofs.doubles.first_double_name.Goals as goal

pub returns-clause-first : goal.returns-clause-first
returns-clause-first c =
    let kinds = c.args.kinds.now in
    let raw = c.args.raw.now in
    subst (IsFirstOf (HasDoubleName (raw_graph kinds raw) (raw_names raw))) (sym c.lesser.ensures)
    (finds_double_name kinds raw c.in_ok-sibling.sibling c.in_ok-node.node
    (finds_sibling kinds raw order.cmp-value.it same_sibling itself_sibling c.as_slice.result.now
    (subst (HasEach (IsSiblingKey raw) (length raw)) (sym c.as_slice.ensures.value) c.in_ok-siblings.ensures)
    c.in_ok-sibling.sibling
    (repeated_doubles c.as_slice.result.now c.in_ok-sibling.sibling c.in_ok-sibling.ensures.first))
    (finds_node kinds raw (λ a b. slice_cmp nat_cmp a.now b.now) (λ a b. same_text a.now b.now)
    (λ a b. itself_text a.now b.now) c.as_slice-2.result.now
    (subst (HasEach (IsNodeName kinds raw) (length raw)) (sym c.as_slice-2.ensures.value) c.in_ok-nodes.ensures)
    c.in_ok-node.node c.in_ok-node.ensures.first))
