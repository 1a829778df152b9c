use Rattle.dfu_match.specs.Tables.{needs_all, IsWantedBy}
use Rattle.dfu_match.proofs.DemandLaws.{tell_at, tell_many}
use Rattle.dfu_match.proofs.ScopeLaws.{nodes_told}
use Rattle.dfu_match.proofs.matching.Matcher.of.Goals as goal

pub invariant_of-kinds : goal.invariant_of-kinds
invariant_of-kinds c = record {
  told = nodes_told c.args.graph.now.resources c.args.graph.now.names c.is_valid.ensures.valid c.kind_of-nodes.result
      c.kind_of-nodes.ensures;
}

pub invariant_of-result : goal.invariant_of-result
invariant_of-result c =
    let vs = c.args.graph.now.resources.vertices in
    let all = needs_all c.args.ask.now.needs in
    record {
      demands = c.in_ok-whole.ensures.demands;
      few = c.in_ok-whole.ensures.few;
      tells = tell_at (IsWantedBy vs) all c.in_ok-wanted.wanted c.in_ok-wanted.ensures;
      all = tell_many (IsWantedBy vs) all c.in_ok-wanted.wanted c.in_ok-wanted.ensures;
      shuts = rw c.items.ensures at c.bars_all-shut.ensures;
    }
