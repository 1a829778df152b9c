use Rattle.resource_graph.proofs.Queries.{next_from_behind}
use Rattle.resource_graph.proofs.graph.Graph.next_of_kind.Goals as goal

pub returns : goal.returns
returns c =
    next_from_behind c.args.self.now.resources.vertices c.args.kind c.args.from c.args.to c.next_behind.result
    (λ is. let yes = c.has_kind.ensures.1 is in let none = c.if-has_kind.false in absurd (cc))
    c.next_behind.ensures
