use Rattle.dfu_match.proofs.ScopeLaws.{covers_below}
use Rattle.dfu_match.proofs.scopes.span_of.Goals as goal

pub returns-in-Some-clause-covers : goal.returns-in-Some-clause-covers
returns-in-Some-clause-covers c =
    let graph = c.args.graph.now in
    rw c.in-Some.is (covers_below graph.resources graph.names c.is_valid.ensures.valid c.in-Some.upper c.past.result
    c.past.ensures)
