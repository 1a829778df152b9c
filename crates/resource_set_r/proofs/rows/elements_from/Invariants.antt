use Rattle.std.proofs.Common.{◌≡◌, ◌++◌, ◌∷◌, drop}
use Rattle.resource_set_r.specs.Rows.{children_in, elements_from, elements}
use Rattle.resource_set_r.proofs.rows.elements_from.Given as goal

abbrev pub invariant-ranks : goal.invariant-ranks
invariant-ranks l =
    l.elements.items ++ elements_from
    (children_in l.graph.resources.vertices l.types.core l.types.gpu l.given) l.last (drop l.rank-index l.others)
    ≡ elements (children_in l.graph.resources.vertices l.types.core l.types.gpu l.given) (l.first ∷ l.others)
