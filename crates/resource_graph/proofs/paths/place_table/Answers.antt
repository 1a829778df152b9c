use Rattle.std.proofs.Common.{List, ℕ, length, sym, subst}
use Rattle.resource_graph.specs.Paths.{HasHashes}
use Rattle.resource_graph.proofs.PathLaws.{if_places}
use Rattle.resource_graph.proofs.paths.place_table.Goals as goal

pub returns : goal.returns
returns c = if_places c.args.vertices.now c.args.names.now c.as_slice.result.now c.places_of.result
    (subst (λ (l : List ℕ). HasHashes c.args.vertices.now c.args.names.now (length c.args.vertices.now) l)
    (sym c.as_slice.ensures.value) c.in_ok-hashes.ensures) c.places_of.ensures
