use Rattle.std.proofs.Common.{◌≡◌, sym, subst, ◌∙◌, ℕ, List}
use Rattle.std.specs.List.{flat_map, filter_map}
use Rattle.std.specs.List.Sorted.{IsStrictlyIncreasing}
use Rattle.resource_set_r.specs.Rows.{given_by, rank_above, rising}
use Rattle.resource_set_r.proofs.Rising.{rising_increases}
use Rattle.resource_set_r.proofs.writing.resources_of.Goals as goal

pub elements_of-requires-clause-given : goal.elements_of-requires-clause-given
elements_of-requires-clause-given c =
    let vertices = c.args.graph.now.resources.vertices in
    let same : c.items-2.result.now ≡ rising (flat_map (given_by vertices) c.args.claims.now) =
    c.items-2.ensures ∙ c.in_ok-given.ensures in
    subst (λ (ns : List ℕ). IsStrictlyIncreasing ns)
    (sym same) (rising_increases (flat_map (given_by vertices) c.args.claims.now))

pub elements_of-requires-clause-ranks : goal.elements_of-requires-clause-ranks
elements_of-requires-clause-ranks c =
    let vertices = c.args.graph.now.resources.vertices in
    let same : c.items-3.result.now ≡ rising (filter_map (rank_above vertices) c.items.result.now) =
    c.items-3.ensures ∙ c.in_ok-ranks.ensures in
    subst (λ (ns : List ℕ). IsStrictlyIncreasing ns)
    (sym same) (rising_increases (filter_map (rank_above vertices) c.items.result.now))
