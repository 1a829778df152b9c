use Rattle.std.proofs.Common.{sym, ap, subst, ◌∙◌, ℕ, [], Option}
use Rattle.std.specs.Option.{option_map_or}
use Rattle.resource_graph.specs.Tables.{IsRanked, name_at}
use Rattle.resource_set_r.proofs.NodeLaws.{node_with_found, node_with_none}
use Rattle.resource_set_r.proofs.rows.host_of.Goals as goal

pub returns-in-Some : goal.returns-in-Some
returns-in-Some c =
    let g = c.args.graph.now in
    let has = subst (λ (o : Option ℕ). IsRanked g.resources c.args.rank o) c.in-Some.is c.node_of_rank.ensures in
    c.name_at.ensures ∙ sym (ap (λ o. option_map_or (name_at g) o [])
    (node_with_found g.resources g.names c.is_valid.ensures.valid c.args.rank c.in-Some.node has))

pub returns-in-None : goal.returns-in-None
returns-in-None c =
    let g = c.args.graph.now in
    let none = subst (λ (o : Option ℕ). IsRanked g.resources c.args.rank o) c.in-None.is c.node_of_rank.ensures in
    sym (ap (λ o. option_map_or (name_at g) o [])
    (node_with_none g.resources g.names c.is_valid.ensures.valid c.args.rank none))
