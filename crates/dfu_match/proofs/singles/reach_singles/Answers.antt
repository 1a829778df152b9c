use Rattle.std.proofs.Common.{◌≡◌, min, arith}
use Rattle.flux_defs.specs.declared.claims.Claim.{Claim}
use Rattle.flux_laws.proofs.Takes.{takes_less}
use Rattle.resource_graph.specs.Tables.{kind_count}
use Rattle.dfu_match.specs.Searches.{open_to, scope_of}
use Rattle.dfu_match.proofs.SingleLaws.{count_few, greatest_count}
use Rattle.dfu_match.proofs.singles.reach_singles.Goals as goal

pub returns-clause-greatest : goal.returns-clause-greatest
returns-clause-greatest g c = λ present stands.
    let vs = c.args.s.now.graph.now.resources.vertices in
    let ok : Claim → Type 0 = open_to vs present c.args.s.now.barred.now c.args.s.now.window in
    let from = c.span_of-span.result.from in
    let to = c.span_of-span.result.to in
    let few = count_few vs c.args.kind from to in
    let least = c.min-few.ensures in
    let all = c.from.ensures in
    let counted = c.count_of_kind.ensures in
    let same = c.from-2.ensures in
    let is : c.from-2.result ≡ min c.args.most (kind_count vs c.args.kind from to) =
    omega (arith, few, least, all, counted, same, c.span_of-span.type_inv) in
    rw is (greatest_count vs ok (takes_less _ _) (scope_of c.args.scope) c.args.need.now c.args.kind from to
    c.args.most c.requires.of_kind c.span_of-span.ensures.covers c.span_of-span.ensures.within
    (c.requires.singles present stands))
