use Rattle.std.proofs.Common.{◌≡◌, ◌∙◌, sym, ap, map, [], true≢false}
use Rattle.std.proofs.lemmas.Result.{IfOk-weaker}
use Rattle.idset_text.specs.Hostlists.{names_of}
use Rattle.graph_from_r.specs.declared.places.Place.{Place}
use Rattle.graph_from_r.specs.Nodes.{names_for}
use Rattle.graph_from_r.proofs.Steps.{given_names, plain_are}
use Rattle.graph_from_r.proofs.nodes.names_for.Goals as goal

pub returns-then-is_empty : goal.returns-then-is_empty
returns-then-is_empty c =
    let ranks = map (λ (p : Place). p.rank) c.args.places.now in
    let hosts : c.in_ok-names.names ≡ names_of c.args.set.now.hosts =
    c.in_ok-names.ensures ∙ ap names_of c.items.ensures in
    let none : names_of c.args.set.now.hosts ≡ [] = sym hosts ∙ c.is_empty.ensures.0 c.if-is_empty.true in
    IfOk-weaker c.plain_names.result _ _
    (λ names is. is ∙ (plain_are c.args.places.now ∙ ap (names_for ranks) (sym none))) c.plain_names.ensures

pub returns : goal.returns
returns c =
    let ranks = map (λ (p : Place). p.rank) c.args.places.now in
    let hosts : c.in_ok-names.names ≡ names_of c.args.set.now.hosts =
    c.in_ok-names.ensures ∙ ap names_of c.items.ensures in
    hosts ∙ given_names ranks (names_of c.args.set.now.hosts) (λ none. true≢false (sym
    (c.is_empty.ensures.1 (hosts ∙ none)) ∙ c.if-is_empty.false))
