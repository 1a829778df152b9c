use Rattle.std.proofs.Common.{rules, ◌≡◌, ◌∙◌, sym, ap, Some, None, false}
use Rattle.std.proofs.lemmas.Fn.{filter_same}
use Rattle.std.proofs.lemmas.List.Elements.{filter_agree}
use Rattle.std.specs.Option.{option_map_or}
use Rattle.json_whole.specs.Values.{items_view}
use Rattle.idset_text.specs.Idsets.{idset_of}
use Rattle.node_constraints.specs.Truth.{facts_of, some_text, is_ranked}
use Rattle.node_constraints.specs.Ranked.{is_in_some}
use Rattle.node_constraints.specs.Reading.{read_all}
use Rattle.node_constraints.proofs.TextLaws.{ranks_read, read_fine, unread_fault}
use Rattle.node_constraints.proofs.narrowing.narrow_by_ranks.Goals as goal

pub returns-in_default-clause-found : goal.returns-in_default-clause-found
returns-in_default-clause-found c = λ path.
    let none : read_all idset_of (items_view c.args.values.now) ≡ None = sym c.in_ok-sets.ensures ∙ c.in_default.is in
    unread_fault idset_of path (items_view c.args.values.now) none c.fault_here.result (c.fault_here.ensures path)

pub returns-clause-kept : goal.returns-clause-kept
returns-clause-kept c =
    let sets = c.in_ok-ranks.ranks.sets in
    let all : read_all idset_of (items_view c.args.values.now) ≡ Some sets
    = sym c.in_ok-sets.ensures ∙ (c.in-Some.is ∙ ap Some (sym c.in_ok-ranks.ensures)) in
    filter_same _ (λ v. option_map_or (is_in_some sets) (facts_of c.args.graph.now v).rank false) _
    (λ x b f' k. search rules) c.args.nodes.now.items c.retain.new.self.items c.retain.ensures.filtered
    ∙ filter_agree (λ v. option_map_or (is_in_some sets) (facts_of c.args.graph.now v).rank false)
    (λ v. some_text (is_ranked (facts_of c.args.graph.now v).rank) (items_view c.args.values.now))
    (λ v. sym (ranks_read (facts_of c.args.graph.now v).rank (items_view c.args.values.now) sets all))
    c.args.nodes.now.items

pub returns-clause-found : goal.returns-clause-found
returns-clause-found c = λ path.
    let all : read_all idset_of (items_view c.args.values.now) ≡ Some c.in-Some.sets = sym c.in_ok-sets.ensures
    ∙ c.in-Some.is in
    read_fine idset_of path (items_view c.args.values.now) c.in-Some.sets all
