use Rattle.std.proofs.Common.{rules, ◌≡◌, ◌∙◌, sym, ap, Some, None}
use Rattle.std.proofs.lemmas.Fn.{filter_same}
use Rattle.std.proofs.lemmas.List.Elements.{filter_agree}
use Rattle.std.specs.List.{list_any}
use Rattle.json_whole.specs.Values.{items_view}
use Rattle.idset_text.specs.Hostlists.{hostlist_of, names_of}
use Rattle.node_constraints.specs.Truth.{facts_of, some_text, is_among, is_listed}
use Rattle.node_constraints.specs.Reading.{read_all}
use Rattle.node_constraints.proofs.TextLaws.{hosts_read, read_fine, unread_fault}
use Rattle.node_constraints.proofs.narrowing.narrow_by_hosts.Goals as goal

pub returns-in_default-clause-found : goal.returns-in_default-clause-found
returns-in_default-clause-found c = λ path.
    let none : read_all hostlist_of (items_view c.args.values.now) ≡ None = sym c.in_ok-lists.ensures
    ∙ c.in_default.is in
    unread_fault hostlist_of path (items_view c.args.values.now) none c.fault_here.result (c.fault_here.ensures path)

pub returns-clause-kept : goal.returns-clause-kept
returns-clause-kept c =
    let lists = c.in_ok-listed.listed.lists in
    let all : read_all hostlist_of (items_view c.args.values.now) ≡ Some lists
    = sym c.in_ok-lists.ensures ∙ (c.in-Some.is ∙ ap Some (sym c.in_ok-listed.ensures)) in
    filter_same _ (λ v. list_any (λ hosts. is_among (names_of hosts) (facts_of c.args.graph.now v).name) lists) _
    (λ x b f' k. search rules) c.args.nodes.now.items c.retain.new.self.items c.retain.ensures.filtered
    ∙ filter_agree (λ v. list_any (λ hosts. is_among (names_of hosts) (facts_of c.args.graph.now v).name) lists)
    (λ v. some_text (is_listed (facts_of c.args.graph.now v).name) (items_view c.args.values.now))
    (λ v. sym (hosts_read (facts_of c.args.graph.now v).name (items_view c.args.values.now) lists all))
    c.args.nodes.now.items

pub returns-clause-found : goal.returns-clause-found
returns-clause-found c = λ path.
    let all : read_all hostlist_of (items_view c.args.values.now) ≡ Some c.in-Some.lists = sym c.in_ok-lists.ensures
    ∙ c.in-Some.is in
    read_fine hostlist_of path (items_view c.args.values.now) c.in-Some.lists all
