use Rattle.std.proofs.Common.{rules, ap, Some}
use Rattle.std.proofs.lemmas.Fn.{filter_same}
use Rattle.json_whole.specs.Values.{items_view}
use Rattle.node_constraints.specs.Truth.{facts_of, each_text, has_property}
use Rattle.node_constraints.specs.Faults.{is_text, unless}
use Rattle.node_constraints.proofs.FaultLaws.{means_same}
use Rattle.node_constraints.proofs.narrowing.narrow_by_properties.Goals as goal

pub returns-clause-kept : goal.returns-clause-kept
returns-clause-kept c =
    filter_same _
    (λ v. each_text (has_property (facts_of c.args.graph.now v).properties) (items_view c.args.values.now)) _
    (λ x b f' k. search rules) c.args.nodes.now.items c.retain.new.self.items c.retain.ensures.filtered

pub returns-then-not-are_texts-clause-found : goal.returns-then-not-are_texts-clause-found
returns-then-not-are_texts-clause-found c = λ path.
    means_same path (Some path) (unless path (each_text is_text (items_view c.args.values.now))) c.fault_here.result
    (ap (unless path) c.if-not-are_texts.ensures) (c.fault_here.ensures path)
