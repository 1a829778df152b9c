use Rattle.std.proofs.Common.{rules, tests, ◌∙◌}
use Rattle.std.proofs.lemmas.Iterator.{YieldsList-from_slice}
use Rattle.std.proofs.lemmas.Iterator.Search.{all_from_yields_List}
use Rattle.flux_defs.specs.declared.limits.TheConstants.{MOST_NAME_BYTES}
use Rattle.text_forms.specs.Names.{is_name}
use Rattle.json_fields.proofs.KeyLaws.{keys_as_came}
use Rattle.graph_json.proofs.nodes.keys_are_names.Goals as goal

pub returns : goal.returns
returns c =
    let members = c.args.members.now.items in
    all_from_yields_List (λ m. is_name MOST_NAME_BYTES m.0.now) _ _ c.all.result c.all.ensures.ran
    (YieldsList-from_slice members cc) (λ x b q k. search (rules, tests))
    ∙ keys_as_came (is_name MOST_NAME_BYTES) members
