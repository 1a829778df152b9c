use Rattle.std.proofs.Common.{rules, tests, ◌∙◌}
use Rattle.std.proofs.lemmas.Iterator.{YieldsList-from_slice}
use Rattle.std.proofs.lemmas.Iterator.Search.{all_from_yields_List}
use Rattle.jobspec_v1.specs.Requests.{is_vertex_key}
use Rattle.json_fields.proofs.KeyLaws.{keys_as_came}
use Rattle.jobspec_v1.proofs.headers.has_own_keys.Goals as goal

pub returns : goal.returns
returns c =
    all_from_yields_List (λ m. is_vertex_key m.0.now) _ _ c.all.result c.all.ensures.ran
    (YieldsList-from_slice c.args.members.now.items cc) (λ x b q k. search (rules, tests))
    ∙ keys_as_came is_vertex_key c.args.members.now.items
