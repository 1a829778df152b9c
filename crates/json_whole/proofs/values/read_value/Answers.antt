use Rattle.std.proofs.Common.{◌≡◌, IsUtf8, rules}
use Rattle.json_whole.proofs.Reading.{no_text, no_tree, read_of_tree, read-no_float}
use Rattle.json_whole.proofs.values.read_value.Goals as goal

pub returns-in_default-clause-not_json : goal.returns-in_default-clause-not_json
returns-in_default-clause-not_json c =
    λ _. no_text c.args.text.now c.plain.result.now c.plain.ensures c.in_default.ensures.cases.0

pub returns-clause-value : goal.returns-clause-value
returns-clause-value c =
    let same : c.in-Ok.plain.now ≡ c.plain.result.now = search rules in
    let utf8 : IsUtf8 c.in-Ok.plain.now = search rules in
    read_of_tree c.args.text.now c.plain.result.now c.plain.ensures c.read_tree.result (rw same at utf8)
    (rw same at c.read_tree.ensures.tree)

pub returns-clause-whole : goal.returns-clause-whole
returns-clause-whole c = read-no_float c.read_tree.result

pub returns-clause-not_json : goal.returns-clause-not_json
returns-clause-not_json c =
    let same : c.in-Ok.plain.now ≡ c.plain.result.now = search rules in
    let utf8 : IsUtf8 c.in-Ok.plain.now = search rules in
    λ fault. no_tree c.args.text.now c.plain.result.now c.plain.ensures (rw same at utf8)
    (rw same at (c.read_tree.ensures.not_json fault))
