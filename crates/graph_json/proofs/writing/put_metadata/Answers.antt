use Rattle.std.proofs.Common.{subst, [], ◌∷◌, map, codes}
use Rattle.json.specs.Token.{key, string}
use Rattle.serde_json.specs.Data.{object}
use Rattle.graph_json.specs.Nodes.{in_order}
use Rattle.graph_json.specs.WrittenGraph.{keys_object}
use Rattle.json_written.specs.Texts.{readable}
use Rattle.json_written.specs.Tokens.{Adds, value_tokens}
use Rattle.json_written.proofs.WriterLaws.{wrote, and_then}
use Rattle.graph_json.proofs.writing.put_metadata.Goals as goal

pub returns : goal.returns
returns c =
    let properties = subst (λ ps. Adds c.put_names.new.writer c.put_properties.new.writer
    (key (codes "properties") ∷ value_tokens (object (keys_object (in_order (map readable ps))))))
    c.properties_of.ensures c.in_ok-put_properties.ensures in
    let kind = subst (λ s. Adds c.put_number.new.writer c.put_text.new.writer
    (key (codes "type") ∷ string s ∷ [])) c.type_of.ensures c.in_ok-put_text.ensures.ok in
    let unit = subst (λ s. Adds c.put_text.new.writer c.put_text-2.new.writer
    (key (codes "unit") ∷ string s ∷ [])) c.unit_text.ensures c.in_ok-put_text-2.ensures.ok in
    and_then (wrote c.in_ok-begin_object.ensures)
    (and_then c.in_ok-put_names.ensures
    (and_then properties (and_then c.in_ok-put_number_or_none.ensures
    (and_then c.in_ok-put_number.ensures.ok (and_then kind (and_then unit (wrote c.in_ok-end_object.ensures)))))))
