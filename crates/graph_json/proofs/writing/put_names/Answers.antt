use Rattle.std.proofs.Common.{◌≡◌, ap, subst, ◌∙◌, [], ◌∷◌, codes}
use Rattle.json.specs.Token.{key, string}
use Rattle.resource_graph.specs.NamedGraph.{path_text}
use Rattle.serde_json.specs.Data.{object, member, no_members, string as string_data}
use Rattle.json_written.specs.Texts.{readable}
use Rattle.json_written.specs.Tokens.{Adds, value_tokens}
use Rattle.json_written.proofs.WriterLaws.{and_then}
use Rattle.graph_json.proofs.writing.put_names.Goals as goal

pub returns : goal.returns
returns c =
    let base = subst (λ s. Adds c.args.writer.now c.put_text.new.writer
    (key (codes "basename") ∷ string s ∷ [])) c.base_text.ensures c.in_ok-put_text.ensures.ok in
    let name = subst (λ s. Adds c.put_number_or_none.new.writer c.put_text-2.new.writer
    (key (codes "name") ∷ string s ∷ [])) c.name_text.ensures c.in_ok-put_text-2.ensures.ok in
    let path : c.readable.result.now ≡ readable (path_text c.args.graph.now c.args.at) =
    c.readable.ensures ∙ ap readable (c.bytes.ensures ∙ c.in_ok-path.ensures) in
    let paths = subst (λ s. Adds c.put_text-2.new.writer c.put_containment.new.writer
    (key (codes "paths") ∷ value_tokens (object (member (codes "containment") (string_data s) no_members))))
    path c.in_ok-put_containment.ensures in
    and_then base (and_then c.in_ok-put_number_or_none.ensures (and_then name paths))
