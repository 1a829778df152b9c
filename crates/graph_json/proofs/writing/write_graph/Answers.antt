use Rattle.std.proofs.Common.{ap, ◌∙◌, ◌++◌}
use Rattle.json.specs.Print.{print}
use Rattle.serde_json.proofs.Texts.{print-outline}
use Rattle.graph_json.specs.WrittenGraph.{lists_data, graph_data, graph_text}
use Rattle.json_written.specs.Tokens.{Adds, value_tokens}
use Rattle.json_written.proofs.WriterLaws.{wrote, and_then}
use Rattle.graph_json.proofs.writing.write_graph.Goals as goal

pub returns : goal.returns
unfolding graph_text
returns c =
    let g = c.args.graph.now in
    let inner : Adds c.key.new.self c.end_object.new.self (value_tokens (lists_data g)) =
    and_then (wrote c.in_ok-begin_object-2.ensures) (and_then
    (wrote c.in_ok-key-2.ensures) (and_then (wrote c.in_ok-begin_array.ensures) (and_then c.in_ok-put_edges.ensures
    (and_then (wrote c.in_ok-key-3.ensures) (and_then (wrote c.in_ok-begin_array-2.ensures)
    (and_then c.in_ok-put_nodes.ensures (wrote c.in_ok-end_object.ensures))))))) in
    let all : Adds c.new-writer.result c.end_object-2.new.self (value_tokens (graph_data g)) =
    and_then (wrote c.in_ok-begin_object.ensures)
    (and_then (wrote c.in_ok-key.ensures) (and_then inner (wrote c.in_ok-end_object-2.ensures))) in
    let tokens = all.tokens_are ∙ ap (λ ts. ts ++ value_tokens (graph_data g)) c.new-writer.ensures.tokens in
    let before = all.same ∙ c.new-writer.ensures.before ∙ c.new.ensures.items in
    c.of_vec.ensures ∙ c.into_inner.ensures.items
    ∙ ap (λ b. b ++ print c.end_object-2.new.self.tokens) before ∙ ap print tokens ∙ print-outline (graph_data g)
