use Rattle.std.proofs.Common.{arith, ap, sym, refl, ◌∙◌, ◌≡◌, ℕ, zero, suc, Option, Some, None, [], length, slice_get}
use Rattle.std.proofs.Common.{◌+◌, ◌<◌, ◌∷◌, ◌++◌, List, drop, append_assoc}
use Rattle.std.specs.Option.{option_map_or}
use Rattle.flux_defs.specs.declared.vertices.Vertex.{Vertex}
use Rattle.resource_graph.specs.NamedGraph.{NamedGraph}
use Rattle.graph_json.specs.WrittenGraph.{node_data, nodes_data}
use Rattle.graph_json.specs.WrittenTokens.{node_tokens}
use Rattle.json_written.specs.Tokens.{value_tokens, rest_tokens}
use Rattle.list_laws.proofs.Lists.{drop_here}
use Rattle.graph_json.proofs.writing.put_nodes.Goals as goal

past : {A : Type 0} (xs : List A) (k : ℕ) → k < length xs → slice_get xs k ≡ None → ⊥
past [] k within e = absurd (omega arith)
past (x ∷ xs) zero within e = cc
past (x ∷ xs) (suc k) within e = past xs k (omega arith) e

-- the tokens of one vertex, and then those of the others
one_node : (g : NamedGraph) (v : ℕ) (xs : List Vertex) → v < length xs
    → option_map_or (λ x. value_tokens (node_data g v x)) (slice_get xs v) []
    ++ rest_tokens (nodes_data g (v + 1) (drop (v + 1) xs)) ≡ rest_tokens (nodes_data g v (drop v xs))
one_node g v xs within = by (slice_get xs v) refl
  where
    here : (x : Vertex) → slice_get xs v ≡ Some x → value_tokens (node_data g v x)
        ++ rest_tokens (nodes_data g (v + 1) (drop (v + 1) xs)) ≡ rest_tokens (nodes_data g v (drop v xs))
    here x at =
        let split : drop v xs ≡ x ∷ drop (v + 1) xs = drop_here xs v x at in
        let next : v + 1 ≡ suc v = omega arith in
        let whole : value_tokens (node_data g v x) ++ rest_tokens (nodes_data g (suc v) (drop (v + 1) xs))
        ≡ rest_tokens (nodes_data g v (drop v xs)) = ap (λ ys. rest_tokens (nodes_data g v ys)) (sym split) in
        ap (λ n. value_tokens (node_data g v x) ++ rest_tokens (nodes_data g n (drop (v + 1) xs))) next ∙ whole

    by : (o : Option Vertex) → slice_get xs v ≡ o → option_map_or (λ x. value_tokens (node_data g v x)) o []
        ++ rest_tokens (nodes_data g (v + 1) (drop (v + 1) xs)) ≡ rest_tokens (nodes_data g v (drop v xs))
    by None e = absurd (past xs v within e)
    by (Some x) e = here x e

pub nodes-preserved : goal.nodes-preserved
nodes-preserved c =
    let g = c.args.graph.now in
    let at = c.nodes.at in
    let xs = g.resources.vertices in
    let rest = rest_tokens (nodes_data g (at + 1) (drop (at + 1) xs)) in
    let more = ap (λ ts. ts ++ rest) c.in_ok-put_node_at.ensures.tokens_are ∙ append_assoc c.nodes.writer.tokens
    (node_tokens g at) rest ∙ ap (λ ts. c.nodes.writer.tokens ++ ts) (one_node g at xs (omega arith)) in
    (more ∙ c.nodes.invariant.0, c.in_ok-put_node_at.ensures.same ∙ c.nodes.invariant.1)
