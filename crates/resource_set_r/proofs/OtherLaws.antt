-- Claims on vertices of other types.
use Rattle.std.proofs.Common.{◌≡◌, ℕ, ◌<◌, true, List, [], ◌∷◌, ◌++◌, length, Option, All, refl}
use Rattle.std.specs.List.{filter}
use Rattle.std.proofs.lemmas.Bool.{and_parts, ltb-true}
use Rattle.std.proofs.lemmas.List.Elements.{All-weaker, filter_passes}
use Rattle.flux_defs.specs.declared.vertices.Vertex.{Vertex}
use Rattle.flux_defs.specs.declared.claims.Claim.{Claim}
use Rattle.flux_defs.specs.Jobs.{vertex_of}
use Rattle.serde_json.specs.Data.{Members}
use Rattle.resource_graph.specs.NamedGraph.{NamedGraph}
use Rattle.json_written.specs.Tokens.{member_tokens}
use Rattle.resource_set_r.specs.Rows.{is_other_than}
use Rattle.resource_set_r.specs.WrittenR.{with_scheduling}
use Rattle.resource_set_r.specs.WrittenRTokens.{scheduling_tokens}

-- they are on vertices of the graph
pub others_within : (vertices : List Vertex) (node core gpu : Option ℕ) (claims : List Claim) →
    All (λ c. vertex_of c < length vertices) (filter (is_other_than vertices node core gpu) claims)
others_within vertices node core gpu claims =
    let test = is_other_than vertices node core gpu in
    All-weaker (λ c. test c ≡ true) (λ c. vertex_of c < length vertices) (λ c h.
    ltb-true (vertex_of c) (length vertices) (and_parts _ _ h).0) (filter test claims) (filter_passes test claims)

-- the tokens of an object's members, the first of which may be left out
pub scheduling_split : (g : NamedGraph) (claims : List Claim) (rest : Members) →
    member_tokens (with_scheduling g claims rest) ≡ scheduling_tokens g claims ++ member_tokens rest
scheduling_split g [] rest = refl
scheduling_split g (c ∷ cs) rest = refl
