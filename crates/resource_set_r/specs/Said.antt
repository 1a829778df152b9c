-- What R says of a job, in the words of its claims.
use Rattle.std.specs.Prelude.{ℕ, ◌↔◌, ◌||◌, List, IsTrue}
use Rattle.std.specs.List.{list_any, Contains}
use Rattle.flux_defs.specs.declared.vertices.Vertex.{Vertex}
use Rattle.flux_defs.specs.declared.claims.Claim.{Claim}
use Rattle.flux_defs.specs.Graph.{ResourceGraph, is_at_or_below}
use Rattle.flux_defs.specs.Jobs.{holds_over, is_on_or_below}
use Rattle.flux_defs.specs.ValidGraph.{IsValidGraph, HasType, HasId, HasRank}
use Rattle.resource_set_r.specs.Rows.{is_given_by, given, ranks_in, type_called, part_of, ids_among}

-- some claim is on v, or v lies at or below a held vertex
abbrev pub IsGiven : List Vertex → List Claim → ℕ → Type 0
IsGiven vertices claims v = IsTrue (list_any (λ c. is_given_by vertices c v) claims)

-- some claim is on v or below it, or v lies at or below a held vertex
abbrev pub IsShared : List Vertex → List Claim → ℕ → Type 0
IsShared vertices claims v = IsTrue (list_any (λ c. is_on_or_below vertices v c || holds_over vertices v c) claims)

-- the ranks of R are those of the nodes of which that is so
abbrev pub AreRanksOfClaims : Type 0
AreRanksOfClaims =
    (g : ResourceGraph) (names : List (List ℕ)) → IsValidGraph g names → (claims : List Claim) (rank : ℕ) →
    Contains (ranks_in g.vertices claims) rank ↔ ((n : ℕ) × HasRank g rank n × IsShared g.vertices claims n)

-- v is of the type called so, has the id, is in the node n of the rank, and is given
pub record IsChild (g : ResourceGraph) (claims : List Claim) (name : List ℕ) (rank id n v : ℕ) : Type 0 where
  pub node : HasRank g rank n
  pub inside : IsTrue (is_at_or_below g.vertices v n)
  pub of_type : HasType g name v
  pub has_id : HasId g id v
  pub is_given : IsGiven g.vertices claims v

-- the ids of a rank's children are those of such vertices
abbrev pub AreIdsOfClaims : Type 0
AreIdsOfClaims =
    (g : ResourceGraph) (names : List (List ℕ)) →
    IsValidGraph g names → (claims : List Claim) (name : List ℕ) (rank id : ℕ) →
    Contains (ids_among g.vertices (type_called g name) (part_of g.vertices (given g.vertices claims) rank)) id
    ↔ ((n : ℕ) × (v : ℕ) × IsChild g claims name rank id n v)
