-- What one vertex offers a need, how far a need can be filled, and the lowest-first group of one need.
use Rattle.std.specs.Prelude.{◌≡◌, ℕ, ◌+◌, ◌<◌, ◌≤◌, Bool, List, [], ◌++◌, MatchBool}
use Rattle.flux_defs.specs.declared.vertices.Vertex.{Vertex}
use Rattle.flux_defs.specs.declared.claims.Claim.{Claim}
use Rattle.flux_defs.specs.declared.requests.Need.{Need}
use Rattle.flux_defs.specs.Graph.{Scope, Beneath}
use Rattle.flux_defs.specs.Fits.{Pick, Pieces, Group, Piece, HeldPiece, SharedPiece, Fits}
use Rattle.flux_defs.specs.Lowest.{FillsFrom, CanServe, LowestPiece}

-- n is at most `most`, it can be had unless it is 0, and one more can't, unless it is all that is asked
pub record IsGreatest (can : ℕ → Type 0) (most n : ℕ) : Type 0 where
  pub within : n ≤ most
  pub can_be : 1 ≤ n → can n
  pub full : n < most → can (n + 1) → ⊥

-- q of at most `most` is offered, with these claims: as much as can be, and what is written for so much
pub record Offers (can : ℕ → Type 0) (piece : ℕ → List Claim → Type 0) (most q : ℕ) (claims : List Claim) : Type 0 where
  pub greatest : IsGreatest can most q
  pub nothing : q ≡ 0 → claims ≡ []
  pub written : 1 ≤ q → piece q claims

-- the new claims are the old ones and then some of which this holds
abbrev pub Extends : List Claim → List Claim → (List Claim → Type 0) → Type 0
Extends old new P = (more : List Claim) × (new ≡ old ++ more) × P more

-- over the vertices, and the claims that are available
module _ (vertices : List Vertex) (ok : Claim → Type 0) where
  -- some claims are a group of so much of the need
  abbrev pub SomeGroup : Scope → Need → ℕ → Type 0
  SomeGroup scope need amount = (claims : List Claim) × Group amount (Piece vertices ok scope need) claims

  -- some claims fit the needs scaled by k
  abbrev pub SomeFits : Scope → List Need → ℕ → Type 0
  SomeFits scope needs k = (claims : List Claim) × Fits vertices ok k scope needs claims

  -- the claims are the need's lowest-first group of so much
  abbrev pub LowestGroup : Scope → Need → ℕ → List Claim → Type 0
  LowestGroup scope need amount claims =
      (picks : List Pick) × FillsFrom (CanServe vertices ok scope need) 0 amount picks
      × Pieces (LowestPiece vertices ok need) picks claims

  -- the claims meet one of a need of vertices by vertex v, which is held or shared
  abbrev pub VertexClaims : Bool → List Need → ℕ → List Claim → Type 0
  VertexClaims hold needs v claims =
      MatchBool hold (HeldPiece vertices ok v (Fits vertices ok 1 (Beneath v) needs) claims)
      (SharedPiece vertices ok v (Fits vertices ok 1 (Beneath v) needs) claims)
