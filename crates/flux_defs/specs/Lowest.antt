-- Lowest-first claims: stated by which vertices can serve, over any fit. (The policy is this project's.)
use Rattle.std.specs.Prelude.{◌≡◌, ℕ, ◌+◌, ◌-◌, ◌*◌, ◌<◌, ◌≤◌, List, [], ◌∷◌, ◌++◌, MatchBool}
use Rattle.flux_defs.specs.declared.vertices.Vertex.{Vertex}
use Rattle.flux_defs.specs.declared.claims.Claim.{Claim}
use Rattle.flux_defs.specs.declared.claims.Claim.TheVariants.{Take, Hold, Pass}
use Rattle.flux_defs.specs.declared.requests.Need.{Need, Vert', Pool, Spread', Row_of-Need, end_of-Need, more_of-Need}
use Rattle.flux_defs.specs.Graph.{Scope, Beneath}
use Rattle.flux_defs.specs.Needs.{amount_of}
use Rattle.flux_defs.specs.Fits.{Pick, Pieces, Piece}

-- The picks fill what is missing from vertex `low` on, lowest first: no vertex before the first pick can serve even 1;
-- the first pick serves all it can, or all that is missing; and the others fill the rest from the next vertex on.
abbrev pub FillsFrom : (ℕ → ℕ → Type 0) → ℕ → ℕ → List Pick → Type 0
FillsFrom can low missing [] = missing ≡ 0
FillsFrom can low missing (p ∷ ps) =
    (low ≤ p.0) × ((u : ℕ) → low ≤ u → u < p.0 → can u 1 → ⊥)
    × (1 ≤ p.1) × (p.1 ≤ missing) × can p.0 p.1 × (p.1 < missing → can p.0 (p.1 + 1) → ⊥)
    × FillsFrom can (p.0 + 1) (missing - p.1) ps

-- over the vertices, and the claims that are available
module _ (vertices : List Vertex) (ok : Claim → Type 0) where
  -- vertex v of the scope can serve q of the need: some claims are a piece by which it does
  abbrev pub CanServe : Scope → Need → ℕ → ℕ → Type 0
  CanServe scope need v q = (claims : List Claim) × Piece vertices ok scope need v q claims

  -- a shared vertex's claims: its pass, and then those within it
  abbrev pub FollowsPass : ℕ → (List Claim → Type 0) → List Claim → Type 0
  FollowsPass v inner claims = (within : List Claim) × (claims ≡ Pass v ∷ within) × inner within

  abbrev mutual
    -- what vertex v writes where it serves q of the need: `Hold` alone, or `Pass` and the inner needs' lowest-first
    -- claims; a take of q; or `Pass` and the lowest-first claims of q copies
    pub LowestPiece : Need → ℕ → ℕ → List Claim → Type 0
    LowestPiece (Vert' kind count hold m needs) v q claims =
        MatchBool hold (claims ≡ Hold v ∷ []) (FollowsPass v (LowestRow 1 (Beneath v) needs) claims)
    LowestPiece (Pool kind quantity) v q claims = claims ≡ Take v q ∷ []
    LowestPiece (Spread' count m needs) v q claims = FollowsPass v (LowestRow q (Beneath v) needs) claims

    -- The lowest-first claims of the needs scaled by k in the scope: need by need, the picks that fill its amount from
    -- the first vertex on, and what they write.
    pub LowestRow : {m : _} → ℕ → Scope → Row_of-Need m → List Claim → Type 0
    LowestRow k scope end_of-Need claims = claims ≡ []
    LowestRow k scope (more_of-Need need rest) claims =
        (picks : List Pick) × (group : List Claim) × (others : List Claim) × (claims ≡ group ++ others)
        × FillsFrom (CanServe scope need) 0 (k * amount_of need) picks × Pieces (LowestPiece need) picks group
        × LowestRow k scope rest others

  -- the same of a list of needs
  abbrev pub Lowest : ℕ → Scope → List Need → List Claim → Type 0
  Lowest k scope [] claims = claims ≡ []
  Lowest k scope (need ∷ rest) claims =
      (picks : List Pick) × (group : List Claim) × (others : List Claim) × (claims ≡ group ++ others)
      × FillsFrom (CanServe scope need) 0 (k * amount_of need) picks × Pieces (LowestPiece need) picks group
      × Lowest k scope rest others
