-- Which claims fit a list of needs (RFC 14): a relation on a finished list of claims, in any order of vertices.
use Rattle.std.specs.Prelude.{◌≡◌, ◌≢◌, ℕ, ◌+◌, ◌*◌, ◌≤◌, List, [], ◌∷◌, ◌++◌, MatchBool}
use Rattle.std.specs.List.{AllByRecursion}
use Rattle.flux_defs.specs.declared.vertices.Vertex.{Vertex}
use Rattle.flux_defs.specs.declared.claims.Claim.{Claim}
use Rattle.flux_defs.specs.declared.claims.Claim.TheVariants.{Take, Hold, Pass}
use Rattle.flux_defs.specs.declared.requests.Need.{Need, Vert', Pool, Spread', Row_of-Need, end_of-Need, more_of-Need}
use Rattle.flux_defs.specs.Graph.{Scope, Beneath, IsIn, HasKind, IsNode}
use Rattle.flux_defs.specs.Needs.{amount_of}

-- a vertex, and how much of a need it serves
abbrev pub Pick : Type 0
Pick = ℕ × ℕ

-- how much the picks serve together
abbrev pub served : List Pick → ℕ
served [] = 0
served (p ∷ ps) = p.1 + served ps

-- no pick is of this vertex
abbrev pub NoneFor : ℕ → List Pick → Type 0
NoneFor v picks = AllByRecursion (λ p. p.0 ≢ v) picks

-- the picks are of distinct vertices
abbrev pub AreDistinct : List Pick → Type 0
AreDistinct [] = Unit {0}
AreDistinct (p ∷ ps) = NoneFor p.0 ps × AreDistinct ps

-- the claims are one piece after another, one a pick
abbrev pub Pieces : (ℕ → ℕ → List Claim → Type 0) → List Pick → List Claim → Type 0
Pieces piece [] claims = claims ≡ []
Pieces piece (p ∷ ps) claims =
    (first : List Claim) × (rest : List Claim) × (claims ≡ first ++ rest) × piece p.0 p.1 first × Pieces piece ps rest

-- a group: pieces of distinct vertices, each of which serves at least 1, and which serve the amount together
abbrev pub Group : ℕ → (ℕ → ℕ → List Claim → Type 0) → List Claim → Type 0
Group amount piece claims =
    (picks : List Pick) × AreDistinct picks × AllByRecursion (λ p. 1 ≤ p.1) picks
    × (served picks ≡ amount) × Pieces piece picks claims

-- over the vertices, and the claims that are available
module _ (vertices : List Vertex) (ok : Claim → Type 0) where
  -- v is held, and some claims would meet the inner needs
  abbrev pub HeldPiece : ℕ → (List Claim → Type 0) → List Claim → Type 0
  HeldPiece v inner claims = (claims ≡ Hold v ∷ []) × ok (Hold v) × ((within : List Claim) × inner within)

  -- v is shared, and claims that meet the inner needs follow
  abbrev pub SharedPiece : ℕ → (List Claim → Type 0) → List Claim → Type 0
  SharedPiece v inner claims = (within : List Claim) × (claims ≡ Pass v ∷ within) × ok (Pass v) × inner within

  abbrev mutual
    -- The claims are a piece by which vertex v of the scope serves q of the need: one vertex, held or shared, with its
    -- inner needs below it; q units of a pool; q copies of a spread's needs, all below one node.
    pub Piece : Scope → Need → ℕ → ℕ → List Claim → Type 0
    Piece scope (Vert' kind count hold m needs) v q claims =
        (q ≡ 1) × IsIn vertices scope v × HasKind vertices kind v
        × MatchBool hold
        (HeldPiece v (FitsRow 1 (Beneath v) needs) claims) (SharedPiece v (FitsRow 1 (Beneath v) needs) claims)
    Piece scope (Pool kind quantity) v q claims =
        IsIn vertices scope v × HasKind vertices kind v × (claims ≡ Take v q ∷ []) × ok (Take v q)
    Piece scope (Spread' count m needs) v q claims =
        IsIn vertices scope v × IsNode vertices v × SharedPiece v (FitsRow q (Beneath v) needs) claims

    -- The claims fit the needs scaled by k in the scope: one group after another, one a need, in the needs' order.
    pub FitsRow : {m : _} → ℕ → Scope → Row_of-Need m → List Claim → Type 0
    FitsRow k scope end_of-Need claims = claims ≡ []
    FitsRow k scope (more_of-Need need rest) claims =
        (group : List Claim) × (others : List Claim) × (claims ≡ group ++ others)
        × Group (k * amount_of need) (Piece scope need) group × FitsRow k scope rest others

  -- the same of a list of needs
  abbrev pub Fits : ℕ → Scope → List Need → List Claim → Type 0
  Fits k scope [] claims = claims ≡ []
  Fits k scope (need ∷ rest) claims =
      (group : List Claim) × (others : List Claim) × (claims ≡ group ++ others)
      × Group (k * amount_of need) (Piece scope need) group × Fits k scope rest others
