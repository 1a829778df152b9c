-- Needs of a request (RFC 14), scaling, and which needs are valid.
-- The inner needs of a need appear here as a row (`end_of-Need`, `more_of-Need`), which is a list of needs within a
-- need.
use Rattle.std.specs.Prelude.{◌≡◌, ℕ, suc, ◌*◌, ◌≤◌, true, false, List, [], ◌∷◌, map, Option, Some, None, MatchOption}
use Rattle.std.specs.List.{AllByRecursion}
use Rattle.flux_defs.specs.declared.vertices.Vertex.{Vertex}
use Rattle.flux_defs.specs.declared.requests.Need.{Need, Vert', Pool, Spread', Row_of-Need, end_of-Need, more_of-Need}
use Rattle.flux_defs.specs.declared.requests.Ask.{Ask}
use Rattle.flux_defs.specs.Graph.{HasKind, IsNode, Contains, is_pool_kind}

-- the count or the quantity of a need
abbrev pub amount_of : Need → ℕ
amount_of (Vert' kind count hold m needs) = count
amount_of (Pool kind quantity) = quantity
amount_of (Spread' count m needs) = count

-- a need scaled by k: its count or quantity k times, its inner needs as they are
abbrev pub scaled_need : ℕ → Need → Need
scaled_need k (Vert' kind count hold m needs) = Vert' kind (k * count) hold m needs
scaled_need k (Pool kind quantity) = Pool kind (k * quantity)
scaled_need k (Spread' count m needs) = Spread' (k * count) m needs

-- a list of needs scaled by k
abbrev pub scaled : ℕ → List Need → List Need
scaled k needs = map (scaled_need k) needs

-- the kind of a need; a spread, which is of nodes, names none
abbrev pub kind_of : Need → Option ℕ
kind_of (Vert' kind count hold m needs) = Some kind
kind_of (Pool kind quantity) = Some kind
kind_of (Spread' count m needs) = None

-- v is of the need's kind; a spread has the kind of nodes
abbrev pub IsOfNeed : List Vertex → Need → ℕ → Type 0
IsOfNeed vertices need v = MatchOption (kind_of need) (IsNode vertices v) (λ kind. HasKind vertices kind v)

-- this kind is that of nodes
abbrev pub IsNodeKind : List Vertex → ℕ → Type 0
IsNodeKind vertices kind = (v : ℕ) × IsNode vertices v × HasKind vertices kind v

-- the need has this kind; a spread has that of nodes
abbrev pub HasNeedKind : List Vertex → Need → ℕ → Type 0
HasNeedKind vertices need k = MatchOption (kind_of need) (IsNodeKind vertices k) (λ kind. kind ≡ k)

-- the need is a spread
abbrev pub IsSpread : Need → Type 0
IsSpread (Vert' kind count hold m needs) = ⊥
IsSpread (Pool kind quantity) = ⊥
IsSpread (Spread' count m needs) = Unit {0}

-- Two siblings are well apart: they have no kind in common, and neither's kind contains the other's in the graph.
pub record AreApartKinds (vertices : List Vertex) (a b : Need) : Type 0 where
  pub spreads : IsSpread a → IsSpread b → ⊥
  pub kinds : (k : ℕ) → HasNeedKind vertices a k → HasNeedKind vertices b k → ⊥
  pub nests : Contains vertices (IsOfNeed vertices a) (IsOfNeed vertices b) → ⊥
  pub nested : Contains vertices (IsOfNeed vertices b) (IsOfNeed vertices a) → ⊥

-- the need is well apart from each need of a row
abbrev pub AreApartKindsRow : List Vertex → Need → {m : _} → Row_of-Need m → Type 0
AreApartKindsRow vertices a end_of-Need = Unit {0}
AreApartKindsRow vertices a (more_of-Need b rest) = AreApartKinds vertices a b × AreApartKindsRow vertices a rest

-- the row has at least one need
abbrev pub IsSomeRow : {m : _} → Row_of-Need m → Type 0
IsSomeRow end_of-Need = ⊥
IsSomeRow (more_of-Need need rest) = Unit {0}

abbrev mutual
  -- the need holds no spread, at any depth
  pub HasNoSpread : Need → Type 0
  HasNoSpread (Vert' kind count hold m needs) = HaveNoSpreadRow needs
  HasNoSpread (Pool kind quantity) = Unit {0}
  HasNoSpread (Spread' count m needs) = ⊥

  -- no need of the row holds a spread, at any depth
  pub HaveNoSpreadRow : {m : _} → Row_of-Need m → Type 0
  HaveNoSpreadRow end_of-Need = Unit {0}
  HaveNoSpreadRow (more_of-Need need rest) = HasNoSpread need × HaveNoSpreadRow rest

abbrev mutual
  -- A valid need: its count or quantity is at least 1; a pool need is of a pool type and a vertex need of none;
  -- a spread's needs are some and hold no spread; and inner needs are valid.
  pub IsValidNeed : List Vertex → Need → Type 0
  IsValidNeed vertices (Vert' kind count hold m needs) =
      (1 ≤ count) × (is_pool_kind vertices kind ≡ false) × AreValidRow vertices needs
  IsValidNeed vertices (Pool kind quantity) = (1 ≤ quantity) × (is_pool_kind vertices kind ≡ true)
  IsValidNeed vertices (Spread' count m needs) =
      (1 ≤ count) × IsSomeRow needs × HaveNoSpreadRow needs × AreValidRow vertices needs

  -- valid needs: each is valid, and any two are well apart
  pub AreValidRow : List Vertex → {m : _} → Row_of-Need m → Type 0
  AreValidRow vertices end_of-Need = Unit {0}
  AreValidRow vertices (more_of-Need need rest) =
      IsValidNeed vertices need × AreApartKindsRow vertices need rest × AreValidRow vertices rest

-- the same of a list of needs
abbrev pub AreValidNeeds : List Vertex → List Need → Type 0
AreValidNeeds vertices [] = Unit {0}
AreValidNeeds vertices (need ∷ rest) =
    IsValidNeed vertices need × AllByRecursion (AreApartKinds vertices need) rest × AreValidNeeds vertices rest

-- the numbers rise, each above the one before, from a least one on
abbrev pub AreRisingFrom : ℕ → List ℕ → Type 0
AreRisingFrom low [] = Unit {0}
AreRisingFrom low (v ∷ vs) = (low ≤ v) × AreRisingFrom (suc v) vs

-- an ask is proper for the graph: its needs are valid, and it bars nodes of the graph, in rising order
pub record IsProperAsk (vertices : List Vertex) (ask : Ask) : Type 0 where
  pub needs : AreValidNeeds vertices ask.needs
  pub rising : AreRisingFrom 0 ask.barred
  pub nodes : AllByRecursion (IsNode vertices) ask.barred
