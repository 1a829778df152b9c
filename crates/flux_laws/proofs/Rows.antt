-- A need's row of inner needs is its list of needs: each definition over rows agrees with its twin over lists.
use Rattle.std.proofs.Common.{◌≡◌, ℕ, ◌*◌, Bool, List, [], ◌∷◌, ◌++◌, MatchBool, refl, sym, ◌∙◌, ap, subst}
use Rattle.std.specs.List.{AllByRecursion}
use Rattle.flux_defs.specs.declared.vertices.Vertex.{Vertex}
use Rattle.flux_defs.specs.declared.claims.Claim.{Claim}
use Rattle.flux_defs.specs.declared.claims.Claim.TheVariants.{Hold}
use Rattle.flux_defs.specs.declared.requests.Need.{Need, Vert, Spread, Row_of-Need, end_of-Need, more_of-Need}
use Rattle.flux_defs.specs.declared.requests.Need.{items-the_row-Need, items_hidden-the_row-Need-0}
use Rattle.flux_defs.specs.declared.requests.Need.TheBlock.{hidden-the_row-Need-0}
use Rattle.flux_defs.specs.Graph.{Scope, Beneath, IsIn, HasKind, IsNode}
use Rattle.flux_defs.specs.Needs.{amount_of, AreApartKinds, AreApartKindsRow, IsSomeRow, HasNoSpread, HaveNoSpreadRow}
use Rattle.flux_defs.specs.Needs.{AreValidRow, AreValidNeeds}
use Rattle.flux_defs.specs.Fits.{Pick, Pieces, Group, Piece, FitsRow, Fits, HeldPiece, SharedPiece}
use Rattle.flux_defs.specs.Lowest.{FillsFrom, CanServe, FollowsPass, LowestPiece, LowestRow, Lowest}

module _ (vertices : List Vertex) (ok : Claim → Type 0) where
  fits_row : {n : _} (k : ℕ) (scope : Scope) (row : Row_of-Need n) (claims : List Claim) →
      FitsRow vertices ok k scope row claims ≡ Fits vertices ok k scope (items-the_row-Need _ row) claims
  fits_row k scope end_of-Need claims = refl
  fits_row k scope (more_of-Need need rest) claims = λ i.
      (group : List Claim) × (others : List Claim) × (claims ≡ group ++ others)
      × Group (k * amount_of need) (Piece vertices ok scope need) group × fits_row k scope rest others i

  pub fits_list : (needs : List Need) (k : ℕ) (scope : Scope) →
      (let row : List Claim → Type 0 = FitsRow vertices ok k scope
      (hidden-the_row-Need-0 needs) in row ≡ Fits vertices ok k scope needs)
  fits_list needs k scope = λ i claims.
      (fits_row k scope (hidden-the_row-Need-0 needs) claims
      ∙ ap (λ ns. Fits vertices ok k scope ns claims) (items_hidden-the_row-Need-0 needs)) i

  lowest_row : {n : _} (k : ℕ) (scope : Scope) (row : Row_of-Need n) (claims : List Claim) →
      LowestRow vertices ok k scope row claims ≡ Lowest vertices ok k scope (items-the_row-Need _ row) claims
  lowest_row k scope end_of-Need claims = refl
  lowest_row k scope (more_of-Need need rest) claims = λ i.
      (picks : List Pick) × (group : List Claim) × (others : List Claim) × (claims ≡ group ++ others)
      × FillsFrom (CanServe vertices ok scope need) 0 (k * amount_of need) picks
      × Pieces (LowestPiece vertices ok need) picks group
      × lowest_row k scope rest others i

  pub lowest_list : (needs : List Need) (k : ℕ) (scope : Scope) →
      (let row : List Claim → Type 0 = LowestRow vertices ok k scope
      (hidden-the_row-Need-0 needs) in row ≡ Lowest vertices ok k scope needs)
  lowest_list needs k scope = λ i claims.
      (lowest_row k scope (hidden-the_row-Need-0 needs) claims
      ∙ ap (λ ns. Lowest vertices ok k scope ns claims) (items_hidden-the_row-Need-0 needs)) i

  -- what vertex v of a need of vertices writes, by the list of inner needs
  abbrev pub VertPiece : Scope → ℕ → Bool → List Need → ℕ → ℕ → List Claim → Type 0
  VertPiece scope kind hold needs v q claims =
      (q ≡ 1) × IsIn vertices scope v × HasKind vertices kind v
      × MatchBool hold (HeldPiece vertices ok v (Fits vertices ok 1 (Beneath v) needs) claims)
      (SharedPiece vertices ok v (Fits vertices ok 1 (Beneath v) needs) claims)

  -- the same of a spread
  abbrev pub SpreadPiece : Scope → List Need → ℕ → ℕ → List Claim → Type 0
  SpreadPiece scope needs v q claims = IsIn vertices scope v × IsNode vertices v
      × SharedPiece vertices ok v (Fits vertices ok q (Beneath v) needs) claims

  pub piece_Vert : (scope : Scope) (kind count : ℕ) (hold : Bool) (needs : List Need) (v q : ℕ) (claims : List Claim) →
      Piece vertices ok scope (Vert kind count hold needs) v q claims ≡ VertPiece scope kind hold needs v q claims
  piece_Vert scope kind count hold needs v q claims =
      ap (λ (inner : List Claim → Type 0). (q ≡ 1) × IsIn vertices scope v × HasKind vertices kind v
      × MatchBool hold (HeldPiece vertices ok v inner claims)
      (SharedPiece vertices ok v inner claims)) (fits_list needs 1 (Beneath v))

  pub piece_Spread : (scope : Scope) (count : ℕ) (needs : List Need) (v q : ℕ) (claims : List Claim) →
      Piece vertices ok scope (Spread count needs) v q claims ≡ SpreadPiece scope needs v q claims
  piece_Spread scope count needs v q claims =
      ap (λ (inner : List Claim → Type 0). IsIn vertices scope v × IsNode vertices v
      × SharedPiece vertices ok v inner claims) (fits_list needs q (Beneath v))

  pub lowest_Vert : (kind count : ℕ) (hold : Bool) (needs : List Need) (v q : ℕ) (claims : List Claim) →
      LowestPiece vertices ok (Vert kind count hold needs) v q claims ≡ MatchBool hold
      (claims ≡ Hold v ∷ []) (FollowsPass vertices ok v (Lowest vertices ok 1 (Beneath v) needs) claims)
  lowest_Vert kind count hold needs v q claims =
      ap (λ (inner : List Claim → Type 0). MatchBool hold
      (claims ≡ Hold v ∷ []) (FollowsPass vertices ok v inner claims)) (lowest_list needs 1 (Beneath v))

  pub lowest_Spread : (count : ℕ) (needs : List Need) (v q : ℕ) (claims : List Claim) →
      LowestPiece vertices ok (Spread count needs) v q claims
      ≡ FollowsPass vertices ok v (Lowest vertices ok q (Beneath v) needs) claims
  lowest_Spread count needs v q claims =
      ap (λ (inner : List Claim → Type 0). FollowsPass vertices ok v inner claims) (lowest_list needs q (Beneath v))

module _ (vertices : List Vertex) where
  apart_row : {n : _} (need : Need) (row : Row_of-Need n) →
      AreApartKindsRow vertices need row → AllByRecursion (AreApartKinds vertices need) (items-the_row-Need _ row)
  apart_row need end_of-Need h = tt
  apart_row need (more_of-Need other rest) h = (h.0, apart_row need rest h.1)

  valid_row : {n : _} (row : Row_of-Need n) →
      AreValidRow vertices row → AreValidNeeds vertices (items-the_row-Need _ row)
  valid_row end_of-Need h = tt
  valid_row (more_of-Need need rest) h = (h.0, apart_row need rest h.1, valid_row rest h.2)

  row_apart : {n : _} (need : Need) (row : Row_of-Need n) →
      AllByRecursion (AreApartKinds vertices need) (items-the_row-Need _ row) → AreApartKindsRow vertices need row
  row_apart need end_of-Need h = tt
  row_apart need (more_of-Need other rest) h = (h.0, row_apart need rest h.1)

  row_valid : {n : _} (row : Row_of-Need n) →
      AreValidNeeds vertices (items-the_row-Need _ row) → AreValidRow vertices row
  row_valid end_of-Need h = tt
  row_valid (more_of-Need need rest) h = (h.0, row_apart need rest h.1, row_valid rest h.2)

  -- valid rows are valid lists
  pub valid_to_list : (needs : List Need) →
      AreValidRow vertices (hidden-the_row-Need-0 needs) → AreValidNeeds vertices needs
  valid_to_list needs h =
      subst (AreValidNeeds vertices) (items_hidden-the_row-Need-0 needs) (valid_row (hidden-the_row-Need-0 needs) h)

  pub valid_to_row : (needs : List Need) →
      AreValidNeeds vertices needs → AreValidRow vertices (hidden-the_row-Need-0 needs)
  valid_to_row needs h = row_valid
      (hidden-the_row-Need-0 needs) (subst (AreValidNeeds vertices) (sym (items_hidden-the_row-Need-0 needs)) h)

no_spread_items : {n : _} (row : Row_of-Need n) →
    HaveNoSpreadRow row → AllByRecursion HasNoSpread (items-the_row-Need _ row)
no_spread_items end_of-Need h = tt
no_spread_items (more_of-Need need rest) h = (h.0, no_spread_items rest h.1)

no_spread_row : {n : _} (row : Row_of-Need n) →
    AllByRecursion HasNoSpread (items-the_row-Need _ row) → HaveNoSpreadRow row
no_spread_row end_of-Need h = tt
no_spread_row (more_of-Need need rest) h = (h.0, no_spread_row rest h.1)

pub no_spread_to_list : (needs : List Need) →
    HaveNoSpreadRow (hidden-the_row-Need-0 needs) → AllByRecursion HasNoSpread needs
no_spread_to_list needs h = subst
    (AllByRecursion HasNoSpread) (items_hidden-the_row-Need-0 needs) (no_spread_items (hidden-the_row-Need-0 needs) h)

pub no_spread_to_row : (needs : List Need) →
    AllByRecursion HasNoSpread needs → HaveNoSpreadRow (hidden-the_row-Need-0 needs)
no_spread_to_row needs h = no_spread_row
    (hidden-the_row-Need-0 needs) (subst (AllByRecursion HasNoSpread) (sym (items_hidden-the_row-Need-0 needs)) h)

some_row : {n : _} (row : Row_of-Need n) →
    (need : Need) (rest : List Need) → items-the_row-Need _ row ≡ need ∷ rest → IsSomeRow row
some_row end_of-Need need rest e = absurd (cc)
some_row (more_of-Need n row) need rest e = tt

pub some_to_row : (need : Need) (rest : List Need) → IsSomeRow (hidden-the_row-Need-0 (need ∷ rest))
some_to_row need rest =
    some_row (hidden-the_row-Need-0 (need ∷ rest)) need rest (items_hidden-the_row-Need-0 (need ∷ rest))
