-- Where more is available, more fits.
use Rattle.std.proofs.Common.{ℕ, ◌*◌, true, false, List, [], ◌∷◌}
use Rattle.flux_defs.specs.declared.vertices.Vertex.{Vertex}
use Rattle.flux_defs.specs.declared.claims.Claim.{Claim}
use Rattle.flux_defs.specs.declared.claims.Claim.TheVariants.{Take, Hold, Pass}
use Rattle.flux_defs.specs.declared.requests.Need.{Need, Vert', Pool, Spread', Row_of-Need, end_of-Need, more_of-Need}
use Rattle.flux_defs.specs.Graph.{Scope, Beneath}
use Rattle.flux_defs.specs.Needs.{amount_of}
use Rattle.flux_defs.specs.Fits.{Pick, Pieces, Group, Piece, FitsRow, Fits}

pub pieces_map : (piece other : ℕ → ℕ → List Claim → Type 0) →
    ((v q : ℕ) (claims : List Claim) → piece v q claims → other v q claims) →
    (ps : List Pick) (claims : List Claim) → Pieces piece ps claims → Pieces other ps claims
pieces_map piece other f [] claims g = g
pieces_map piece other f (p ∷ ps) claims g = (g.0, g.1, g.2, f p.0 p.1 g.0 g.3, pieces_map piece other f ps g.1 g.4)

group_map : (piece other : ℕ → ℕ → List Claim → Type 0) →
    ((v q : ℕ) (claims : List Claim) → piece v q claims → other v q claims) →
    (amount : ℕ) (claims : List Claim) → Group amount piece claims → Group amount other claims
group_map piece other f amount claims g = (g.0, g.1, g.2, g.3, pieces_map piece other f g.0 claims g.4)

module _ (vertices : List Vertex) (ok more : Claim → Type 0) (along : (c : Claim) → ok c → more c) where
  mutual
    pub piece_more : (scope : Scope) (need : Need) (v q : ℕ) (claims : List Claim) →
        Piece vertices ok scope need v q claims → Piece vertices more scope need v q claims
    piece_more scope (Vert' kind count true m needs) v q claims p =
        (p.0, p.1, p.2, (p.3.0, along (Hold v) p.3.1, (p.3.2.0, row_more 1 (Beneath v) needs p.3.2.0 p.3.2.1)))
    piece_more scope (Vert' kind count false m needs) v q claims p =
        (p.0, p.1, p.2, (p.3.0, p.3.1, along (Pass v) p.3.2, row_more 1 (Beneath v) needs p.3.0 p.3.3))
    piece_more scope (Pool kind quantity) v q claims p = (p.0, p.1, p.2, along (Take v q) p.3)
    piece_more scope (Spread' count m needs) v q claims p =
        (p.0, p.1, (p.2.0, p.2.1, along (Pass v) p.2.2, row_more q (Beneath v) needs p.2.0 p.2.3))

    row_more : {m : _} (k : ℕ) (scope : Scope) (row : Row_of-Need m) (claims : List Claim) →
        FitsRow vertices ok k scope row claims → FitsRow vertices more k scope row claims
    row_more k scope end_of-Need claims f = f
    row_more k scope (more_of-Need need rest) claims f = (
      f.0,
      f.1,
      f.2,
      group_map (Piece vertices ok scope need) (Piece vertices more scope need)
          (piece_more scope need) (k * amount_of need) f.0 f.3,
      row_more k scope rest f.1 f.4,
    )

  pub fits_more : (k : ℕ) (scope : Scope) (needs : List Need) (claims : List Claim) →
      Fits vertices ok k scope needs claims → Fits vertices more k scope needs claims
  fits_more k scope [] claims f = f
  fits_more k scope (need ∷ rest) claims f = (
    f.0,
    f.1,
    f.2,
    group_map (Piece vertices ok scope need) (Piece vertices more scope need) (piece_more scope need)
        (k * amount_of need) f.0 f.3,
    fits_more k scope rest f.1 f.4,
  )
