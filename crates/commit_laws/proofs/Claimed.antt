-- Claims that fit are available, and on vertices of the graph.
use Rattle.std.proofs.Common.{ℕ, ◌<◌, true, false, List, [], ◌∷◌, ◌≡◌, length, sym, subst}
use Rattle.std.specs.List.{AllByRecursion}
use Rattle.flux_defs.specs.declared.vertices.Vertex.{Vertex}
use Rattle.flux_defs.specs.declared.claims.Claim.{Claim}
use Rattle.flux_defs.specs.declared.claims.Claim.TheVariants.{Take, Hold}
use Rattle.flux_defs.specs.declared.requests.Need.{Need, Vert', Pool, Spread', Row_of-Need, end_of-Need, more_of-Need}
use Rattle.flux_defs.specs.Graph.{Scope, Beneath}
use Rattle.flux_defs.specs.Jobs.{vertex_of}
use Rattle.flux_defs.specs.Fits.{Pick, Pieces, Piece, FitsRow, Fits}
use Rattle.graph_laws.proofs.Containment.{in_graph}
use Rattle.list_laws.proofs.Lists.{all_append}

module _ (vertices : List Vertex) (ok : Claim → Type 0) where
  -- the claim is available, and on a vertex of the graph
  abbrev pub IsClaimed : Claim → Type 0
  IsClaimed c = ok c × (vertex_of c < length vertices)

  one : (c : Claim) (cs : List Claim) → cs ≡ c ∷ [] → IsClaimed c → AllByRecursion IsClaimed cs
  one c cs e h = subst (AllByRecursion IsClaimed) (sym e) (h, tt)

  pieces_claimed : (piece : ℕ → ℕ → List Claim → Type 0) →
      ((v q : ℕ) (cs : List Claim) → piece v q cs → AllByRecursion IsClaimed cs) →
      (ps : List Pick) (cs : List Claim) → Pieces piece ps cs → AllByRecursion IsClaimed cs
  pieces_claimed piece each [] cs g = subst (AllByRecursion IsClaimed) (sym g) tt
  pieces_claimed piece each (p ∷ ps) cs g =
      subst (AllByRecursion IsClaimed) (sym g.2)
      (all_append IsClaimed g.0 g.1 (each p.0 p.1 g.0 g.3) (pieces_claimed piece each ps g.1 g.4))

  mutual
    piece_claimed : (scope : Scope) (need : Need) (v q : ℕ) (cs : List Claim) →
        Piece vertices ok scope need v q cs → AllByRecursion IsClaimed cs
    piece_claimed scope (Vert' kind count true m needs) v q cs p =
        one (Hold v) cs p.3.0 (p.3.1, in_graph vertices scope v p.1)
    piece_claimed scope (Vert' kind count false m needs) v q cs p =
        subst (AllByRecursion IsClaimed) (sym p.3.1)
        ((p.3.2, in_graph vertices scope v p.1), row_claimed 1 (Beneath v) needs p.3.0 p.3.3)
    piece_claimed scope (Pool kind quantity) v q cs p = one (Take v q) cs p.2 (p.3, in_graph vertices scope v p.0)
    piece_claimed scope (Spread' count m needs) v q cs p =
        subst (AllByRecursion IsClaimed) (sym p.2.1)
        ((p.2.2, in_graph vertices scope v p.0), row_claimed q (Beneath v) needs p.2.0 p.2.3)

    row_claimed : {m : _} (k : ℕ) (scope : Scope) (row : Row_of-Need m) (cs : List Claim) →
        FitsRow vertices ok k scope row cs → AllByRecursion IsClaimed cs
    row_claimed k scope end_of-Need cs f = subst (AllByRecursion IsClaimed) (sym f) tt
    row_claimed k scope (more_of-Need need rest) cs f =
        subst (AllByRecursion IsClaimed) (sym f.2)
        (all_append IsClaimed f.0 f.1
        (pieces_claimed (Piece vertices ok scope need) (piece_claimed scope need) f.3.0 f.0 f.3.4)
        (row_claimed k scope rest f.1 f.4))

  pub fits_claimed : (k : ℕ) (scope : Scope) (needs : List Need) (claims : List Claim) →
      Fits vertices ok k scope needs claims → AllByRecursion IsClaimed claims
  fits_claimed k scope [] claims f = subst (AllByRecursion IsClaimed) (sym f) tt
  fits_claimed k scope (need ∷ rest) claims f =
      subst (AllByRecursion IsClaimed) (sym f.2)
      (all_append IsClaimed f.0 f.1
      (pieces_claimed (Piece vertices ok scope need) (piece_claimed scope need) f.3.0 f.0 f.3.4)
      (fits_claimed k scope rest f.1 f.4))
