-- Claims that fit are on vertices of the graph.
use Rattle.std.proofs.Common.{ℕ, ◌<◌, true, false, List, [], ◌∷◌, length, sym, ap, subst}
use Rattle.std.specs.List.{AllByRecursion}
use mathlib.Core.Path.{transport⁻¹}
use Rattle.flux_defs.specs.declared.vertices.Vertex.{Vertex}
use Rattle.flux_defs.specs.declared.claims.Claim.{Claim}
use Rattle.flux_defs.specs.declared.requests.Need.{Need, Vert', Pool, Spread', Row_of-Need, end_of-Need, more_of-Need}
use Rattle.flux_defs.specs.declared.requests.Need.TheBlock.{hidden-the_row-Need-0}
use Rattle.flux_defs.specs.Graph.{Scope, Beneath}
use Rattle.flux_defs.specs.Jobs.{vertex_of}
use Rattle.flux_defs.specs.Fits.{Pick, Pieces, Piece, FitsRow, Fits}
use Rattle.flux_laws.proofs.Rows.{fits_list}
use Rattle.list_laws.proofs.Lists.{all_append}
use Rattle.graph_laws.proofs.Containment.{in_graph}

module _ (vertices : List Vertex) (ok : Claim → Type 0) where
  abbrev IsOn : Claim → Type 0
  IsOn c = vertex_of c < length vertices

  pieces_on : (piece : ℕ → ℕ → List Claim → Type 0) →
      ((v q : ℕ) (cs : List Claim) → piece v q cs → AllByRecursion IsOn cs) →
      (ps : List Pick) (cs : List Claim) → Pieces piece ps cs → AllByRecursion IsOn cs
  pieces_on piece each [] cs g = subst (AllByRecursion IsOn) (sym g) tt
  pieces_on piece each (p ∷ ps) cs g = subst (AllByRecursion IsOn) (sym g.2)
      (all_append IsOn g.0 g.1 (each p.0 p.1 g.0 g.3) (pieces_on piece each ps g.1 g.4))

  mutual
    piece_on : (scope : Scope) (need : Need) (v q : ℕ) (cs : List Claim) → Piece vertices ok scope need v q cs →
        AllByRecursion IsOn cs
    piece_on scope (Vert' kind count true m needs) v q cs p = subst (AllByRecursion IsOn) (sym p.3.0)
        (in_graph vertices scope v p.1, tt)
    piece_on scope (Vert' kind count false m needs) v q cs p = subst (AllByRecursion IsOn) (sym p.3.1)
        (in_graph vertices scope v p.1, row_on 1 (Beneath v) needs p.3.0 p.3.3)
    piece_on scope (Pool kind quantity) v q cs p =
        subst (AllByRecursion IsOn) (sym p.2) (in_graph vertices scope v p.0, tt)
    piece_on scope (Spread' count m needs) v q cs p = subst (AllByRecursion IsOn) (sym p.2.1)
        (in_graph vertices scope v p.0, row_on q (Beneath v) needs p.2.0 p.2.3)

    row_on : {m : _} (k : ℕ) (scope : Scope) (row : Row_of-Need m) (cs : List Claim) →
        FitsRow vertices ok k scope row cs → AllByRecursion IsOn cs
    row_on k scope end_of-Need cs f = subst (AllByRecursion IsOn) (sym f) tt
    row_on k scope (more_of-Need need rest) cs f =
        subst (AllByRecursion IsOn) (sym f.2) (all_append IsOn f.0 f.1
        (pieces_on (Piece vertices ok scope need) (piece_on scope need) f.3.0 f.0 f.3.4)
        (row_on k scope rest f.1 f.4))

  pub fits_on : (k : ℕ) (scope : Scope) (needs : List Need) (claims : List Claim) →
      Fits vertices ok k scope needs claims → AllByRecursion (λ c. vertex_of c < length vertices) claims
  fits_on k scope needs claims fit =
      row_on k scope (hidden-the_row-Need-0 needs) claims
      (transport⁻¹ (ap (λ (h : List Claim → Type 0). h claims) (fits_list vertices ok needs k scope)) fit)
