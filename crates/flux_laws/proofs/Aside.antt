-- Claims under disjoint vertices are aside of each other.
use Rattle.std.proofs.Common.{◌≡◌, ◌≢◌, ℕ, zero, suc, ◌<◌, List, [], ◌∷◌, Some, slice_get, inl, inr, ap, subst, arith}
use Rattle.std.proofs.Common.{IsTrue}
use mathlib.Core.Path.{transport⁻¹}
use Rattle.std.proofs.lemmas.Bool.{cases_lt}
use Rattle.flux_defs.specs.declared.vertices.Vertex.{Vertex}
use Rattle.flux_defs.specs.declared.claims.Claim.{Claim}
use Rattle.flux_defs.specs.declared.requests.Need.{Need}
use Rattle.flux_defs.specs.declared.requests.Need.TheBlock.{hidden-the_row-Need-0}
use Rattle.flux_defs.specs.Graph.{ResourceGraph, Scope, is_at_or_below}
use Rattle.flux_defs.specs.ValidGraph.{IsValidGraph}
use Rattle.flux_defs.specs.Needs.{IsOfNeed, AreApartKinds, IsValidNeed, AreValidNeeds}
use Rattle.flux_defs.specs.Jobs.{vertex_of}
use Rattle.flux_defs.specs.Fits.{Fits, Group, Piece}
use Rattle.flux_defs.specs.Sound.{AreAllSeparate}
use Rattle.graph_laws.proofs.Containment.{ParentsFirst, below_trans}
use Rattle.graph_laws.proofs.Preorder.{parents_first}
use Rattle.flux_laws.specs.Laws.{AreAside}
use Rattle.flux_laws.proofs.Groups as groups
use Rattle.flux_laws.proofs.Groups.{NoneNested}
use Rattle.flux_laws.proofs.Valid.{none_nested}
use Rattle.flux_laws.proofs.Rows.{fits_list, valid_to_row}
use Rattle.list_laws.proofs.Lists.{all_at, all_contained}

module _ (vertices : List Vertex) (first : ParentsFirst vertices) (unnested : NoneNested vertices) where
  aside : (a b : ℕ) (c d : Claim) → groups.AreDisjoint vertices first unnested a b →
      groups.Under vertices first unnested a c → groups.Under vertices first unnested b d →
      (IsTrue (is_at_or_below vertices (vertex_of c) (vertex_of d)) → ⊥)
      × (IsTrue (is_at_or_below vertices (vertex_of d) (vertex_of c)) → ⊥)
  aside a b c d apart hc hd = (
    λ h. apart (vertex_of c) hc (hc.0, below_trans vertices first (vertex_of c) (vertex_of d) b hc.0 h hd.1),
    λ h. apart (vertex_of d) (hd.0, below_trans vertices first (vertex_of d) (vertex_of c) a hd.0 h hc.1) hd,
  )

  -- of two valid siblings
  pub siblings_aside : (a b : Need) →
      ((v u : ℕ) → IsOfNeed vertices a v → IsOfNeed vertices b u → groups.AreDisjoint vertices first unnested v u) →
      IsValidNeed vertices a → IsValidNeed vertices b →
      (ok : Claim → Type 0) (scope : Scope) (n m : ℕ) (cs ds : List Claim) →
      Group n (Piece vertices ok scope a) cs → Group m (Piece vertices ok scope b) ds → AreAside vertices cs ds
  siblings_aside a b apart va vb ok scope n m cs ds ga gb c d hc hd =
      let ra = groups.pieces_apart vertices first unnested ok scope a
      (groups.piece_apart vertices first unnested ok scope a va) ga.0 cs ga.1 ga.4 in
      let rb = groups.pieces_apart vertices first unnested ok scope b
      (groups.piece_apart vertices first unnested ok scope b vb) gb.0 ds gb.1 gb.4 in
      let x = all_contained (groups.RootedIn vertices first unnested scope
      (groups.IsOfPicks vertices first unnested ok a ga.0)) cs c ra.1 hc in
      let y = all_contained (groups.RootedIn vertices first unnested scope
      (groups.IsOfPicks vertices first unnested ok b gb.0)) ds d rb.1 hd in
      aside x.0 y.0 c d (apart x.0 y.0 x.1.0.0 y.1.0.0) x.2 y.2

  -- of two vertices of a valid need
  pub picks_aside : (need : Need) → IsValidNeed vertices need →
      (ok : Claim → Type 0) (scope : Scope) (v u q r : ℕ) (cs ds : List Claim) → v ≢ u →
      Piece vertices ok scope need v q cs → Piece vertices ok scope need u r ds → AreAside vertices cs ds
  picks_aside need valid ok scope v u q r cs ds ne pc pd c d hc hd =
      let vc = groups.piece_vertex vertices first unnested ok scope need v q cs pc in
      let vd = groups.piece_vertex vertices first unnested ok scope need u r ds pd in
      let x = all_contained (groups.Under vertices first unnested v) cs c
      (groups.piece_apart vertices first unnested ok scope need valid v q cs pc).1 hc in
      let y = all_contained (groups.Under vertices first unnested u) ds d
      (groups.piece_apart vertices first unnested ok scope need valid u r ds pd).1 hd in
      aside v u c d (groups.picks_disjoint vertices first unnested need v u ne vc.0 vd.0) x y

  -- claims that fit are separate
  pub fits_separate : (ok : Claim → Type 0) (k : ℕ) (scope : Scope) (needs : List Need) → AreValidNeeds vertices needs →
      (claims : List Claim) → Fits vertices ok k scope needs claims → AreAllSeparate vertices claims
  fits_separate ok k scope needs valid claims fit =
      (groups.row_apart vertices first unnested ok k scope (hidden-the_row-Need-0 needs)
      (valid_to_row vertices needs valid) claims
      (transport⁻¹ (ap (λ (h : List Claim → Type 0). h claims) (fits_list vertices ok needs k scope)) fit)).0

-- two needs of a valid list are well apart, in one order or the other
pub valid_pair : (vertices : List Vertex) (needs : List Need) (i j : ℕ) (a b : Need) →
    AreValidNeeds vertices needs → i < j → slice_get needs i ≡ Some a → slice_get needs j ≡ Some b →
    AreApartKinds vertices a b
valid_pair vertices [] i j a b valid lt ea eb = absurd (cc)
valid_pair vertices (need ∷ rest) i zero a b valid lt ea eb = absurd (omega arith)
valid_pair vertices (need ∷ rest) zero (suc j) a b valid lt ea eb =
    let same : need ≡ a = cc in subst (λ (n : Need). AreApartKinds vertices n b) same
    (all_at (AreApartKinds vertices need) rest j b valid.1 eb)
valid_pair vertices (need ∷ rest) (suc i) (suc j) a b valid lt ea eb =
    valid_pair vertices rest i j a b valid.2 (omega arith) ea eb

pub valid_at : (vertices : List Vertex) (needs : List Need) (i : ℕ) (a : Need) →
    AreValidNeeds vertices needs → slice_get needs i ≡ Some a → IsValidNeed vertices a
valid_at vertices [] i a valid e = absurd (cc)
valid_at vertices (need ∷ rest) zero a valid e = let same : need ≡ a = cc in subst (IsValidNeed vertices) same valid.0
valid_at vertices (need ∷ rest) (suc i) a valid e = valid_at vertices rest i a valid.2 e

module _ (g : ResourceGraph) (names : List (List ℕ)) (valid : IsValidGraph g names) where
  first' : ParentsFirst g.vertices
  first' = parents_first g valid.preorder

  unnested' : NoneNested g.vertices
  unnested' = none_nested g names valid

  disjoint : (needs : List Need) (i j : ℕ) (a b : Need) →
      AreValidNeeds g.vertices needs → i ≢ j → slice_get needs i ≡ Some a → slice_get needs j ≡ Some b →
      (v u : ℕ) → IsOfNeed g.vertices a v → IsOfNeed g.vertices b u → groups.AreDisjoint g.vertices first' unnested' v u
  disjoint needs i j a b vs ne ea eb v u hv hu =
      elim (cases_lt i j) [
        | inl lt ↦ groups.siblings_disjoint g.vertices first' unnested' a b v u
            (valid_pair g.vertices needs i j a b vs lt ea eb) hv hu
        | inr ge ↦ groups.disjoint_sym g.vertices first' unnested' u v (groups.siblings_disjoint
            g.vertices first' unnested' b a u v (valid_pair g.vertices needs j i b a vs (omega arith) eb ea) hu hv)
      ]

  pub groups_aside : (needs : List Need) → AreValidNeeds g.vertices needs →
      (i j : ℕ) (a b : Need) → i ≢ j → slice_get needs i ≡ Some a → slice_get needs j ≡ Some b →
      (ok : Claim → Type 0) (scope : Scope) (n m : ℕ) (cs ds : List Claim) → Group n (Piece g.vertices ok scope a) cs →
      Group m (Piece g.vertices ok scope b) ds → AreAside g.vertices cs ds
  groups_aside needs vs i j a b ne ea eb ok scope n m cs ds =
      siblings_aside g.vertices first' unnested' a b (disjoint needs i j a b vs ne ea eb)
      (valid_at g.vertices needs i a vs ea) (valid_at g.vertices needs j b vs eb) ok scope n m cs ds

  pub pieces_aside : (need : Need) → IsValidNeed g.vertices need →
      (ok : Claim → Type 0) (scope : Scope) (v u q r : ℕ) (cs ds : List Claim) → v ≢ u →
      Piece g.vertices ok scope need v q cs → Piece g.vertices ok scope need u r ds → AreAside g.vertices cs ds
  pieces_aside = picks_aside g.vertices first' unnested'

  pub separate_fits : (ok : Claim → Type 0) (k : ℕ) (scope : Scope) (needs : List Need) →
      AreValidNeeds g.vertices needs → (claims : List Claim) → Fits g.vertices ok k scope needs claims →
      AreAllSeparate g.vertices claims
  separate_fits = fits_separate g.vertices first' unnested'
