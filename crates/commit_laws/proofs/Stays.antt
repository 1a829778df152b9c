-- Lowest-first claims that are all still available stay lowest-first where less is available than before.
use Rattle.std.proofs.Common.{ℕ, ◌+◌, ◌-◌, ◌*◌, ◌<◌, true, false, List, [], ◌∷◌, ◌++◌, length, refl, subst, IsTrue}
use Rattle.std.specs.List.{AllByRecursion}
use Rattle.flux_defs.specs.declared.vertices.Vertex.{Vertex}
use Rattle.flux_defs.specs.declared.claims.Claim.{Claim}
use Rattle.flux_defs.specs.declared.claims.Claim.TheVariants.{Take, Hold, Pass}
use Rattle.flux_defs.specs.declared.requests.Need.{Need, Vert', Pool, Spread', Row_of-Need, end_of-Need, more_of-Need}
use Rattle.flux_defs.specs.Graph.{Scope, Beneath, IsIn, is_at_or_below}
use Rattle.flux_defs.specs.Needs.{amount_of}
use Rattle.flux_defs.specs.Jobs.{vertex_of}
use Rattle.flux_defs.specs.Fits.{Pick, Pieces, Piece, FitsRow}
use Rattle.flux_defs.specs.Lowest.{FillsFrom, CanServe, LowestPiece, LowestRow, Lowest}
use Rattle.graph_laws.proofs.Containment.{ParentsFirst, in_graph, below_self, below_trans, below_to}
use Rattle.flux_laws.proofs.FitLaws.{lowest_row_fits}
use Rattle.match_laws.proofs.MoreAvailable.{piece_more, pieces_map}

-- what holds of each element of two lists' holds of each of either
pub all_split : {X : Type 0} (P : X → Type 0) (xs ys : List X) → AllByRecursion P (xs ++ ys) →
    AllByRecursion P xs × AllByRecursion P ys
all_split P [] ys h = (tt, h)
all_split P (x ∷ xs) ys h = let r = all_split P xs ys h.1 in ((h.0, r.0), r.1)

-- picks still fill, and still have their pieces, where each piece of claims that are free stays one
module _ (free : Claim → Type 0) (can few : ℕ → ℕ → Type 0) (piece other : ℕ → ℕ → List Claim → Type 0)
    (back : (v q : ℕ) → few v q → can v q)
    (stay : (v q : ℕ) (claims : List Claim) → AllByRecursion free claims → can v q → piece v q claims →
    few v q × other v q claims) where
  fills_stay : (low n : ℕ) (picks : List Pick) (claims : List Claim) → AllByRecursion free claims →
      FillsFrom can low n picks → Pieces piece picks claims → FillsFrom few low n picks × Pieces other picks claims
  fills_stay low n [] claims all f g = (f, g)
  fills_stay low n (p ∷ ps) claims all f g =
      let a = all_split free g.0 g.1 (subst (AllByRecursion free) g.2 all) in
      let s = stay p.0 p.1 g.0 a.0 f.4 g.3 in
      let r = fills_stay (p.0 + 1) (n - p.1) ps g.1 a.1 f.6 g.4 in (
        (
          f.0,
          λ u lo hi c. f.1 u lo hi (back u 1 c),
          f.2,
          f.3,
          s.0,
          λ lt c. f.5 lt (back p.0 (p.1 + 1) c),
          r.0,
        ),
        (g.0, g.1, g.2, s.1, r.1),
      )

-- what fits below a vertex still does where all that is available at the vertex and below it still is
module _ (vertices : List Vertex) (first : ParentsFirst vertices) (ok more : Claim → Type 0) (root : ℕ)
    (along : (c : Claim) → vertex_of c < length vertices → IsTrue (is_at_or_below vertices (vertex_of c) root) →
    ok c → more c) where
  deeper : (u v : ℕ) → IsTrue (is_at_or_below vertices u root) → IsIn vertices (Beneath u) v →
      IsTrue (is_at_or_below vertices v root)
  deeper u v h within =
      below_trans vertices first v u root within.0 (below_to vertices first v u within.1).0 h

  mutual
    piece_within : (u : ℕ) → IsTrue (is_at_or_below vertices u root) → (need : Need) (v q : ℕ) (claims : List Claim) →
        Piece vertices ok (Beneath u) need v q claims → Piece vertices more (Beneath u) need v q claims
    piece_within u h (Vert' kind count true m needs) v q claims p =
        let d = deeper u v h p.1 in
        (p.0, p.1, p.2, (p.3.0, along (Hold v) p.1.0 d p.3.1, (p.3.2.0, row_within v d 1 needs p.3.2.0 p.3.2.1)))
    piece_within u h (Vert' kind count false m needs) v q claims p =
        let d = deeper u v h p.1 in
        (p.0, p.1, p.2, (p.3.0, p.3.1, along (Pass v) p.1.0 d p.3.2, row_within v d 1 needs p.3.0 p.3.3))
    piece_within u h (Pool kind quantity) v q claims p =
        (p.0, p.1, p.2, along (Take v q) p.0.0 (deeper u v h p.0) p.3)
    piece_within u h (Spread' count m needs) v q claims p =
        let d = deeper u v h p.0 in
        (p.0, p.1, (p.2.0, p.2.1, along (Pass v) p.0.0 d p.2.2, row_within v d q needs p.2.0 p.2.3))

    row_within : (u : ℕ) → IsTrue (is_at_or_below vertices u root) → {m : _} (k : ℕ) (row : Row_of-Need m)
        (claims : List Claim) → FitsRow vertices ok k (Beneath u) row claims →
        FitsRow vertices more k (Beneath u) row claims
    row_within u h k end_of-Need claims f = f
    row_within u h k (more_of-Need need rest) claims f =
        let g = f.3 in
        let pieces = pieces_map (Piece vertices ok (Beneath u) need) (Piece vertices more (Beneath u) need)
        (piece_within u h need) g.0 f.0 g.4 in
        (f.0, f.1, f.2, (g.0, g.1, g.2, g.3, pieces), row_within u h k rest f.1 f.4)

-- Less is available than before; but a claim that was available and is free is available, and where a vertex may still
-- be held, all that was available at it and below it still is.
module _ (vertices : List Vertex) (first : ParentsFirst vertices) (ok less free : Claim → Type 0)
    (back : (c : Claim) → less c → ok c) (join : (c : Claim) → free c → ok c → less c)
    (opens : (v : ℕ) → v < length vertices → less (Hold v) → (c : Claim) → vertex_of c < length vertices →
    IsTrue (is_at_or_below vertices (vertex_of c) v) → ok c → less c) where
  can_back : (scope : Scope) (need : Need) (v q : ℕ) → CanServe vertices less scope need v q →
      CanServe vertices ok scope need v q
  can_back scope need v q c = (c.0, piece_more vertices less ok back scope need v q c.0 c.1)

  mutual
    piece_stays : (scope : Scope) (need : Need) (v q : ℕ) (claims : List Claim) → AllByRecursion free claims →
        CanServe vertices ok scope need v q → LowestPiece vertices ok need v q claims →
        CanServe vertices less scope need v q × LowestPiece vertices less need v q claims
    piece_stays scope (Vert' kind count true m needs) v q claims all can low =
        let p = can.1 in
        let a = subst (AllByRecursion free) low all in
        let lt = in_graph vertices scope v p.1 in
        let held = join (Hold v) a.0 p.3.1 in
        let inner = row_within vertices first ok less v (opens v lt held) v (below_self vertices first v lt) 1 needs
        p.3.2.0 p.3.2.1 in
        ((can.0, (p.0, p.1, p.2, (p.3.0, held, (p.3.2.0, inner)))), low)
    piece_stays scope (Vert' kind count false m needs) v q claims all can low =
        let p = can.1 in
        let a = subst (AllByRecursion free) low.1 all in
        let r = row_stays 1 (Beneath v) needs low.0 a.1 low.2 in
        let fits = lowest_row_fits vertices less 1 (Beneath v) needs low.0 r in
        ((Pass v ∷ low.0, (p.0, p.1, p.2, (low.0, refl, join (Pass v) a.0 p.3.2, fits))), (low.0, low.1, r))
    piece_stays scope (Pool kind quantity) v q claims all can low =
        let p = can.1 in
        let a = subst (AllByRecursion free) low all in
        ((Take v q ∷ [], (p.0, p.1, refl, join (Take v q) a.0 p.3)), low)
    piece_stays scope (Spread' count m needs) v q claims all can low =
        let p = can.1 in
        let a = subst (AllByRecursion free) low.1 all in
        let r = row_stays q (Beneath v) needs low.0 a.1 low.2 in
        let fits = lowest_row_fits vertices less q (Beneath v) needs low.0 r in
        ((Pass v ∷ low.0, (p.0, p.1, (low.0, refl, join (Pass v) a.0 p.2.2, fits))), (low.0, low.1, r))

    row_stays : {m : _} (k : ℕ) (scope : Scope) (row : Row_of-Need m) (claims : List Claim) →
        AllByRecursion free claims → LowestRow vertices ok k scope row claims →
        LowestRow vertices less k scope row claims
    row_stays k scope end_of-Need claims all low = low
    row_stays k scope (more_of-Need need rest) claims all low =
        let a = all_split free low.1 low.2 (subst (AllByRecursion free) low.3 all) in
        let f = fills_stay free (CanServe vertices ok scope need) (CanServe vertices less scope need)
        (LowestPiece vertices ok need) (LowestPiece vertices less need) (can_back scope need) (piece_stays scope need)
        0 (k * amount_of need) low.0 low.1 a.0 low.4 low.5 in
        (low.0, low.1, low.2, low.3, f.0, f.1, row_stays k scope rest low.2 a.1 low.6)

  -- lowest-first claims that are all free are the lowest-first claims of what is left
  pub lowest_stays : (k : ℕ) (scope : Scope) (needs : List Need) (claims : List Claim) → AllByRecursion free claims →
      Lowest vertices ok k scope needs claims → Lowest vertices less k scope needs claims
  lowest_stays k scope [] claims all low = low
  lowest_stays k scope (need ∷ rest) claims all low =
      let a = all_split free low.1 low.2 (subst (AllByRecursion free) low.3 all) in
      let f = fills_stay free (CanServe vertices ok scope need) (CanServe vertices less scope need)
      (LowestPiece vertices ok need) (LowestPiece vertices less need) (can_back scope need) (piece_stays scope need)
      0 (k * amount_of need) low.0 low.1 a.0 low.4 low.5 in
      (low.0, low.1, low.2, low.3, f.0, f.1, lowest_stays k scope rest low.2 a.1 low.6)
