-- Fits and lowest-first claims of rows of needs: what is lowest-first fits, fewer copies fit too, and it is determined.
use Rattle.std.proofs.Common.{◌≡◌, ℕ, ◌+◌, ◌*◌, ◌≤◌, true, false, List, [], ◌∷◌, ◌++◌, refl, sym, ◌∙◌, ap, subst, arith}
use Rattle.std.specs.List.{AllByRecursion}
use Rattle.flux_defs.specs.declared.vertices.Vertex.{Vertex}
use Rattle.flux_defs.specs.declared.claims.Claim.{Claim}
use Rattle.flux_defs.specs.declared.claims.Claim.TheVariants.{Take, Pass}
use Rattle.flux_defs.specs.declared.requests.Need.{Need, Vert', Pool, Spread', Row_of-Need, end_of-Need, more_of-Need}
use Rattle.flux_defs.specs.Graph.{Scope, Beneath}
use Rattle.flux_defs.specs.Needs.{amount_of}
use Rattle.flux_defs.specs.Fits.{Pick, Pieces, Group, Piece, FitsRow}
use Rattle.flux_defs.specs.Lowest.{CanServe, LowestPiece, LowestRow}
use Rattle.flux_laws.proofs.Filling.{CanFill, IsPickFrom, IsDownward, can_fill_less, fills_parts, fills_once}
use Rattle.flux_laws.proofs.Filling.{serve_some}

-- a take of less is available where one of more is
abbrev pub TakesLess : (Claim → Type 0) → Type 0
TakesLess ok = (v q : ℕ) → ok (Take v (q + 1)) → ok (Take v q)

-- some claims are such a piece
abbrev pub SomePiece : (ℕ → ℕ → List Claim → Type 0) → ℕ → ℕ → Type 0
SomePiece piece v q = (claims : List Claim) × piece v q claims

picks_serve : (piece : ℕ → ℕ → List Claim → Type 0) (ps : List Pick) (claims : List Claim) →
    AllByRecursion (λ p. 1 ≤ p.1) ps → Pieces piece ps claims →
    AllByRecursion (IsPickFrom (SomePiece piece) 0) ps
picks_serve piece [] claims some g = tt
picks_serve piece (p ∷ ps) claims some g = ((omega arith, some.0, (g.0, g.3)), picks_serve piece ps g.1 some.1 g.4)

-- a group shows that its amount can be filled
pub group_fills : (piece : ℕ → ℕ → List Claim → Type 0) (amount : ℕ) (claims : List Claim) →
    Group amount piece claims → CanFill (SomePiece piece) 0 amount
group_fills piece amount claims g =
    record { picks = g.0; distinct = g.1; each = picks_serve piece g.0 claims g.2 g.4; serves = g.3 }

some_pieces : (piece : ℕ → ℕ → List Claim → Type 0) (ps : List Pick) →
    AllByRecursion (IsPickFrom (SomePiece piece) 0) ps → (claims : List Claim) × Pieces piece ps claims
some_pieces piece [] each = ([], refl)
some_pieces piece (p ∷ ps) each =
    let r = some_pieces piece ps each.1 in
    (each.0.2.0 ++ r.0, (each.0.2.0, r.0, refl, each.0.2.1, r.1))

-- and what can be filled has a group
pub filled_group : (piece : ℕ → ℕ → List Claim → Type 0) (amount : ℕ) →
    CanFill (SomePiece piece) 0 amount → (claims : List Claim) × Group amount piece claims
filled_group piece amount f =
    let r = some_pieces piece f.picks f.each in
    (r.0, (f.picks, f.distinct, serve_some (SomePiece piece) 0 f.picks f.each, f.serves, r.1))

-- pieces of one kind are pieces of another, of picks that can serve so
pub pieces_along : (low : ℕ) (piece other : ℕ → ℕ → List Claim → Type 0) →
    ((v q : ℕ) (claims : List Claim) → SomePiece other v q → piece v q claims → other v q claims) →
    (ps : List Pick) (claims : List Claim) →
    AllByRecursion (IsPickFrom (SomePiece other) low) ps → Pieces piece ps claims → Pieces other ps claims
pieces_along low piece other along [] claims each g = g
pieces_along low piece other along (p ∷ ps) claims each g =
    (g.0, g.1, g.2, along p.0 p.1 g.0 each.0.2 g.3, pieces_along low piece other along ps g.1 each.1 g.4)

-- picks have one list of pieces, where a pick has one piece
pub pieces_once : (piece : ℕ → ℕ → List Claim → Type 0) →
    ((v q : ℕ) (a b : List Claim) → piece v q a → piece v q b → a ≡ b) →
    (ps : List Pick) (a b : List Claim) → Pieces piece ps a → Pieces piece ps b → a ≡ b
pieces_once piece once [] a b g h = g ∙ sym h
pieces_once piece once (p ∷ ps) a b g h =
    let first : g.0 ≡ h.0 = once p.0 p.1 g.0 h.0 g.3 h.3 in
    let rest : g.1 ≡ h.1 = pieces_once piece once ps g.1 h.1 g.4 h.4 in
    g.2 ∙ (ap (λ x. x ++ g.1) first ∙ ap (λ x. h.0 ++ x) rest) ∙ sym h.2

module _ (vertices : List Vertex) (ok : Claim → Type 0) where
  -- lowest-first claims fit
  mutual
    pub lowest_piece : (scope : Scope) (need : Need) (v q : ℕ) (claims : List Claim) →
        CanServe vertices ok scope need v q → LowestPiece vertices ok need v q claims →
        Piece vertices ok scope need v q claims
    lowest_piece scope (Vert' kind count true m needs) v q claims can low =
        let p = can.1 in (p.0, p.1, p.2, (low, p.3.1, p.3.2))
    lowest_piece scope (Vert' kind count false m needs) v q claims can low =
        let p = can.1 in (p.0, p.1, p.2, (low.0, low.1, p.3.2, lowest_row_fits 1 (Beneath v) needs low.0 low.2))
    lowest_piece scope (Pool kind quantity) v q claims can low = let p = can.1 in (p.0, p.1, low, p.3)
    lowest_piece scope (Spread' count m needs) v q claims can low =
        let p = can.1 in (p.0, p.1, (low.0, low.1, p.2.2, lowest_row_fits q (Beneath v) needs low.0 low.2))

    pub lowest_row_fits : {m : _} (k : ℕ) (scope : Scope) (row : Row_of-Need m) (claims : List Claim) →
        LowestRow vertices ok k scope row claims →
        FitsRow vertices ok k scope row claims
    lowest_row_fits k scope end_of-Need claims low = low
    lowest_row_fits k scope (more_of-Need need rest) claims low =
        let f = fills_parts (CanServe vertices ok scope need) 0 (k * amount_of need) low.0 low.4 in (
          low.1,
          low.2,
          low.3,
          (
            low.0,
            f.0,
            serve_some (CanServe vertices ok scope need) 0 low.0 f.1,
            f.2,
            pieces_along 0 (LowestPiece vertices ok need) (Piece vertices ok scope need)
                (lowest_piece scope need) low.0 low.1 f.1 low.5,
          ),
          lowest_row_fits k scope rest low.2 low.6,
        )

  module _ (less : TakesLess ok) where
    -- a fit of k + 1 copies contains one of k
    mutual
      pub serves_less : (scope : Scope) (need : Need) → IsDownward (CanServe vertices ok scope need)
      serves_less scope (Vert' kind count hold m needs) v q some can = let one : q + 1 ≡ 1 = can.1.0 in absurd
          (omega arith)
      serves_less scope (Pool kind quantity) v q some can =
          let p = can.1 in (Take v q ∷ [], (p.0, p.1, refl, less v q p.3))
      serves_less scope (Spread' count m needs) v q some can =
          let p = can.1 in
          let r = row_less q (Beneath v) needs p.2.0 p.2.3 in
          (Pass v ∷ r.0, (p.0, p.1, (r.0, refl, p.2.2, r.1)))

      pub row_less : {m : _} (k : ℕ) (scope : Scope) (row : Row_of-Need m) (claims : List Claim) →
          FitsRow vertices ok (k + 1) scope row claims →
          (fewer : List Claim) × FitsRow vertices ok k scope row fewer
      row_less k scope end_of-Need claims fit = ([], refl)
      row_less k scope (more_of-Need need rest) claims fit =
          let piece = Piece vertices ok scope need in
          let f = group_fills piece ((k + 1) * amount_of need) fit.0 fit.3 in
          let g = filled_group piece (k * amount_of need)
          (can_fill_less (SomePiece piece) (serves_less scope need) 0 ((k + 1) * amount_of need) (k * amount_of need)
          (omega arith) f) in
          let r = row_less k scope rest fit.1 fit.4 in
          (g.0 ++ r.0, (g.0, r.0, refl, g.1, r.1))

    -- lowest-first claims are determined
    mutual
      pub piece_once : (need : Need) (v q : ℕ) (a b : List Claim) →
          LowestPiece vertices ok need v q a → LowestPiece vertices ok need v q b → a ≡ b
      piece_once (Vert' kind count true m needs) v q a b g h = g ∙ sym h
      piece_once (Vert' kind count false m needs) v q a b g h =
          g.1 ∙ ap (λ x. Pass v ∷ x) (lowest_row_once 1 (Beneath v) needs g.0 h.0 g.2 h.2) ∙ sym h.1
      piece_once (Pool kind quantity) v q a b g h = g ∙ sym h
      piece_once (Spread' count m needs) v q a b g h =
          g.1 ∙ ap (λ x. Pass v ∷ x) (lowest_row_once q (Beneath v) needs g.0 h.0 g.2 h.2) ∙ sym h.1

      pub lowest_row_once : {m : _} (k : ℕ) (scope : Scope) (row : Row_of-Need m) (a b : List Claim) →
          LowestRow vertices ok k scope row a → LowestRow vertices ok k scope row b → a ≡ b
      lowest_row_once k scope end_of-Need a b g h = g ∙ sym h
      lowest_row_once k scope (more_of-Need need rest) a b g h =
          let same : g.0 ≡ h.0 = fills_once (CanServe vertices ok scope need) (serves_less scope need) 0
          (k * amount_of need) g.0 h.0 g.4 h.4 in
          let group : g.1 ≡ h.1 = pieces_once (LowestPiece vertices ok need) (piece_once need) g.0 g.1 h.1 g.5
          (subst (λ (ps : List Pick). Pieces (LowestPiece vertices ok need) ps h.1) (sym same) h.5) in
          let others : g.2 ≡ h.2 = lowest_row_once k scope rest g.2 h.2 g.6 h.6 in
          g.3 ∙ (ap (λ x. x ++ g.2) group ∙ ap (λ x. h.1 ++ x) others) ∙ sym h.3
