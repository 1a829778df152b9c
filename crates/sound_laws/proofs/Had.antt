-- What claims that fit valid needs are: available, and their takes are of pools and at least 1.
use Rattle.std.proofs.Common.{◌≡◌, ℕ, ◌≤◌, true, false, List, [], ◌∷◌, Option, Some, None, slice_get, sym, ◌∙◌, ap}
use Rattle.std.proofs.Common.{subst}
use Rattle.std.specs.List.{AllByRecursion}
use Rattle.std.specs.Option.{IsSomeAnd, option_map_or}
use mathlib.Core.Path.{transport⁻¹}
use Rattle.flux_defs.specs.declared.vertices.Vertex.{Vertex}
use Rattle.flux_defs.specs.declared.claims.Claim.{Claim}
use Rattle.flux_defs.specs.declared.claims.Claim.TheVariants.{Take, Hold, Pass}
use Rattle.flux_defs.specs.declared.requests.Need.{Need, Vert', Pool, Spread', Row_of-Need, end_of-Need, more_of-Need}
use Rattle.flux_defs.specs.declared.requests.Need.TheBlock.{hidden-the_row-Need-0}
use Rattle.flux_defs.specs.Graph.{Scope, Beneath, is_pool_kind, is_pool}
use Rattle.flux_defs.specs.Needs.{IsValidNeed, AreValidRow, AreValidNeeds}
use Rattle.flux_defs.specs.Fits.{Pick, Pieces, Piece, FitsRow, Fits}
use Rattle.flux_laws.proofs.Rows.{fits_list, valid_to_row}
use Rattle.list_laws.proofs.Lists.{all_append}

-- a take is of a pool, and at least 1
abbrev pub TakesPool : List Vertex → Claim → Type 0
TakesPool vertices (Take v q) = (1 ≤ q) × (is_pool vertices v ≡ true)
TakesPool vertices (Hold v) = Unit {0}
TakesPool vertices (Pass v) = Unit {0}

module _ (vertices : List Vertex) (ok : Claim → Type 0) where
  -- the claim may be had
  abbrev pub IsHad : Claim → Type 0
  IsHad c = ok c × TakesPool vertices c

  of_kind : (kind : ℕ) (x : Option Vertex) → IsSomeAnd x (λ y. y.kind ≡ kind) →
      option_map_or (λ y. is_pool_kind vertices y.kind) x false ≡ is_pool_kind vertices kind
  of_kind kind None h = elim h [ ]
  of_kind kind (Some y) h = ap (is_pool_kind vertices) h

  one : (c : Claim) (cs : List Claim) → cs ≡ c ∷ [] → IsHad c → AllByRecursion IsHad cs
  one c cs e h = subst (AllByRecursion IsHad) (sym e) (h, tt)

  -- pieces of picks that serve something
  pieces_had : (piece : ℕ → ℕ → List Claim → Type 0) →
      ((v q : ℕ) (cs : List Claim) → 1 ≤ q → piece v q cs → AllByRecursion IsHad cs) →
      (ps : List Pick) (cs : List Claim) →
      AllByRecursion (λ p. 1 ≤ p.1) ps → Pieces piece ps cs → AllByRecursion IsHad cs
  pieces_had piece each [] cs some g = subst (AllByRecursion IsHad) (sym g) tt
  pieces_had piece each (p ∷ ps) cs some g =
      subst (AllByRecursion IsHad)
      (sym g.2) (all_append IsHad g.0 g.1 (each p.0 p.1 g.0 some.0 g.3) (pieces_had piece each ps g.1 some.1 g.4))

  mutual
    piece_had : (scope : Scope) (need : Need) → IsValidNeed vertices need → (v q : ℕ) (cs : List Claim) → 1 ≤ q →
        Piece vertices ok scope need v q cs → AllByRecursion IsHad cs
    piece_had scope (Vert' kind count true m needs) valid v q cs some p = one (Hold v) cs p.3.0 (p.3.1, tt)
    piece_had scope (Vert' kind count false m needs) valid v q cs some p =
        subst (AllByRecursion IsHad) (sym p.3.1) ((p.3.2, tt), row_had 1 (Beneath v) needs valid.2 p.3.0 p.3.3)
    piece_had scope (Pool kind quantity) valid v q cs some p =
        one (Take v q) cs p.2 (p.3, (some, of_kind kind (slice_get vertices v) p.1 ∙ valid.1))
    piece_had scope (Spread' count m needs) valid v q cs some p =
        subst (AllByRecursion IsHad) (sym p.2.1) ((p.2.2, tt), row_had q (Beneath v) needs valid.3 p.2.0 p.2.3)

    row_had : {m : _} (k : ℕ) (scope : Scope) (row : Row_of-Need m) → AreValidRow vertices row → (cs : List Claim) →
        FitsRow vertices ok k scope row cs → AllByRecursion IsHad cs
    row_had k scope end_of-Need valid cs f = subst (AllByRecursion IsHad) (sym f) tt
    row_had k scope (more_of-Need need rest) valid cs f =
        subst (AllByRecursion IsHad) (sym f.2)
        (all_append IsHad f.0 f.1 (pieces_had (Piece vertices ok scope need)
        (piece_had scope need valid.0) f.3.0 f.0 f.3.2 f.3.4) (row_had k scope rest valid.2 f.1 f.4))

  pub fits_had : (k : ℕ) (scope : Scope) (needs : List Need) → AreValidNeeds vertices needs → (claims : List Claim) →
      Fits vertices ok k scope needs claims → AllByRecursion IsHad claims
  fits_had k scope needs valid claims fit =
      row_had k scope (hidden-the_row-Need-0 needs) (valid_to_row vertices needs valid) claims
      (transport⁻¹ (ap (λ (h : List Claim → Type 0). h claims) (fits_list vertices ok needs k scope)) fit)
