-- Rows by the types of a graph.
use Rattle.std.proofs.Common.{◌≡◌, ℕ, zero, suc, ◌+◌, ◌<◌, ◌↔◌, IsTrue, Bool, false, true≢false, List, [], ◌∷◌, ◌++◌}
use Rattle.std.proofs.Common.{length, take, take_all, get_or, slice_get, unwrap_or, Some, None, ◌⊎◌, inl, inr, refl}
use Rattle.std.proofs.Common.{sym, ◌∙◌, ap, subst}
use Rattle.std.specs.List.{AllZip}
use Rattle.std.specs.Option.{IsSomeAnd}
use Rattle.std.proofs.lemmas.List.{take_more}
use Rattle.std.proofs.lemmas.Option.{slice_get_within, get_or_from_slice_get}
use Rattle.std.proofs.lemmas.Slice.Zip.{all_zipped_more}
use Rattle.prune_filters.specs.declared.rules.Rule.{Rule}
use Rattle.prune_filters.specs.Filters.{IsKept}
use Rattle.vertex_accounts.proofs.CountLaws.{past_list}
use Rattle.book_state.specs.Filtered.{IsKeptRow, AreKeptRows}

-- one type more
pub zipped_next : {Y : Type 0}
    (R : List ℕ → Y → Type 0) (kinds : List (List ℕ)) (k : ℕ) (ys : List Y) (name : List ℕ) (y : Y) →
    slice_get kinds k ≡ Some name → AllZip R (take k kinds) ys → R name y → AllZip R (take (k + 1) kinds) (ys ++ y ∷ [])
zipped_next {Y = Y} R kinds k ys name y at so_far r =
    let within : k < length kinds = slice_get_within kinds k name at in
    let same : get_or kinds k name ≡ name = get_or_from_slice_get kinds k name name at in
    subst (λ (ts : List (List ℕ)). AllZip R ts (ys ++ y ∷ []))
    (sym (take_more kinds k name within ∙ ap (λ (t : List ℕ). take k kinds ++ t ∷ []) same))
    (all_zipped_more R (take k kinds) ys name y so_far r)

-- past the last type, all are there
pub zipped_all : {Y : Type 0} (R : List ℕ → Y → Type 0) (kinds : List (List ℕ)) (k : ℕ) (ys : List Y) →
    slice_get kinds k ≡ None → AllZip R (take k kinds) ys → AllZip R kinds ys
zipped_all R kinds k ys none so_far =
    subst (λ (ts : List (List ℕ)). AllZip R ts ys) (take_all k kinds (past_list kinds k none)) so_far

-- at a place both lists have an item, or neither has
zipped_at : {X Y : Type 0} (R : X → Y → Type 0) (xs : List X) (ys : List Y) (i : ℕ) → AllZip R xs ys →
    ((slice_get xs i ≡ None) × (slice_get ys i ≡ None))
    ⊎ ((x : X) × (y : Y) × (slice_get xs i ≡ Some x) × (slice_get ys i ≡ Some y) × R x y)
zipped_at R [] [] i h = inl (refl, refl)
zipped_at R [] (y ∷ ys) i h = elim h [ ]
zipped_at R (x ∷ xs) [] i h = elim h [ ]
zipped_at R (x ∷ xs) (y ∷ ys) zero h = inr (x, y, refl, refl, h.0)
zipped_at R (x ∷ xs) (y ∷ ys) (suc i) h = zipped_at R xs ys i h.1

module _ (kinds : List (List ℕ)) (rules : List Rule) where
  abbrev Keeps : ℕ → ℕ → Type 0
  Keeps upper lower =
      IsSomeAnd (slice_get kinds upper) (λ high. IsSomeAnd (slice_get kinds lower) (λ low. IsKept rules high low))

  never : {P : Type 0} → (P → ⊥) → IsTrue false ↔ P
  never refuted = (λ t. absurd (true≢false (sym t)), λ p. absurd (refuted p))

  in_row : (high : List ℕ) (row : List Bool) (lower : ℕ) → IsKeptRow kinds rules high row →
      IsTrue (unwrap_or (slice_get row lower) false) ↔ IsSomeAnd (slice_get kinds lower) (λ low. IsKept rules high low)
  in_row high row lower is = elim (zipped_at (λ low kept. IsTrue kept ↔ IsKept rules high low) kinds row lower is) [
    | inl (none, end) ↦ rw (none, end) (never (λ p. p))
    | inr (low, kept, at, there, tells) ↦ rw (at, there) tells
  ]

  -- no row, no type
  pub past_rows : (rows : List (List Bool)) (upper lower : ℕ) → AreKeptRows kinds rules rows →
      slice_get rows upper ≡ None → IsTrue false ↔ Keeps upper lower
  past_rows rows upper lower are none = elim (zipped_at (IsKeptRow kinds rules) kinds rows upper are) [
    | inl (end, _) ↦ rw end (never (λ p. p))
    | inr (high, row, at, there, is) ↦ absurd (let some : Some row ≡ None = sym there ∙ none in cc)
  ]

  -- what a row tells
  pub row_tells : (rows : List (List Bool)) (upper lower : ℕ) (row : List Bool) (b : Bool) →
      AreKeptRows kinds rules rows →
      slice_get rows upper ≡ Some row → b ≡ unwrap_or (slice_get row lower) false → IsTrue b ↔ Keeps upper lower
  row_tells rows upper lower row b are at is = elim (zipped_at (IsKeptRow kinds rules) kinds rows upper are) [
    | inl (_, end) ↦ absurd (let some : Some row ≡ None = sym at ∙ end in cc)
    | inr (high, found, named, there, kept) ↦
        (let same : found ≡ row = (let both : Some found ≡ Some row = sym there ∙ at in cc) in
        let tells = in_row high row lower (subst (λ (r : List Bool). IsKeptRow kinds rules high r) same kept) in
        rw (named, is) tells)
  ]
