-- Items of lists by place, and the planners of one place of every item.
use Rattle.std.proofs.Common.{◌≡◌, ℕ, zero, suc, ◌<◌, List, [], ◌∷◌, length, Some, slice_get}
use Rattle.std.proofs.Common.{refl, sym, ◌∙◌, ap, arith}
use Rattle.std.proofs.lemmas.Option.{slice_get_within}
use Rattle.list_laws.proofs.Lists.{get_some}
use Rattle.vertex_planners.specs.Lists.{AreWide, put_before, at_place}

-- a list of the same length has an item at the same place
pub same_place : {X Y : Type 0} (new : List X) (old : List Y) (i : ℕ) (x : X) →
    length new ≡ length old → slice_get new i ≡ Some x →
    (y : Y) × (slice_get old i ≡ Some y)
same_place new old i x e at = get_some old i (let lt = slice_get_within new i x at in omega (arith, e, lt))

-- the planners of one place
module _ {P : Type 0} (places k : ℕ) (lt : k < places) where
  first_at : (item : List P) (items : List (List P)) →
      AreWide places (item ∷ items) → (p : P) × (slice_get item k ≡ Some p)
  first_at item items wide = get_some item k (let w = wide 0 item refl in omega (arith, w, lt))

  pub place_len : (items : List (List P)) → AreWide places items → length (at_place k items) ≡ length items
  place_len [] wide = refl
  place_len (item ∷ items) wide =
      let (p, at) = first_at item items wide in
      let rest = place_len items (λ v x e. wide (suc v) x e) in
      ap (λ o. length (put_before o (at_place k items))) at ∙ (omega (arith, rest))

  pub of_place : (items : List (List P)) →
      AreWide places items → (v : ℕ) (p : P) → slice_get (at_place k items) v ≡ Some p →
      (item : List P) × (slice_get items v ≡ Some item) × (slice_get item k ≡ Some p)
  of_place [] wide v p e = absurd (cc)
  of_place (item ∷ items) wide zero p e =
      let (q, at) = first_at item items wide in
      (item, refl, at ∙ (sym (ap (λ o. slice_get (put_before o (at_place k items)) 0) at) ∙ e))
  of_place (item ∷ items) wide (suc v) p e =
      let (q, at) = first_at item items wide in
      of_place items (λ u x f. wide (suc u) x f) v p
      (sym (ap (λ o. slice_get (put_before o (at_place k items)) (suc v)) at) ∙ e)

  pub in_place : (items : List (List P)) → AreWide places items →
      (v : ℕ) (item : List P) (p : P) → slice_get items v ≡ Some item → slice_get item k ≡ Some p →
      slice_get (at_place k items) v ≡ Some p
  in_place [] wide v item p e at = absurd (cc)
  in_place (x ∷ items) wide zero item p e at =
      let same : x ≡ item = cc in
      ap (λ o. slice_get (put_before o (at_place k items)) 0) (ap (λ y. slice_get y k) same ∙ at)
  in_place (x ∷ items) wide (suc v) item p e at =
      let (q, first) = first_at x items wide in
      ap (λ o. slice_get (put_before o (at_place k items)) (suc v)) first
      ∙ in_place items (λ u y f. wide (suc u) y f) v item p e at
