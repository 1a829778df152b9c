-- Which demand of a list is below.
use Rattle.std.proofs.Common.{◌≡◌, ℕ, ◌+◌, ◌<◌, ◌≤◌, List, length, get_or, inl, inr}
use Rattle.std.proofs.Common.{sym, ◌∙◌, subst, arith}
use Rattle.std.specs.Prelude.{Any, Contains}
use Rattle.std.proofs.lemmas.Bool.{cases_lt}
use Rattle.std.proofs.lemmas.List.{get_or_default}
use Rattle.prune_filters.specs.declared.shorts.Demand.{Demand}

module _ (P : Demand → Type 0) (xs : List Demand) where
  -- the item at an index is one that has it
  pub found : (i : ℕ) (x : Demand) → i < length xs → P (get_or xs i x) → Contains xs (get_or xs i x) × P (get_or xs i x)
  found i x lt p = ((i, lt, get_or_default xs i (get_or xs i x) x lt), p)

  -- and shows that some item has it
  pub any_of : (d : Demand) → Contains xs d × P d → Any P xs
  any_of d (there, p) = (there.0, d, there.1, there.2, p)

  -- where the items so far don't have it and the next one doesn't either, those up to it don't
  pub none_next : (i : ℕ) (x : Demand) → (P (get_or xs i x) → ⊥) → i < length xs →
      ((k : ℕ) (d : Demand) → k < i → get_or xs k d ≡ d → P d → ⊥) → (k : ℕ) (d : Demand) → k < i + 1 →
      get_or xs k d ≡ d → P d → ⊥
  none_next i x never within before k d lt e p =
      elim (cases_lt k i) [
        | inl earlier ↦ before k d earlier e p
        | inr here ↦ (
            let same : i ≡ k = omega arith in
            let is : d ≡ get_or xs i x = rw same (sym e ∙ get_or_default xs k d x (omega arith)) in
            never (subst P is p))
      ]

  -- where no item has it, none of the list has
  pub none_at_all : (i : ℕ) → length xs ≤ i → ((k : ℕ) (d : Demand) → k < i → get_or xs k d ≡ d → P d → ⊥) →
      Any P xs → ⊥
  none_at_all i over before any = before any.0 any.1 (let lt : any.0 < length xs = any.2 in omega arith) any.3 any.4
