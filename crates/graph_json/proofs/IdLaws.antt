-- A set of texts, one more at a time.
use Rattle.std.proofs.Common.{◌≡◌, refl, sym, ap, subst, ◌∙◌, ℕ, ◌+◌, ◌<◌, ◌≤◌, List, [], ◌∷◌, ◌++◌, length, take, true}
use Rattle.std.proofs.Common.{false, true≢false, Some, ◌⊎◌, inl, inr, slice_get, arith}
use borrow.Author.Count.{below_more, below_none}
use Rattle.std.proofs.lemmas.Bool.{cases_lt}
use Rattle.std.proofs.lemmas.List.{take_all}
use Rattle.std.proofs.lemmas.Option.{slice_get_past}
use Rattle.std.specs.List.{IsDistinct}
use Rattle.std.specs.Option.{option_map_or}
use Rattle.std.specs.Str.{bytes_eq}
use Rattle.resource_graph.specs.Finds.{IsLeast}
use Rattle.graph_json.specs.Edges.{is_among}
use Rattle.graph_json.specs.Ids.{IsRepeated, IsSetOf, IsSetTo}
use Rattle.graph_json.proofs.Sets.{distinct-more, distinct-nil}
use Rattle.list_laws.proofs.Lists.{take_next}

module _ (list : List (List ℕ)) where
  repeats_by : (k : ℕ) (x : List ℕ) → slice_get list k ≡ Some x →
      option_map_or (is_among (take k list)) (slice_get list k) false ≡ is_among (take k list) x
  repeats_by k x here = ap (λ o. option_map_or (is_among (take k list)) o false) here

  pub set-none : IsSetTo list 0 []
  set-none = record { kept = refl; distinct = distinct-nil; each = below_none (λ v. IsRepeated list v → ⊥) }

  pub set-more : (k : ℕ) (x : List ℕ) (old new : List (List ℕ)) → IsSetTo list k old →
      slice_get list k ≡ Some x → is_among old x ≡ false → new ≡ old ++ x ∷ [] → IsSetTo list (k + 1) new
  set-more k x old new set here absent more = record {
    kept = more ∙ ap (λ ys. ys ++ x ∷ []) set.kept ∙ sym (take_next list k x here);
    distinct = distinct-more old new x more absent set.distinct;
    each = below_more (λ v. IsRepeated list v → ⊥) k set.each (λ repeated.
        true≢false (sym repeated ∙ repeats_by k x here ∙ ap (λ ys. is_among ys x) (sym set.kept) ∙ absent));
  }

  pub set-repeated : (k : ℕ) (x : List ℕ) (old : List (List ℕ)) →
      IsSetTo list k old → slice_get list k ≡ Some x → is_among old x ≡ true → IsLeast (IsRepeated list) k
  set-repeated k x old set here there =
      (repeats_by k x here ∙ ap (λ ys. is_among ys x) (sym set.kept) ∙ there, set.each)

  past_none : (v : ℕ) → length list ≤ v → IsRepeated list v → ⊥
  past_none v past repeated =
      true≢false (sym repeated ∙ ap (λ o. option_map_or (is_among (take v list)) o false) (slice_get_past list v past))

  each_below : (k v : ℕ) →
      length list ≤ k → ((u : ℕ) → u < k → IsRepeated list u → ⊥) → (v < k) ⊎ (k ≤ v) → IsRepeated list v → ⊥
  each_below k v all each (inl below) repeated = each v below repeated
  each_below k v all each (inr past) repeated = past_none v (omega arith) repeated

  pub set-all : (k : ℕ) (found : List (List ℕ)) → IsSetTo list k found → length list ≤ k → IsSetOf list found
  set-all k found set all = let kept = set.kept ∙ take_all k list all in record {
    kept = kept;
    distinct = subst
        (λ ys. IsDistinct bytes_eq ys) kept set.distinct;
    each = λ v. each_below k v all set.each (cases_lt v k);
  }
