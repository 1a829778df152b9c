-- Rows after an insertion.
use Rattle.std.proofs.Common.{◌≡◌, ◌≢◌, ℕ, true, false, cond, Some, refl, sym, ◌∙◌, ap, true≢false}
use Rattle.std.specs.declared.cmp.Ordering.{Ordering}
use Rattle.std.specs.declared.cmp.Ordering.TheVariants.{Less, Equal, Greater}
use Rattle.std.specs.Ordering.{nat_cmp, is_eq, eq_by_cmp}
use Rattle.std.specs.Cmp.{nat_cmp_total, eq_by_cmp_equiv}
use Rattle.std.specs.FinMap.{FinMap, get, insert, get-insert, nat_cmp-IsAntisymmetric}
use Rattle.std.proofs.lemmas.Bool.{false_from_ne_true}

is_equal : (r : Ordering) → is_eq r ≡ true → r ≡ Equal
is_equal Less e = absurd (true≢false (sym e))
is_equal Equal e = refl
is_equal Greater e = absurd (true≢false (sym e))

pub unequal : (q k : ℕ) → q ≢ k → eq_by_cmp nat_cmp q k ≡ false
unequal q k ne =
    false_from_ne_true (eq_by_cmp nat_cmp q k) (λ t. ne (nat_cmp-IsAntisymmetric q k (is_equal (nat_cmp q k) t)))

module _ {X : Type 0} (rows : FinMap nat_cmp X) (id : ℕ) (row : X) where
  -- the id has the row
  pub get_same : get (insert rows id row) id ≡ Some row
  get_same = get-insert nat_cmp_total rows id row id
      ∙ ap (λ b. cond b (Some row) (get rows id)) ((eq_by_cmp_equiv nat_cmp_total).refl id)

  -- and any other id what it had
  pub get_other : (k : ℕ) → k ≢ id → get (insert rows id row) k ≡ get rows k
  get_other k ne = get-insert nat_cmp_total rows id row k ∙ ap (λ b. cond b (Some row) (get rows k)) (unequal k id ne)
