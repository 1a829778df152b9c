use Rattle.std.proofs.Common.{◌≡◌, sym, ap, subst, ◌∙◌, ℕ, ◌-◌, ◌≤◌, List, ◌∷◌, length, get_or, take, drop, Option}
use Rattle.std.proofs.Common.{rules}
use Rattle.std.proofs.lemmas.List.Sorted.{IsNonDecreasingBy-from_sort_by_key, All-permutation}
use Rattle.idset_text.specs.declared.idsets.Range.{Range}
use Rattle.resource_set_r.specs.ReadRows.{IsRepeatedRank, overlap_from}
use Rattle.resource_set_r.proofs.ReadLaws.{Sorted, Rising, overlap_right, repeated_permuted, first_and_others}
use Rattle.resource_set_r.proofs.ranks.repeated_rank.Goals as goal

pub returns-in-len1-up-clause-found : goal.returns-in-len1-up-clause-found
returns-in-len1-up-clause-found c =
    let old = c.args.ranges.now.items in
    let new = c.sort_unstable_by_key.new.self.items in
    let first = get_or new 0 (record { lo = 0; hi = 0 }) in
    let others = take (length new - 1) (drop 1 new) in
    let value = c.as_slice.ensures.value in
    let some : 1 ≤ length new = subst (λ (rs : List Range). 1 ≤ length rs) value c.in-len1-up.len_at_least in
    let whole : first ∷ others ≡ new = first_and_others new (record { lo = 0; hi = 0 }) some in
    let sorted : Sorted new = IsNonDecreasingBy-from_sort_by_key
    (λ x. x.lo) new c.sort_unstable_by_key.ensures.sorted (λ a r q k. search rules) in
    let rising : Rising new =
    All-permutation (λ x. x.lo ≤ x.hi) old new c.sort_unstable_by_key.ensures.permutation c.requires in
    let right : IsRepeatedRank (first ∷ others) (overlap_from first others) =
    overlap_right first others (subst (λ (rs : List Range). Sorted rs) (sym whole) sorted)
    (subst (λ (rs : List Range). Rising rs) (sym whole) rising) in
    let found : c.first_overlap.result ≡ overlap_from first others =
    c.first_overlap.ensures
    ∙ ap (λ rs. overlap_from (get_or rs 0 (record { lo = 0; hi = 0 })) (take (length rs - 1) (drop 1 rs))) value in
    repeated_permuted old new c.first_overlap.result c.sort_unstable_by_key.ensures.permutation
    (subst (λ (o : Option ℕ). IsRepeatedRank new o)
    (sym found) (subst (λ (rs : List Range). IsRepeatedRank rs (overlap_from first others)) whole right))
