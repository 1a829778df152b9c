use Rattle.std.proofs.Common.{◌≡◌, nat_eq, List, map, sym, ◌∙◌, ap, subst, rules}
use Rattle.std.specs.List.{IsDistinct}
use Rattle.std.specs.List.Sorted.{IsPermutation}
use Rattle.std.proofs.lemmas.List.Sorted.{IsNonDecreasingBy-from_sort_by_key, IsPermutation-map}
use Rattle.std.proofs.lemmas.Map.Keys.{IsDistinct-IsPermutation, IsStrictlyIncreasing-from_distinct}
use Rattle.idset_text.specs.Idsets.{ids_of}
use Rattle.resource_set_r.specs.ReadRows.{ranges_in}
use Rattle.graph_from_r.specs.declared.places.Place.{Place}
use Rattle.graph_from_r.proofs.Placed.{ranks_from, ids_distinct, eq_flips, mapped_rise}
use Rattle.graph_from_r.proofs.places.places_of.Goals as goal

pub returns-clause-rising : goal.returns-clause-rising
returns-clause-rising c =
    let old = c.in_ok-places.places.items in
    let new = c.sort_unstable_by_key.new.self.items in
    let rank = λ (p : Place). p.rank in
    let same : IsPermutation (map rank old) (map rank new) =
    IsPermutation-map rank old new c.sort_unstable_by_key.ensures.permutation in
    let ranks : map rank old ≡ ids_of (ranges_in c.args.rows.now) =
    ap (map rank) c.in_ok-places.ensures ∙ ranks_from 0 c.args.rows.now in
    let distinct : IsDistinct nat_eq (map rank old) = subst (IsDistinct nat_eq) (sym ranks)
    (ids_distinct (ranges_in c.args.rows.now) c.requires) in
    IsStrictlyIncreasing-from_distinct (map rank new)
    (mapped_rise new (IsNonDecreasingBy-from_sort_by_key rank new c.sort_unstable_by_key.ensures.sorted
    (λ a r q k. search rules)))
    (IsDistinct-IsPermutation nat_eq eq_flips (map rank old) (map rank new) same distinct)

pub returns-clause-same : goal.returns-clause-same
returns-clause-same c =
    subst (λ (ps : List Place). IsPermutation ps c.sort_unstable_by_key.new.self.items)
    c.in_ok-places.ensures c.sort_unstable_by_key.ensures.permutation
