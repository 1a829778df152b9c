-- Counts up to a bound.
use Rattle.std.proofs.Common.{◌≡◌, ℕ, ◌+◌, ◌*◌, ◌≤◌, List, [], ◌∷◌, ◌++◌, length, inl, inr, refl, ◌∙◌}
use Rattle.std.proofs.Common.{ap, arith, length-append}
use Rattle.std.specs.Prelude.{min}
use Rattle.std.specs.List.{sum_by}
use Rattle.std.proofs.lemmas.Bool.{cases_lt}
use Rattle.std.proofs.lemmas.Grind.{flat_map-append}
use Rattle.std.proofs.lemmas.List.Sums.{sum_by-cons}
use Rattle.idset_text.specs.declared.idsets.Range.{Range}
use Rattle.idset_text.specs.Idsets.{ids_of, ids_between}
use Rattle.resource_set_r.specs.declared.sets_read.RRow.{RRow}
use Rattle.resource_set_r.specs.ReadRows.{ranges_in}
use Rattle.resource_set_r.specs.declared.sets_read.RSet.{RSet}
use Rattle.flux_defs.specs.declared.limits.TheConstants.{MOST_VERTICES}
use Rattle.graph_from_r.specs.Sizes.{row_size, vertex_count}
use Rattle.graph_from_r.specs.Graphs.{HasSize}

-- a product is no less than a part of it
times_left : (a b : ℕ) → 1 ≤ b → a ≤ a * b
times_left a b some = grind arith

ids_joined : (xs ys : List Range) → ids_of (xs ++ ys) ≡ ids_of xs ++ ids_of ys
ids_joined xs ys = flat_map-append ids_between xs ys

joined_length : (row : RRow) (rows : List RRow) →
    length (ids_of (ranges_in (row ∷ rows))) ≡ length (ids_of row.ranks) + length (ids_of (ranges_in rows))
joined_length row rows = ap length (ids_joined row.ranks (ranges_in rows))
    ∙ length-append (ids_of row.ranks) (ids_of (ranges_in rows))

-- each rank gives a vertex
pub ranks_counted : (rows : List RRow) → length (ids_of (ranges_in rows)) ≤ sum_by row_size rows
ranks_counted [] = omega arith
ranks_counted (row ∷ rows) =
    let more = times_left (length (ids_of row.ranks)) (1 + length (ids_of row.cores) + length (ids_of row.gpus))
    (omega arith) in
    let rest = ranks_counted rows in
    let step = sum_by-cons row_size row rows in
    let both = joined_length row rows in
    omega (arith, more, rest, step, both)

-- and only ranks do
pub none_counted : (rows : List RRow) → length (ids_of (ranges_in rows)) ≡ 0 → sum_by row_size rows ≡ 0
none_counted [] none = refl
none_counted (row ∷ rows) none =
    let both = joined_length row rows in
    let rest = none_counted rows (omega (arith, both)) in
    let step = sum_by-cons row_size row rows in
    let zero_ranks : length (ids_of row.ranks) ≡ 0 = omega (arith, both, none) in
    let own : row_size row ≡ 0 * (1 + length (ids_of row.cores) + length (ids_of row.gpus)) =
    ap (λ n. n * (1 + length (ids_of row.cores) + length (ids_of row.gpus))) zero_ranks in
    omega (arith, rest, step, own)

pub empty_of : (ids : List ℕ) → length ids ≤ 0 → ids ≡ []
empty_of [] few = refl
empty_of (id ∷ ids) few = absurd (omega arith)

-- where only the cluster was counted there are no ranks
pub no_ranks : (rows : List RRow) (count : ℕ) → count ≡ min (vertex_count rows) 65537 → count ≡ 1 →
    ids_of (ranges_in rows) ≡ []
no_ranks rows count is one =
    let few = ranks_counted rows in
    empty_of (ids_of (ranges_in rows)) (omega arith)

-- and where more was, but not too much, the set has a graph's size
pub has_size : (set : RSet) (count : ℕ) → count ≡ min (vertex_count set.rows) 65537 → (count ≡ 1 → ⊥) →
    count ≤ MOST_VERTICES → HasSize set
has_size set count is other few = record {
  some = elim (cases_lt 0 (length (ids_of (ranges_in set.rows)))) [
    | inl some ↦ some
    | inr none ↦ absurd (let zero_sum = none_counted set.rows (omega arith) in other (omega (arith, zero_sum)))
  ];
  few = omega arith;
}
