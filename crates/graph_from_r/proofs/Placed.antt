-- What is known of the ranks of a set's elements, and of nodes that are made of them.
use Rattle.std.proofs.Common.{◌≡◌, ◌⊎◌, ℕ, suc, ◌+◌, ◌*◌, ◌<◌, ◌≤◌, Bool, true, false, cond, nat_eq, codes, List, []}
use Rattle.std.proofs.Common.{◌∷◌, ◌++◌, length, map, Option, Some, None, inl, inr, refl, sym, ◌∙◌, ap, subst, arith}
use Rattle.std.proofs.Common.{length-append, Contains, get_or}
use Rattle.std.specs.Prelude.{slice_get}
use Rattle.std.specs.Option.{option_map_or}
use Rattle.std.specs.List.{AllByRecursion, sum_by, count_by, IsDistinct}
use Rattle.std.specs.List.Sorted.{IsNonDecreasingBy, IsNonDecreasing}
use Rattle.std.proofs.lemmas.List.{length-map, map-append}
use Rattle.std.proofs.lemmas.Grind.{flat_map-append}
use Rattle.std.proofs.lemmas.List.Sums.{sum_by-cons, sum_by-append}
use Rattle.std.proofs.lemmas.Bool.{cases_lt}
use Rattle.std.proofs.lemmas.Option.{slice_get_within, get_or_from_slice_get, slice_get-get_or}
use Rattle.std.proofs.lemmas.Bool.Decides.{eqb_tells}
use Rattle.list_laws.proofs.Lists.{all_append, all_along, all_at, contains_more}
use Rattle.idset_text.specs.declared.idsets.Range.{Range}
use Rattle.idset_text.specs.Idsets.{ids_of, ids_between}
use Rattle.resource_set_r.specs.declared.sets_read.RRow.{RRow}
use Rattle.resource_set_r.specs.declared.sets_read.RSet.{RSet}
use Rattle.resource_set_r.specs.ReadRows.{ranges_in, IsRepeatedRank}
use Rattle.resource_set_r.proofs.IdsBack.{covers_ids}
use Rattle.graph_from_r.specs.declared.nodes.RNode.{RNode}
use Rattle.graph_from_r.specs.declared.places.Place.{Place}
use Rattle.graph_from_r.specs.declared.properties.Property.{Property}
use Rattle.graph_from_r.specs.Sizes.{row_size}
use Rattle.graph_from_r.specs.Places.{placed, places_of, places_from}
use Rattle.graph_from_r.specs.Nodes.{cores_at, gpus_at, node_at, nodes_at, HasRow, IsNodeOf}
use Rattle.graph_from_r.specs.Vertices.{node_vertex, device, own_devices, devices_of, r_vertices}
use Rattle.graph_from_r.specs.Graphs.{RiseFrom, IsFair, HasFairRows}
use Rattle.graph_from_r.proofs.Spots.{get_mapped}

-- ---- the ranks of places

ranks_placed : (at : ℕ) (ranks : List ℕ) → map (λ (p : Place). p.rank) (placed at ranks) ≡ ranks
ranks_placed at [] = refl
ranks_placed at (rank ∷ ranks) = ap (λ rs. rank ∷ rs) (ranks_placed at ranks)

pub ids_joined : (xs ys : List Range) → ids_of (xs ++ ys) ≡ ids_of xs ++ ids_of ys
ids_joined xs ys = flat_map-append ids_between xs ys

pub ranks_from : (at : ℕ) (rows : List RRow) → map (λ (p : Place). p.rank) (places_from at rows) ≡ ids_of
    (ranges_in rows)
ranks_from at [] = refl
ranks_from at (row ∷ rows) =
    map-append (λ (p : Place). p.rank) (places_of at row.ranks) (places_from (suc at) rows)
    ∙ (ap (λ xs. xs ++ map (λ (p : Place). p.rank) (places_from (suc at) rows)) (ranks_placed at (ids_of row.ranks))
    ∙ (ap (λ ys. ids_of row.ranks ++ ys) (ranks_from (suc at) rows)
    ∙ sym (ids_joined row.ranks (ranges_in rows))))

-- ---- the elements of places

-- the place's element is there and has the rank
pub record HasPlace (rows : List RRow) (p : Place) : Type 0 where
  pub row : RRow
  pub there : slice_get rows p.row ≡ Some row
  pub has_rank : Contains (ids_of row.ranks) p.rank

pub contains_first : {X : Type 0} (x : X) (xs : List X) → Contains (x ∷ xs) x
contains_first x xs = (0, omega arith, refl)

contains_all : (xs : List ℕ) → AllByRecursion (λ x. Contains xs x) xs
contains_all [] = tt
contains_all (x ∷ xs) = (
  contains_first x xs,
  all_along (λ y. Contains xs y) (λ y. Contains (x ∷ xs) y) (λ y has. contains_more x xs y has) xs (contains_all xs),
)

own_places : (all : List RRow) (at : ℕ) (row : RRow) (ranks : List ℕ) → slice_get all at ≡ Some row →
    AllByRecursion (λ rank. Contains (ids_of row.ranks) rank) ranks → AllByRecursion (HasPlace all) (placed at ranks)
own_places all at row [] there has = tt
own_places all at row (rank ∷ ranks) there has = (
  record { row = row; there = there; has_rank = has.0 },
  own_places all at row ranks there has.1,
)

pub places_are : (all : List RRow) (at : ℕ) (rows : List RRow) →
    ((k : ℕ) (row : RRow) → slice_get rows k ≡ Some row → slice_get all (at + k) ≡ Some row) →
    AllByRecursion (HasPlace all) (places_from at rows)
places_are all at [] each = tt
places_are all at (row ∷ rows) each = all_append (HasPlace all) (places_of at row.ranks) (places_from (suc at) rows)
    (own_places all at row (ids_of row.ranks) (subst (λ n. slice_get all n ≡ Some row) (omega arith) (each 0 row refl))
    (contains_all (ids_of row.ranks)))
    (places_are all (suc at) rows (λ k x there. subst (λ n. slice_get all n ≡ Some x) (omega arith)
    (each (suc k) x there)))

-- ---- how many vertices places have

pub place_size : List RRow → Place → ℕ
place_size rows p = option_map_or (λ row. 1 + length (ids_of row.cores) + length (ids_of row.gpus))
    (slice_get rows p.row) 0

own_size : (all : List RRow) (at : ℕ) (row : RRow) (ranks : List ℕ) → slice_get all at ≡ Some row →
    sum_by (place_size all) (placed at ranks) ≡ length ranks *
    (1 + length (ids_of row.cores) + length (ids_of row.gpus))
unfolding place_size
own_size all at row [] there = omega arith
own_size all at row (rank ∷ ranks) there =
    let one = length (ids_of row.cores) in
    let two = length (ids_of row.gpus) in
    let here : place_size all (record { rank = rank; row = at }) ≡ 1 + one + two =
    ap (λ (o : Option RRow). option_map_or (λ row. 1 + length (ids_of row.cores) + length (ids_of row.gpus)) o 0) there
    in
    let step = sum_by-cons (place_size all) (record { rank = rank; row = at }) (placed at ranks) in
    let rest = own_size all at row ranks there in
    let more : suc (length ranks) * (1 + one + two) ≡ (1 + one + two) + length ranks * (1 + one + two) = grind arith in
    step ∙ (ap (λ n. n + sum_by (place_size all) (placed at ranks)) here ∙ (ap (λ n. (1 + one + two) + n) rest
    ∙ sym more))

pub size_from : (all : List RRow) (at : ℕ) (rows : List RRow) →
    ((k : ℕ) (row : RRow) → slice_get rows k ≡ Some row → slice_get all (at + k) ≡ Some row) →
    sum_by (place_size all) (places_from at rows) ≡ sum_by row_size rows
size_from all at [] each = refl
size_from all at (row ∷ rows) each =
    sum_by-append (place_size all) (places_of at row.ranks) (places_from (suc at) rows)
    ∙ (ap (λ n. n + sum_by (place_size all) (places_from (suc at) rows)) (own_size all at row (ids_of row.ranks)
    (subst (λ n. slice_get all n ≡ Some row) (omega arith) (each 0 row refl)))
    ∙ (ap (λ n. row_size row + n) (size_from all (suc at) rows
    (λ k x there. subst (λ n. slice_get all n ≡ Some x) (omega arith) (each (suc k) x there)))
    ∙ sym (sum_by-cons row_size row rows)))

-- ---- sorted places

-- numbers of which each stands once differ
none_equal : (x : ℕ) (xs : List ℕ) → count_by (nat_eq x) xs ≡ 0 → AllByRecursion (λ y. nat_eq x y ≡ false) xs
none_equal x [] none = tt
none_equal x (y ∷ ys) none = by (nat_eq x y) refl
    (sym (sum_by-cons (λ z. cond (nat_eq x z) 1 0) y ys) ∙ none) (none_equal x ys)
  where
    by : (b : Bool) → nat_eq x y ≡ b → cond b 1 0 + count_by (nat_eq x) ys ≡ 0 →
        (count_by (nat_eq x) ys ≡ 0 → AllByRecursion (λ z. nat_eq x z ≡ false) ys) →
        (nat_eq x y ≡ false) × AllByRecursion (λ z. nat_eq x z ≡ false) ys
    by true e sum rest = absurd (let two : 1 + count_by (nat_eq x) ys ≡ 0 = sum in omega arith)
    by false e sum rest = (e, rest (let none : 0 + count_by (nat_eq x) ys ≡ 0 = sum in omega arith))

itself : (x : ℕ) → nat_eq x x ≡ true
itself x = elim (eqb_tells x x) [ inl same ↦ same.0 | inr differ ↦ absurd (differ.1 refl) ]

pub distinct_of : (xs : List ℕ) → ((x : ℕ) → count_by (nat_eq x) xs ≤ 1) → IsDistinct nat_eq xs
unfolding IsDistinct
distinct_of [] once = tt
distinct_of (x ∷ xs) once = (none_equal x xs none, distinct_of xs fewer)
  where
    none : count_by (nat_eq x) xs ≡ 0
    none =
        let step : count_by (nat_eq x) (x ∷ xs) ≡ cond (nat_eq x x) 1 0 + count_by (nat_eq x) xs =
        sum_by-cons (λ z. cond (nat_eq x z) 1 0) x xs in
        let one : cond (nat_eq x x) 1 0 ≡ 1 = ap (λ (b : Bool). cond {A = ℕ} b 1 0) (itself x) in
        let most = once x in
        omega (arith, step, one, most)

    fewer : (y : ℕ) → count_by (nat_eq y) xs ≤ 1
    fewer y =
        let step : count_by (nat_eq y) (x ∷ xs) ≡ cond (nat_eq y x) 1 0 + count_by (nat_eq y) xs =
        sum_by-cons (λ z. cond (nat_eq y z) 1 0) x xs in
        let most = once y in
        omega (arith, step, most)

pub ids_distinct : (ranges : List Range) → IsRepeatedRank ranges None → IsDistinct nat_eq (ids_of ranges)
ids_distinct ranges none = distinct_of (ids_of ranges) (λ x. elim (most x) [
  | inl few ↦ few
  | inr many ↦ absurd
      (none x (let same = covers_ids ranges x in omega (arith, same, many)))
])
  where
    most : (x : ℕ) → (count_by (nat_eq x) (ids_of ranges) ≤ 1) ⊎ (1 < count_by (nat_eq x) (ids_of ranges))
    most x = elim (cases_lt 1 (count_by (nat_eq x) (ids_of ranges))) [ inl lt ↦ inr lt | inr le ↦ inl le ]

-- ---- the nodes of places

module _ (rows : List RRow) (properties : List Property) where
  pub node_ranks : (places : List Place) (names : List (List ℕ)) → length names ≡ length places →
      map (λ (n : RNode). n.rank) (nodes_at rows properties places names) ≡ map (λ (p : Place). p.rank) places
  node_ranks [] names long = refl
  node_ranks (p ∷ places) [] long = absurd (omega arith)
  node_ranks (p ∷ places) (name ∷ names) long = ap (λ rs. p.rank ∷ rs) (node_ranks places names (omega arith))

  pub node_names : (places : List Place) (names : List (List ℕ)) → length names ≡ length places →
      map (λ (n : RNode). n.name) (nodes_at rows properties places names) ≡ names
  node_names [] [] long = refl
  node_names [] (name ∷ names) long = absurd (omega arith)
  node_names (p ∷ places) [] long = absurd (omega arith)
  node_names (p ∷ places) (name ∷ names) long = ap (λ ns. name ∷ ns) (node_names places names (omega arith))

  cores_are : (at : ℕ) (row : RRow) → slice_get rows at ≡ Some row → cores_at rows at ≡ ids_of row.cores
  cores_are at row there = ap (λ (o : Option RRow). option_map_or (λ r. ids_of r.cores) o []) there

  gpus_are : (at : ℕ) (row : RRow) → slice_get rows at ≡ Some row → gpus_at rows at ≡ ids_of row.gpus
  gpus_are at row there = ap (λ (o : Option RRow). option_map_or (λ r. ids_of r.gpus) o []) there

  listed : (at : ℕ) (row : RRow) → slice_get rows at ≡ Some row → Contains rows row
  listed at row there =
      (at, slice_get_within rows at row there, get_or_from_slice_get rows at row row there)

  pub nodes_are : (set : RSet) → set.rows ≡ rows → (places : List Place) (names : List (List ℕ)) →
      AllByRecursion (HasPlace rows) places →
      AllByRecursion (IsNodeOf set properties) (nodes_at rows properties places names)
  nodes_are set same [] names have = tt
  nodes_are set same (p ∷ places) [] have = tt
  nodes_are set same (p ∷ places) (name ∷ names) have = (
    record {
      has_row = subst (λ (rs : List RRow). HasRow rs (node_at rows properties p name)) (sym same) (record {
        row = have.0.row;
        listed = listed p.row have.0.row have.0.there;
        has_rank = have.0.has_rank;
        cores = cores_are p.row have.0.row have.0.there;
        gpus = gpus_are p.row have.0.row have.0.there;
      });
      has_properties = refl;
    },
    nodes_are set same places names have.1,
  )

  pub nodes_fair : (places : List Place) (names : List (List ℕ)) → HasFairRows rows →
      AllByRecursion (HasPlace rows) places → AllByRecursion IsFair (nodes_at rows properties places names)
  nodes_fair [] names fair have = tt
  nodes_fair (p ∷ places) [] fair have = tt
  nodes_fair (p ∷ places) (name ∷ names) fair have =
      let own = all_at (λ row. RiseFrom 0 (ids_of row.cores) × RiseFrom 0 (ids_of row.gpus)) rows p.row have.0.row fair
      have.0.there in (
        (
          subst (RiseFrom 0) (sym (cores_are p.row have.0.row have.0.there)) own.0,
          subst (RiseFrom 0) (sym (gpus_are p.row have.0.row have.0.there)) own.1,
        ),
        nodes_fair places names fair have.1,
      )

  pub nodes_long : (at : ℕ) (places : List Place) (names : List (List ℕ)) → length names ≡ length places →
      AllByRecursion (HasPlace rows) places →
      length (nodes_at rows properties places names) + length (devices_of at (nodes_at rows properties places names))
      ≡ sum_by (place_size rows) places
  unfolding place_size
  nodes_long at [] names long have = refl
  nodes_long at (p ∷ places) [] long have = absurd (omega arith)
  nodes_long at (p ∷ places) (name ∷ names) long have =
      let node = node_at rows properties p name in
      let others = nodes_at rows properties places names in
      let row = have.0.row in
      let rest = nodes_long (suc at) places names (omega arith) have.1 in
      let step = sum_by-cons (place_size rows) p places in
      let here : place_size rows p ≡ 1 + length (ids_of row.cores) + length (ids_of row.gpus) =
      ap (λ (o : Option RRow). option_map_or (λ r. 1 + length (ids_of r.cores) + length (ids_of r.gpus)) o 0)
      have.0.there in
      let cores = ap length (cores_are p.row row have.0.there) in
      let gpus = ap length (gpus_are p.row row have.0.there) in
      let whole = length-append (own_devices at node) (devices_of (suc at) others) in
      let both = length-append (map (device 2 (codes "core") at) node.cores)
      (map (device 3 (codes "gpu") at) node.gpus) in
      let one = length-map node.cores (device 2 (codes "core") at) in
      let two = length-map node.gpus (device 3 (codes "gpu") at) in
      omega (arith, rest, step, here, cores, gpus, whole, both, one, two)

-- how long the list of vertices is
pub vertices_long : (nodes : List RNode) → length (r_vertices nodes) ≡ 1 + (length nodes + length (devices_of 1 nodes))
vertices_long nodes =
    let whole = length-append (map node_vertex nodes) (devices_of 1 nodes) in
    let own = length-map nodes node_vertex in
    omega (arith, whole, own)

-- ---- orders

pub eq_flips : (x y : ℕ) → nat_eq x y ≡ nat_eq y x
eq_flips x y = elim (eqb_tells x y) [
  | inl same ↦ elim (eqb_tells y x) [
    | inl back ↦ same.0 ∙ sym back.0
    | inr other ↦ absurd (other.1 (sym same.1))
  ]
  | inr differ ↦ elim (eqb_tells y x) [
    | inl back ↦ absurd (differ.1 (sym back.1))
    | inr other ↦ differ.0 ∙ sym other.0
  ]
]

pub mapped_rise : (places : List Place) → IsNonDecreasingBy (λ p. p.rank) places →
    IsNonDecreasing (map (λ (p : Place). p.rank) places)
mapped_rise places rise i j d le lt =
    let list = map (λ (p : Place). p.rank) places in
    let long = length-map places (λ (p : Place). p.rank) in
    let x = get_mapped (λ (p : Place). p.rank) places i (get_or list i d) (slice_get-get_or list i d (omega arith)) in
    let y = get_mapped (λ (p : Place). p.rank) places j (get_or list j d) (slice_get-get_or list j d lt) in
    let up : (get_or places i x.0).rank ≤ (get_or places j x.0).rank = rise i j x.0 le (omega arith) in
    let at_i = ap (λ (p : Place). p.rank) (get_or_from_slice_get places i x.0 x.0 x.1) in
    let at_j = ap (λ (p : Place). p.rank) (get_or_from_slice_get places j y.0 x.0 y.1) in
    let own_i = x.2 in
    let own_j = y.2 in
    omega (arith, up, at_i, at_j, own_i, own_j)
