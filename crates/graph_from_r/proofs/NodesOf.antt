-- The nodes that are made of a set's ranks in rising order.
use Rattle.std.proofs.Common.{◌≡◌, ◌⊎◌, ℕ, ◌<◌, List, [], ◌∷◌, length, map, Some, inl, inr, refl, sym, ◌∙◌}
use Rattle.std.proofs.Common.{ap, subst, arith, Contains}
use Rattle.std.specs.Prelude.{slice_get}
use Rattle.std.specs.List.{AllByRecursion}
use Rattle.std.specs.List.Sorted.{IsPermutation, IsStrictlyIncreasing}
use Rattle.std.proofs.lemmas.List.{length-map}
use Rattle.std.proofs.lemmas.List.Elements.{All-from_recursion}
use Rattle.std.proofs.lemmas.List.Sorted.{length_permutation, IsPermutation-map, IsPermutation-sym, All-permutation}
use Rattle.std.proofs.lemmas.List.Sorted.{Contains-permutation, sum_by-IsPermutation}
use Rattle.std.proofs.lemmas.Option.{slice_get_within, get_or_from_slice_get}
use Rattle.list_laws.proofs.Lists.{all_from, all_along}
use Rattle.idset_text.specs.Idsets.{ids_of}
use Rattle.idset_text.specs.Hostlists.{names_of}
use Rattle.resource_set_r.specs.declared.sets_read.RSet.{RSet}
use Rattle.resource_set_r.specs.ReadRows.{ranges_in}
use Rattle.graph_from_r.specs.declared.places.Place.{Place}
use Rattle.graph_from_r.specs.declared.properties.Property.{Property}
use Rattle.graph_from_r.specs.Places.{places_from}
use Rattle.graph_from_r.specs.Nodes.{nodes_at, names_for, plain_name, HasHosts, AreNodesOf}
use Rattle.graph_from_r.specs.Graphs.{HasSize, HasFairRows, AreFairNodes}
use Rattle.graph_from_r.proofs.Placed.{HasPlace, places_are, ranks_from, size_from, place_size, node_ranks, node_names}
use Rattle.graph_from_r.proofs.Placed.{nodes_are, nodes_fair, nodes_long, vertices_long}

-- what holds of each of a list holds of each of the list in another order
pub permuted : {X : Type 0} (P : X → Type 0) (xs ys : List X) → IsPermutation xs ys → AllByRecursion P xs →
    AllByRecursion P ys
permuted P xs ys same all =
    let each = All-permutation P xs ys same (All-from_recursion P xs all) in
    all_from P ys (λ i y there. subst P (get_or_from_slice_get ys i y y there)
    (each i y (slice_get_within ys i y there)))

names_len : (ranks : List ℕ) (hosts : List (List ℕ)) → (hosts ≡ []) ⊎ (length hosts ≡ length ranks) →
    length (names_for ranks hosts) ≡ length ranks
names_len ranks [] h = length-map ranks plain_name
names_len ranks (host ∷ hosts) (inl e) = absurd (cc)
names_len ranks (host ∷ hosts) (inr e) = e

module _ (set : RSet) (places : List Place) (same : IsPermutation (places_from 0 set.rows) places) where
  pub have : AllByRecursion (HasPlace set.rows) places
  have = permuted (HasPlace set.rows) (places_from 0 set.rows) places same
      (places_are set.rows 0 set.rows (λ k row there. subst (λ n. slice_get set.rows n ≡ Some row) (omega arith) there))

  pub rows_there : AllByRecursion (λ p. p.row < length set.rows) places
  rows_there = all_along (HasPlace set.rows) (λ p. p.row < length set.rows)
      (λ p has. slice_get_within set.rows p.row has.row has.there) places have

  same_ranks : IsPermutation (ids_of (ranges_in set.rows)) (map (λ (p : Place). p.rank) places)
  same_ranks = subst (λ (rs : List ℕ). IsPermutation rs (map (λ (p : Place). p.rank) places)) (ranks_from 0 set.rows)
      (IsPermutation-map (λ (p : Place). p.rank) (places_from 0 set.rows) places same)

  pub names_long : HasHosts set →
      length (names_for (map (λ (p : Place). p.rank) places) (names_of set.hosts)) ≡ length places
  names_long hosts =
      let ranks = map (λ (p : Place). p.rank) places in
      let count = length_permutation (ids_of (ranges_in set.rows)) ranks same_ranks in
      names_len ranks (names_of set.hosts) (elim hosts [
        | inl none ↦ inl none
        | inr fit ↦ inr (fit ∙ sym count)
      ])
      ∙ length-map places (λ (p : Place). p.rank)

  pub are_nodes : (properties : List Property) (names : List (List ℕ)) →
      names ≡ names_for (map (λ (p : Place). p.rank) places) (names_of set.hosts) →
      length names ≡ length places → IsStrictlyIncreasing (map (λ (p : Place). p.rank) places) →
      AreNodesOf set properties (nodes_at set.rows properties places names)
  are_nodes properties names named long rise =
      let nodes = nodes_at set.rows properties places names in
      let ranks = node_ranks set.rows properties places names long in
      record {
        rising = subst IsStrictlyIncreasing (sym ranks) rise;
        ranks = λ rank. (
          λ has. Contains-permutation (map (λ (p : Place). p.rank) places) (ids_of (ranges_in set.rows)) rank
              (IsPermutation-sym (ids_of (ranges_in set.rows)) (map (λ (p : Place). p.rank) places) same_ranks)
              (subst (λ (rs : List ℕ). Contains rs rank) ranks has),
          λ has. subst (λ (rs : List ℕ). Contains rs rank) (sym ranks)
              (Contains-permutation (ids_of (ranges_in set.rows)) (map (λ (p : Place). p.rank) places) rank same_ranks
              has),
        );
        names = node_names set.rows properties places names long
            ∙ (named ∙ ap (λ rs. names_for rs (names_of set.hosts)) (sym ranks));
        each = nodes_are set.rows properties set refl places names have;
      }

  pub are_fair : (properties : List Property) (names : List (List ℕ)) → length names ≡ length places →
      IsStrictlyIncreasing (map (λ (p : Place). p.rank) places) → HasSize set → HasFairRows set.rows →
      AreFairNodes (nodes_at set.rows properties places names)
  are_fair properties names long rise size fair =
      let nodes = nodes_at set.rows properties places names in
      let ranks = node_ranks set.rows properties places names long in
      let whole = vertices_long nodes in
      let own = nodes_long set.rows properties 1 places names long have in
      let sum = sum_by-IsPermutation (place_size set.rows) (places_from 0 set.rows) places same in
      let all = size_from set.rows 0 set.rows (λ k row there. subst (λ n. slice_get set.rows n ≡ Some row)
      (omega arith) there) in
      record {
        few = (let most = size.few in omega (arith, whole, own, sum, all, most));
        ranks = subst IsStrictlyIncreasing (sym ranks) rise;
        each = nodes_fair set.rows properties places names fair have;
      }
