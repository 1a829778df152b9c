-- A set with properties has one list of nodes.
use Rattle.std.proofs.Common.{◌≡◌, ◌⊎◌, ℕ, suc, ◌<◌, ◌≤◌, Bool, true, false, nat_eq, List, [], ◌∷◌, ◌++◌, length, map}
use Rattle.std.proofs.Common.{Option, Some, None, inl, inr, refl, sym, ◌∙◌, ap, subst, arith, Contains, true≢false}
use Rattle.std.specs.Ordering.{nat_cmp}
use Rattle.std.specs.declared.cmp.Ordering.TheVariants.{Less}
use Rattle.std.specs.List.{AllByRecursion, IsDistinct}
use Rattle.std.specs.List.Sorted.{IsStrictlySortedBy, IsStrictlyIncreasing}
use Rattle.std.proofs.lemmas.Bool.Decides.{eqb_tells}
use Rattle.std.proofs.lemmas.List.Elements.{Contains-append_left, Contains-append_right}
use Rattle.std.proofs.lemmas.Map.Keys.{sorted_from_strictly_increasing}
use Rattle.list_laws.proofs.Lists.{all_contained, contains_none, contains_more, heads, tails}
use Rattle.list_laws.proofs.Tests.{less_is_below}
use Rattle.idset_text.specs.Idsets.{ids_of}
use Rattle.idset_text.specs.Hostlists.{names_of}
use Rattle.resource_set_r.specs.declared.sets_read.RRow.{RRow}
use Rattle.resource_set_r.specs.declared.sets_read.RSet.{RSet}
use Rattle.resource_set_r.specs.ReadRows.{ranges_in, IsRepeatedRank}
use Rattle.resource_set_r.proofs.Members.{Stands, stands_contains, contains_stands}
use Rattle.graph_from_r.specs.declared.nodes.RNode.{RNode}
use Rattle.graph_from_r.specs.declared.properties.Property.{Property}
use Rattle.graph_from_r.specs.Properties.{names_at}
use Rattle.graph_from_r.specs.Nodes.{names_for, IsNodeOf, AreNodesOf}
use Rattle.graph_from_r.proofs.Placed.{ids_joined, ids_distinct, contains_first}

-- ---- rising lists with the same numbers

not_above : (x y : ℕ) (xs : List ℕ) → AllByRecursion (λ z. nat_cmp x z ≡ Less) xs → Contains (x ∷ xs) y → x ≤ y
not_above x y xs less has = elim (stands_contains y (x ∷ xs) has) [
  | inl same ↦ omega (arith, same)
  | inr later ↦ (let up = less_is_below x y
      (all_contained (λ z. nat_cmp x z ≡ Less) xs y less (contains_stands y xs later)) in omega (arith, up))
]

past : (x n : ℕ) (xs : List ℕ) → x < n → Contains (x ∷ xs) n → Contains xs n
past x n xs above has = elim (stands_contains n (x ∷ xs) has) [
  | inl same ↦ absurd (omega (arith, same, above))
  | inr later ↦ contains_stands n xs later
]

same_numbers : (xs ys : List ℕ) → IsStrictlySortedBy nat_cmp xs → IsStrictlySortedBy nat_cmp ys →
    ((n : ℕ) → Contains xs n → Contains ys n) → ((n : ℕ) → Contains ys n → Contains xs n) → xs ≡ ys
unfolding IsStrictlySortedBy
same_numbers [] [] s t there back = refl
same_numbers [] (y ∷ ys) s t there back = absurd (contains_none y (back y (contains_first y ys)))
same_numbers (x ∷ xs) [] s t there back = absurd (contains_none x (there x (contains_first x xs)))
same_numbers (x ∷ xs) (y ∷ ys) s t there back =
    let low = not_above x y xs s.0 (back y (contains_first y ys)) in
    let high = not_above y x ys t.0 (there x (contains_first x xs)) in
    let same : x ≡ y = omega (arith, low, high) in
    let rest = same_numbers xs ys s.1 t.1
    (λ n has. (let up = less_is_below x n (all_contained (λ z. nat_cmp x z ≡ Less) xs n s.0 has) in
    past y n ys (omega (arith, up, same)) (there n (contains_more x xs n has))))
    (λ n has. (let up = less_is_below y n (all_contained (λ z. nat_cmp y z ≡ Less) ys n t.0 has) in
    past x n xs (omega (arith, up, same)) (back n (contains_more y ys n has)))) in
    ap (λ z. z ∷ xs) same ∙ ap (λ zs. y ∷ zs) rest

pub same_rising : (xs ys : List ℕ) → IsStrictlyIncreasing xs → IsStrictlyIncreasing ys →
    ((n : ℕ) → Contains xs n → Contains ys n) → ((n : ℕ) → Contains ys n → Contains xs n) → xs ≡ ys
same_rising xs ys up rise there back =
    same_numbers xs ys (sorted_from_strictly_increasing xs up) (sorted_from_strictly_increasing ys rise) there back

-- ---- the element of a rank

distinct_rest : (xs ys : List ℕ) → IsDistinct nat_eq (xs ++ ys) → IsDistinct nat_eq ys
unfolding IsDistinct
distinct_rest [] ys d = d
distinct_rest (x ∷ xs) ys d = distinct_rest xs ys d.1

differs : (x n : ℕ) → nat_eq x n ≡ false → x ≡ n → ⊥
differs x n apart same = elim (eqb_tells x n) [
  | inl equal ↦ true≢false (sym equal.0 ∙ apart)
  | inr other ↦ other.1 same
]

not_both : (xs ys : List ℕ) (n : ℕ) → IsDistinct nat_eq (xs ++ ys) → Stands n xs → Contains ys n → ⊥
unfolding IsDistinct
not_both [] ys n d has other = absurd has
not_both (x ∷ xs) ys n d (inl same) other =
    differs x n (all_contained (λ z. nat_eq x z ≡ false) (xs ++ ys) n d.0 (Contains-append_right xs ys n other)) same
not_both (x ∷ xs) ys n d (inr later) other = not_both xs ys n d.1 later other

among_all : (rows : List RRow) (row : RRow) (rank : ℕ) → Stands row rows → Contains (ids_of row.ranks) rank →
    Contains (ids_of (ranges_in rows)) rank
among_all [] row rank listed has = absurd listed
among_all (first ∷ rows) row rank (inl same) has =
    subst (λ (ns : List ℕ). Contains ns rank) (sym (ids_joined first.ranks (ranges_in rows)))
    (Contains-append_left (ids_of first.ranks) (ids_of (ranges_in rows)) rank
    (subst (λ (r : RRow). Contains (ids_of r.ranks) rank) (sym same) has))
among_all (first ∷ rows) row rank (inr later) has =
    subst (λ (ns : List ℕ). Contains ns rank) (sym (ids_joined first.ranks (ranges_in rows)))
    (Contains-append_right (ids_of first.ranks) (ids_of (ranges_in rows)) rank (among_all rows row rank later has))

-- a rank that is first here has no later element
clash : (first : RRow) (rows : List RRow) (a b : RRow) (rank : ℕ) →
    IsDistinct nat_eq (ids_of (ranges_in (first ∷ rows))) → first ≡ a → Stands b rows →
    Contains (ids_of a.ranks) rank → Contains (ids_of b.ranks) rank → ⊥
clash first rows a b rank d same later has_a has_b =
    not_both (ids_of first.ranks) (ids_of (ranges_in rows)) rank
    (subst (IsDistinct nat_eq) (ids_joined first.ranks (ranges_in rows)) d)
    (stands_contains rank (ids_of first.ranks) (subst (λ (r : RRow). Contains (ids_of r.ranks) rank) (sym same) has_a))
    (among_all rows b rank later has_b)

one_row : (rows : List RRow) (a b : RRow) (rank : ℕ) → IsDistinct nat_eq (ids_of (ranges_in rows)) →
    Stands a rows → Stands b rows → Contains (ids_of a.ranks) rank → Contains (ids_of b.ranks) rank → a ≡ b
one_row [] a b rank d at there has_a has_b = absurd at
one_row (first ∷ rows) a b rank d (inl here) (inl same) has_a has_b = sym here ∙ same
one_row (first ∷ rows) a b rank d (inl here) (inr later) has_a has_b =
    absurd (clash first rows a b rank d here later has_a has_b)
one_row (first ∷ rows) a b rank d (inr later) (inl here) has_a has_b =
    absurd (clash first rows b a rank d here later has_b has_a)
one_row (first ∷ rows) a b rank d (inr later) (inr other) has_a has_b =
    one_row rows a b rank (distinct_rest (ids_of first.ranks) (ids_of (ranges_in rows))
    (subst (IsDistinct nat_eq) (ids_joined first.ranks (ranges_in rows)) d)) later other has_a has_b

-- ---- nodes

alike : (a b : RNode) → a.rank ≡ b.rank → a.name ≡ b.name → a.cores ≡ b.cores → a.gpus ≡ b.gpus →
    a.properties ≡ b.properties → a ≡ b
alike a b r n c g p =
    ap (λ z. record { rank = z; name = a.name; cores = a.cores; gpus = a.gpus; properties = a.properties }) r
    ∙ (ap (λ z. record { rank = b.rank; name = z; cores = a.cores; gpus = a.gpus; properties = a.properties }) n
    ∙ (ap (λ z. record { rank = b.rank; name = b.name; cores = z; gpus = a.gpus; properties = a.properties }) c
    ∙ (ap (λ z. record { rank = b.rank; name = b.name; cores = b.cores; gpus = z; properties = a.properties }) g
    ∙ ap (λ z. record { rank = b.rank; name = b.name; cores = b.cores; gpus = b.gpus; properties = z }) p)))

module _ (set : RSet) (properties : List Property) (apart : IsRepeatedRank (ranges_in set.rows) None) where
  one_node : (a b : RNode) → a.rank ≡ b.rank → a.name ≡ b.name → IsNodeOf set properties a →
      IsNodeOf set properties b → a ≡ b
  one_node a b rank name of_a of_b =
      let ra = of_a.has_row in
      let rb = of_b.has_row in
      let row = one_row set.rows ra.row rb.row a.rank (ids_distinct (ranges_in set.rows) apart)
      (stands_contains ra.row set.rows ra.listed) (stands_contains rb.row set.rows rb.listed) ra.has_rank
      (subst (Contains (ids_of rb.row.ranks)) (sym rank) rb.has_rank) in
      alike a b rank name
      (ra.cores ∙ (ap (λ (r : RRow). ids_of r.cores) row ∙ sym rb.cores))
      (ra.gpus ∙ (ap (λ (r : RRow). ids_of r.gpus) row ∙ sym rb.gpus))
      (of_a.has_properties ∙ (ap (names_at properties) rank ∙ sym of_b.has_properties))

  each_same : (ns ms : List RNode) → map (λ (n : RNode). n.rank) ns ≡ map (λ (n : RNode). n.rank) ms →
      map (λ (n : RNode). n.name) ns ≡ map (λ (n : RNode). n.name) ms →
      AllByRecursion (IsNodeOf set properties) ns → AllByRecursion (IsNodeOf set properties) ms → ns ≡ ms
  each_same [] [] ranks names of_ns of_ms = refl
  each_same [] (m ∷ ms) ranks names of_ns of_ms = absurd (cc)
  each_same (n ∷ ns) [] ranks names of_ns of_ms = absurd (cc)
  each_same (n ∷ ns) (m ∷ ms) ranks names of_ns of_ms =
      let first = one_node n m
      (heads n.rank m.rank (map (λ (x : RNode). x.rank) ns) (map (λ (x : RNode). x.rank) ms) ranks)
      (heads n.name m.name (map (λ (x : RNode). x.name) ns) (map (λ (x : RNode). x.name) ms) names) of_ns.0 of_ms.0 in
      let rest = each_same ns ms
      (tails n.rank m.rank (map (λ (x : RNode). x.rank) ns) (map (λ (x : RNode). x.rank) ms) ranks)
      (tails n.name m.name (map (λ (x : RNode). x.name) ns) (map (λ (x : RNode). x.name) ms) names) of_ns.1 of_ms.1 in
      ap (λ z. z ∷ ns) first ∙ ap (λ zs. m ∷ zs) rest

  -- the nodes of a set whose ranks are not repeated
  pub one_list : (ns ms : List RNode) → AreNodesOf set properties ns → AreNodesOf set properties ms → ns ≡ ms
  one_list ns ms a b =
      let ranks = same_rising (map (λ (n : RNode). n.rank) ns) (map (λ (n : RNode). n.rank) ms) a.rising b.rising
      (λ n has. (b.ranks n).1 ((a.ranks n).0 has)) (λ n has. (a.ranks n).1 ((b.ranks n).0 has)) in
      let names : map (λ (n : RNode). n.name) ns ≡ map (λ (n : RNode). n.name) ms =
      a.names ∙ (ap (λ rs. names_for rs (names_of set.hosts)) ranks ∙ sym b.names) in
      each_same ns ms ranks names a.each b.each
