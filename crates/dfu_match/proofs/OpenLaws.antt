-- Which vertices are open for a need: what a walk that looks from the top comes to.
use Rattle.std.proofs.Common.{◌≡◌, ℕ, ◌+◌, ◌*◌, ◌<◌, ◌≤◌, ◌==◌, Bool, List, [], ◌∷◌, inl, inr, Option, Some, None}
use Rattle.std.proofs.Common.{length, sym, ◌∙◌, subst, arith, IsTrue}
use Rattle.std.proofs.lemmas.Bool.{cases_lt}
use Rattle.std.proofs.Math.Nat.{mul-le-mul_right}
use Rattle.std.specs.List.{AllByRecursion}
use Rattle.flux_defs.specs.declared.vertices.Vertex.{Vertex}
use Rattle.flux_defs.specs.declared.claims.Claim.{Claim}
use Rattle.flux_defs.specs.declared.claims.Window.{Window}
use Rattle.flux_defs.specs.declared.requests.Need.{Need, Vert, Vert', Pool, Spread, Spread'}
use Rattle.flux_defs.specs.Free.{total_at}
use Rattle.flux_defs.specs.Graph.{ResourceGraph, HasKind, parent_of, is_at_or_below}
use Rattle.flux_defs.specs.ValidGraph.{IsValidGraph}
use Rattle.flux_defs.specs.Needs.{amount_of, AreValidNeeds}
use Rattle.flux_defs.specs.Present.{Present}
use Rattle.graph_laws.proofs.Containment.{below_self, below_parent, below_trans, below_le, below_from, below_to}
use Rattle.graph_laws.proofs.Containment.{parent_below}
use Rattle.graph_laws.proofs.Preorder.{parents_first, between_below}
use Rattle.resource_graph.specs.Tables.{IsPast}
use Rattle.prune_filters.specs.Demands.{one_if, demand, row_demand, needs_demand, capped}
use Rattle.prune_filters.specs.Shorts.{IsShortFor}
use Rattle.dfu_match.specs.Searches.{IsKindOfNeed}
use Rattle.dfu_match.specs.Walks.{IsParentFrom, ServesNone}
use Rattle.dfu_match.specs.Pairs.{AsksWithin, IsClearWithin}
use Rattle.dfu_match.specs.Pairs.{IsOpenFor, IsClear, IsClearScope, IsClearBetween, IsClearBefore, IsSpanOf}
use Rattle.list_laws.proofs.Lists.{all_along}
use Rattle.match_laws.proofs.NeedLists.{server}
use Rattle.prune_laws.proofs.Demanded.{amount_some}
use Rattle.dfu_match.proofs.DemandLaws.{demand_Vert, demand_Spread}

module _ (g : ResourceGraph) (names : List (List ℕ)) (valid : IsValidGraph g names) where
  -- what is above a vertex, and isn't it, is its parent or above that
  above_parent : (v p u : ℕ) → v < length g.vertices → parent_of g.vertices v ≡ Some p → u < v →
      IsTrue (is_at_or_below g.vertices v u) → IsTrue (is_at_or_below g.vertices p u)
  above_parent v p u lt is less above =
      let first = parents_first g valid.preorder in
      let r = parent_below g.vertices first v u lt
      (below_from g.vertices first v u (λ e. omega (arith, e, less)) above) in
      let same : r.0 ≡ p = (let both : Some r.0 ≡ Some p = sym r.1 ∙ is in cc) in
      subst (λ q. IsTrue (is_at_or_below g.vertices q u)) same r.2

  -- no vertex after a scope's is in it
  pub past_within : (scope : Option ℕ) (from to v past : ℕ) → IsSpanOf g.vertices scope from to → from ≤ v → v < to →
      IsPast g.vertices v past → past ≤ to
  past_within None from to v past span lo hi is = let e = span.1 in let w = is.within in omega (arith, e, w)
  past_within (Some s) from to v past span lo hi is = elim (cases_lt to past) [
    | inr few ↦ few
    | inl over ↦ (
        let first = parents_first g valid.preorder in
        let within = is.within in
        let e = span.0 in
        let here = is.covered to (omega arith) over in
        let there = span.1.covered v (omega arith) hi in
        let lt : to < length g.vertices = omega arith in
        let clash : to < to = span.1.whole to lt (below_trans g.vertices first to v s lt here there) in
        omega (arith, clash))
  ]

  -- a scope has one span
  past_one : (v a b : ℕ) → IsPast g.vertices v a → IsPast g.vertices v b → a ≤ b
  past_one v a b p q = elim (cases_lt b a) [
    | inr le ↦ le
    | inl over ↦ (
        let within = p.within in
        let later = q.later in
        let lt : b < length g.vertices = omega arith in
        let clash : b < b = q.whole b lt (p.covered b (omega arith) over) in
        omega (arith, clash))
  ]

  pub span_same : (scope : Option ℕ) (a b c d : ℕ) → IsSpanOf g.vertices scope a b → IsSpanOf g.vertices scope c d →
      (a ≡ c) × (b ≡ d)
  span_same None a b c d s t = (s.0 ∙ sym t.0, s.1 ∙ sym t.1)
  span_same (Some v) a b c d s t = (
    s.0 ∙ sym t.0,
    (let x = past_one v b d s.1 t.1 in let y = past_one v d b t.1 s.1 in omega (arith, x, y)),
  )

  module _ (present : Present) (w : Window) (keeps : ℕ → ℕ → Type 0) (need : Need) where
    abbrev short : ℕ → Type 0
    short = IsShortFor g.vertices present w keeps need

    abbrev between : ℕ → ℕ → ℕ → Type 0
    between = IsClearBetween g.vertices present w keeps need

    abbrev before : ℕ → ℕ → Type 0
    before = IsClearBefore g.vertices present w keeps need

    -- a vertex is open where those above it are clear, the ones before `low` and the others
    pub open_here : (v low : ℕ) → between v 0 low → between v low v → IsOpenFor g.vertices present w keeps need v
    open_here v low before' after u below is =
        let first = parents_first g valid.preorder in
        let b = below_to g.vertices first v u below in
        let le = below_le g.vertices first v u b.0 in
        let ne = b.1 in
        elim (cases_lt u low) [
          | inl less ↦ before' u (omega arith) less b.0 is
          | inr more ↦ after u more (omega arith) b.0 is
        ]

    -- what is clear above a vertex is so above its parent
    pub clear_parent : (v p low : ℕ) → v < length g.vertices → parent_of g.vertices v ≡ Some p → between v 0 low →
        between p 0 low
    clear_parent v p low lt is clear u lo hi above =
        let first = parents_first g valid.preorder in
        clear u lo hi (below_trans g.vertices first v p u lt (below_parent g.vertices first v p lt is) above)

    -- and what is clear above the parent is so above the vertex
    pub clear_child : (v p low to : ℕ) → v < length g.vertices → parent_of g.vertices v ≡ Some p → to ≤ v →
        between p low to → between v low to
    clear_child v p low to lt is le clear u lo hi above =
        clear u lo hi (above_parent v p u lt is (omega arith) above)

    -- up to the parent is up to the vertex
    pub clear_upto : (v p low : ℕ) → v < length g.vertices → parent_of g.vertices v ≡ Some p →
        between p low (p + 1) → between v low v
    clear_upto v p low lt is clear u lo hi above =
        let first = parents_first g valid.preorder in
        let up = above_parent v p u lt is hi above in
        let le = below_le g.vertices first p u up in
        clear u lo (omega (arith, le)) up

    -- a vertex whose parent is before `low` has none above it from there on
    pub clear_alone : (v low : ℕ) → v < length g.vertices → IsParentFrom g.vertices v low None → between v low v
    clear_alone v low lt none u lo hi above is =
        let first = parents_first g valid.preorder in
        let r = parent_below g.vertices first v u lt
        (below_from g.vertices first v u (λ e. omega (arith, e, hi)) above) in
        let le = below_le g.vertices first r.0 u r.2 in
        let less = none r.0 r.1 in
        omega (arith, le, less, lo)

    -- and the vertex itself
    pub clear_own : (v low : ℕ) → between v low v → (short v → ⊥) → between v low (v + 1)
    clear_own v low clear own u lo hi above is = elim (cases_lt u v) [
      | inl less ↦ clear u lo less above is
      | inr same ↦ (let e : u ≡ v = omega arith in own (subst short e is))
    ]

    -- where a walk begins
    pub clear_start : (scope : Option ℕ) (from to : ℕ) → IsSpanOf g.vertices scope from to → to ≤ length g.vertices →
        IsClearScope g.vertices present w keeps scope need → before from to
    clear_start None from to span most clear v lo hi u l h above is = let e = span.0 in omega (arith, e, h)
    clear_start (Some s) from to span most clear v lo hi u l h above is =
        let e = span.0 in
        clear u (between_below g valid.preorder u s v (omega arith) (omega arith) (omega arith) above) is

    -- the vertex that a walk finds is clear
    pub clear_found : (from to v : ℕ) → before from to → from ≤ v → v < to → between v from (v + 1) →
        IsClear g.vertices present w keeps need v
    clear_found from to v clear lo hi own u above is =
        let first = parents_first g valid.preorder in
        let le = below_le g.vertices first v u above in
        elim (cases_lt u from) [
          | inl less ↦ clear v lo hi u (omega arith) less above is
          | inr more ↦ own u more (omega arith) above is
        ]

    -- past a subtree, of which no vertex above its top is short
    pub clear_past : (from to v top past : ℕ) → to ≤ length g.vertices → before from to → from ≤ top → v < to →
        v < length g.vertices → IsTrue (is_at_or_below g.vertices v top) → between v from top →
        IsPast g.vertices top past → before past to
    clear_past from to v top past most clear lo hi lt at own is x xlo xhi u ulo uhi above fail =
        let first = parents_first g valid.preorder in
        let later = is.later in
        let le = below_le g.vertices first v top at in
        elim (cases_lt u from) [
          | inl less ↦ clear x (omega arith) xhi u (omega arith) less above fail
          | inr more ↦ elim (cases_lt u top) [
            | inl over ↦ (
                let up = between_below g valid.preorder u top x (omega arith) (omega arith) (omega arith) above in
                own u more over (below_trans g.vertices first v top u lt at up) fail)
            | inr under ↦ (
                let inside = below_trans g.vertices first x u top (omega arith) above (is.covered u under uhi) in
                let clash : x < past = is.whole x (omega arith) inside in
                omega (arith, clash, xlo))
          ]
        ]

    -- past a vertex that is open
    pub clear_next : (from to v past : ℕ) → to ≤ length g.vertices → before from to → from ≤ v → v < to →
        IsOpenFor g.vertices present w keeps need v → IsPast g.vertices v past → before past to
    clear_next from to v past most clear lo hi own is =
        let first = parents_first g valid.preorder in
        clear_past from to v v past most clear lo hi (omega arith) (below_self g.vertices first v (omega arith))
        (λ u l h above. own u (below_from g.vertices first v u (λ e. omega (arith, e, h)) above)) is

    -- a vertex that a walk finds, of which those above it were asked, and itself where something is asked within it
    pub clear_within : (from to v : ℕ) → v < length g.vertices → before from to → from ≤ v → v < to → between v from v →
        (AsksWithin need → short v → ⊥) → IsClearWithin g.vertices present w keeps need v
    clear_within from to v lt clear lo hi over own = (
      open_here v from (clear v lo hi) over,
      λ asks. clear_found from to v clear lo hi (clear_own v from over (own asks)),
    )

    -- a vertex that is short for no need is so for none that demands less
    clear_less : (less : Need) (v : ℕ) → ((kind : ℕ) → demand g.vertices kind 1 less ≤ demand g.vertices kind 1 need) →
        IsClear g.vertices present w keeps need v → IsClear g.vertices present w keeps less v
    clear_less less v le clear u above is =
        let few = le is.0 in
        let m = is.1.1.0 in
        let under : total_at g.vertices present is.0 m u < capped (demand g.vertices is.0 1 less) = is.1.1.3 in
        clear u above (is.0, (is.1.0, (m, is.1.1.1, is.1.1.2, omega (arith, few, under))))

module _ (vertices : List Vertex) where
  -- of a kind, one of a need demands no more than its amount does
  one_demand : (kind n : ℕ) (need : Need) → 1 ≤ n → demand vertices kind 1 need ≤ demand vertices kind n need
  one_demand kind n (Vert' own count hold m needs) some =
      mul-le-mul_right (one_if (own == kind) + row_demand vertices kind needs) some
  one_demand kind n (Pool own quantity) some = mul-le-mul_right (one_if (own == kind)) some
  one_demand kind n (Spread' count m needs) some =
      let le : 1 * row_demand vertices kind needs ≤ n * row_demand vertices kind needs =
      mul-le-mul_right (row_demand vertices kind needs) some in
      omega (arith, le)

  -- so each need of a list demands no more than the list does
  each_less : (most : ℕ → ℕ) (needs : List Need) → AreValidNeeds vertices needs →
      ((kind : ℕ) → needs_demand vertices kind needs ≤ most kind) →
      AllByRecursion (λ need. (kind : ℕ) → demand vertices kind 1 need ≤ most kind) needs
  each_less most [] valid le = tt
  each_less most (need ∷ rest) valid le = (
    λ kind. (let one = one_demand kind (amount_of need) need (amount_some vertices need valid.0) in
        let all = le kind in omega (arith, one, all)),
    each_less most rest valid.2 (λ kind. let all = le kind in omega (arith, all)),
  )

module _ (g : ResourceGraph) (names : List (List ℕ)) (valid : IsValidGraph g names) (present : Present) (w : Window)
    (keeps : ℕ → ℕ → Type 0) where
  clear_inside : (need : Need) (needs : List Need) (v : ℕ) → AreValidNeeds g.vertices needs →
      ((kind : ℕ) → needs_demand g.vertices kind needs ≤ demand g.vertices kind 1 need) →
      IsClear g.vertices present w keeps need v → AllByRecursion (λ n. IsClear g.vertices present w keeps n v) needs
  clear_inside need needs v fine le clear =
      all_along (λ n. (kind : ℕ) → demand g.vertices kind 1 n ≤ demand g.vertices kind 1 need)
      (λ n. IsClear g.vertices present w keeps n v)
      (λ n less. clear_less g names valid present w keeps need n v less clear) needs
      (each_less g.vertices (λ kind. demand g.vertices kind 1 need) needs fine le)

  -- what isn't short for a need isn't so for those within it
  pub clear_Vert : (kind count : ℕ) (hold : Bool) (needs : List Need) (v : ℕ) → AreValidNeeds g.vertices needs →
      IsClear g.vertices present w keeps (Vert kind count hold needs) v →
      AllByRecursion (λ n. IsClear g.vertices present w keeps n v) needs
  clear_Vert kind count hold needs v fine =
      clear_inside (Vert kind count hold needs) needs v fine
      (λ k. let e = demand_Vert g.vertices k 1 kind count hold needs in omega (arith, e))

  pub clear_Spread : (count : ℕ) (needs : List Need) (v : ℕ) → AreValidNeeds g.vertices needs →
      IsClear g.vertices present w keeps (Spread count needs) v →
      AllByRecursion (λ n. IsClear g.vertices present w keeps n v) needs
  clear_Spread count needs v fine =
      clear_inside (Spread count needs) needs v fine
      (λ k. let e = demand_Spread g.vertices k 1 count needs in omega (arith, e))

module _ (g : ResourceGraph) (names : List (List ℕ)) (valid : IsValidGraph g names) where
  -- below a vertex of a need's kind there is none of it
  pub none_inside : (ok : Claim → Type 0) (need : Need) (kind v past : ℕ) →
      IsKindOfNeed g.vertices need (Some kind) → HasKind g.vertices kind v → IsPast g.vertices v past →
      ServesNone g.vertices ok need (v + 1) past
  none_inside ok need kind v past of_kind is after scope u q lo hi some can =
      let first = parents_first g valid.preorder in
      valid.unnested u v kind ((of_kind u).0 (server g.vertices ok scope need u q can).0) is
      (below_from g.vertices first u v (λ e. omega (arith, e, lo)) (after.covered u (omega arith) hi))
