-- What serves a need is free: the pieces of a fit lie in disjoint subtrees, each with what it claims free.
use Rattle.std.proofs.Common.{◌≡◌, ◌≢◌, ℕ, zero, suc, ◌+◌, ◌-◌, ◌*◌, ◌<◌, ◌≤◌, ◌==◌, nat_eq, nat_le, Bool, true, false}
use Rattle.std.proofs.Common.{not, ◌&&◌, ◌||◌, if◌then◌else◌, List, [], ◌∷◌, length, Option, Some, None, slice_get}
use Rattle.std.proofs.Common.{is_some, inl, inr, refl, sym, ◌∙◌, ap, subst, arith, IsTrue, true≢false}
use Rattle.std.specs.List.{AllByRecursion, list_any}
use Rattle.std.specs.Option.{IsSomeAnd, option_map_or}
use Rattle.std.proofs.Math.Nat.{mul-le-mul, mul-le-mul_right}
use Rattle.std.proofs.lemmas.Bool.{and_parts, or_cases, or_left, or_right, eqb-true, eq-eqb, false_from_ne_true}
use Rattle.std.proofs.lemmas.Bool.Decides.{eqb_tells, nat_tests}
use Rattle.flux_defs.specs.declared.vertices.Vertex.{Vertex}
use Rattle.flux_defs.specs.declared.claims.Claim.{Claim}
use Rattle.flux_defs.specs.declared.claims.Claim.TheVariants.{Hold}
use Rattle.flux_defs.specs.declared.claims.Window.{Window}
use Rattle.flux_defs.specs.declared.requests.Need.{Need, Vert', Pool, Spread', Row_of-Need, end_of-Need, more_of-Need}
use Rattle.flux_defs.specs.declared.requests.Need.{items-the_row-Need, items_hidden-the_row-Need-0}
use Rattle.flux_defs.specs.declared.requests.Need.TheBlock.{hidden-the_row-Need-0}
use Rattle.flux_defs.specs.Graph.{ResourceGraph, Scope, Everywhere, Beneath, IsIn, HasKind, IsNode, is_at_or_below}
use Rattle.flux_defs.specs.Graph.{is_below, is_pool, is_pool_kind, size_of}
use Rattle.flux_defs.specs.ValidGraph.{IsValidGraph}
use Rattle.flux_defs.specs.Jobs.{some_live_claim, holds_over}
use Rattle.flux_defs.specs.Closed.{no_bars, is_closed, is_withheld}
use Rattle.flux_defs.specs.Free.{free_at, taken_at, total_at}
use Rattle.flux_defs.specs.Available.{IsAvailable}
use Rattle.flux_defs.specs.Needs.{amount_of, IsOfNeed, HasNoSpread, HaveNoSpreadRow, IsValidNeed, AreValidNeeds}
use Rattle.flux_defs.specs.Needs.{AreValidRow}
use Rattle.flux_defs.specs.Fits.{Pick, served, AreDistinct, Pieces, Piece, Fits, FitsRow}
use Rattle.flux_defs.specs.Present.{Present, all_up}
use Rattle.graph_laws.proofs.Containment.{below_trans, below_le, below_parent, below_self, below_from, below_to}
use Rattle.graph_laws.proofs.Containment.{in_graph, not_to}
use Rattle.graph_laws.proofs.Preorder.{parents_first}
use Rattle.flux_laws.proofs.Groups.{AreDisjoint, IsOfPicks, IsRootOf, picks_disjoint, siblings_disjoint}
use Rattle.flux_laws.proofs.Groups.{piece_vertex}
use Rattle.flux_laws.proofs.Valid.{nodes_alike, none_nested}
use Rattle.flux_laws.proofs.Rows.{fits_list, valid_to_row}
use Rattle.list_laws.proofs.Values.{at_value, from_value, value_of}
use Rattle.prune_filters.specs.Demands.{one_if, is_node_kind, demand, row_demand, needs_demand, capped}
use Rattle.prune_laws.specs.PruneLaws.{scene, TooLittleServesNone, TooLittleFitsNone}
use Rattle.prune_laws.proofs.Sums.{set_sum, parts_sum, part_sum, one_sum}

-- demands alone
module _ (vertices : List Vertex) (kind : ℕ) where
  -- a need's demand for a sum of numbers is no more than the sum of its demands
  pub demand_add : (a b : ℕ) (need : Need) → demand vertices kind (a + b) need ≤ demand vertices kind a need + demand
      vertices kind b need
  demand_add a b (Vert' own count hold m needs) = omega arith
  demand_add a b (Pool own quantity) = omega arith
  demand_add a b (Spread' count m needs) = omega arith

  -- more demand no less
  pub demand_more : (a b : ℕ) (need : Need) → a ≤ b → demand vertices kind a need ≤ demand vertices kind b need
  demand_more a b (Vert' own count hold m needs) le =
      mul-le-mul_right (one_if (own == kind) + row_demand vertices kind needs) le
  demand_more a b (Pool own quantity) le = mul-le-mul_right (one_if (own == kind)) le
  demand_more a b (Spread' count m needs) le =
      let more = mul-le-mul_right (row_demand vertices kind needs) le in omega (arith, more)

  -- what the picks of a group demand together
  abbrev pub picks_demand : Need → List Pick → ℕ
  picks_demand need [] = 0
  picks_demand need (p ∷ ps) = demand vertices kind p.1 need + picks_demand need ps

  pub demand_picks : (need : Need) (n : ℕ) (ps : List Pick) →
      demand vertices kind (n + served ps) need ≤ demand vertices kind n need + picks_demand need ps
  demand_picks need n [] = let same = demand_more (n + 0) n need (omega arith) in omega (arith, same)
  demand_picks need n (p ∷ ps) =
      let first = demand_add n (p.1 + served ps) need in
      let rest = demand_picks need p.1 ps in
      omega (arith, first, rest)

  -- what a row of needs demands, each k times its amount
  abbrev pub scaled_demand : ℕ → {m : _} → Row_of-Need m → ℕ
  scaled_demand k end_of-Need = 0
  scaled_demand k (more_of-Need need rest) = demand vertices kind (k * amount_of need) need + scaled_demand k rest

  pub once_demand : {m : _} (row : Row_of-Need m) → scaled_demand 1 row ≡ row_demand vertices kind row
  once_demand end_of-Need = refl
  once_demand (more_of-Need need rest) =
      let one : 1 * amount_of need ≡ amount_of need = omega arith in
      let r = once_demand rest in
      ap (λ n. demand vertices kind n need + scaled_demand 1 rest) one
      ∙ ap (λ n. demand vertices kind (amount_of need) need + n) r

  times_demand : (k a : ℕ) (need : Need) → HasNoSpread need →
      demand vertices kind (k * a) need ≡ k * demand vertices kind a need
  times_demand k a (Vert' own count hold m needs) h = omega arith
  times_demand k a (Pool own quantity) h = omega arith
  times_demand k a (Spread' count m needs) h = elim h [ ]

  pub copies_demand : {m : _} (k : ℕ) (row : Row_of-Need m) → HaveNoSpreadRow row →
      scaled_demand k row ≡ k * row_demand vertices kind row
  copies_demand k end_of-Need h = omega arith
  copies_demand k (more_of-Need need rest) h =
      let one = times_demand k (amount_of need) need h.0 in
      let r = copies_demand k rest h.1 in
      omega (arith, one, r)

-- the row of a need's inner needs demands what their list does
module _ (vertices : List Vertex) (kind : ℕ) where
  row_list : {m : _} (row : Row_of-Need m) →
      row_demand vertices kind row ≡ needs_demand vertices kind (items-the_row-Need _ row)
  row_list end_of-Need = refl
  row_list (more_of-Need need rest) = ap (λ n. demand vertices kind (amount_of need) need + n) (row_list rest)

  pub list_row : (needs : List Need) →
      row_demand vertices kind (hidden-the_row-Need-0 needs) ≡ needs_demand vertices kind needs
  list_row needs = row_list (hidden-the_row-Need-0 needs)
      ∙ ap (needs_demand vertices kind) (items_hidden-the_row-Need-0 needs)

-- an item of which a test holds
pub any_item : (test : Vertex → Bool) (xs : List Vertex) → IsTrue (list_any test xs) →
    (i : ℕ) × (x : Vertex) × (slice_get xs i ≡ Some x) × IsTrue (test x)
any_item test [] h = absurd (true≢false (sym h))
any_item test (x ∷ xs) h =
    elim (or_cases (test x) (list_any test xs) h) [
      | inl here ↦ (0, x, refl, here)
      | inr later ↦ (let r = any_item test xs later in (suc r.0, r.1, r.2, r.3))
    ]

pub amount_some : (vertices : List Vertex) (need : Need) → IsValidNeed vertices need → 1 ≤ amount_of need
amount_some vertices (Vert' kind count hold m needs) v = v.0
amount_some vertices (Pool kind quantity) v = v.0
amount_some vertices (Spread' count m needs) v = v.0

module _ (g : ResourceGraph) (names : List (List ℕ)) (valid : IsValidGraph g names) where
  abbrev vs : List Vertex
  vs = g.vertices

  pool_of : (k v : ℕ) → HasKind vs k v → is_pool vs v ≡ is_pool_kind vs k
  pool_of k v h = at_vertex (slice_get vs v) refl h
    where
      at_vertex : (o : Option Vertex) → slice_get vs v ≡ o → IsSomeAnd o (λ x. x.kind ≡ k) →
          option_map_or (λ x. is_pool_kind vs x.kind) o false ≡ is_pool_kind vs k
      at_vertex None e h = elim h [ ]
      at_vertex (Some x) e h = ap (is_pool_kind vs) h

  -- nodes are no pools
  node_plain : (v : ℕ) → IsNode vs v → is_pool vs v ≡ false
  node_plain v h =
      let y = value_of (slice_get vs v) (λ x. is_some x.rank ≡ true) h in
      let type = (valid.nodes v y.0 y.1).0 h in
      let named = at_value (slice_get vs v)
      (λ x. slice_get g.kinds x.kind ≡ Some (Rattle.std.specs.Prelude.codes "node")) y.0 y.1 type in
      pool_of y.0.kind v (from_value (slice_get vs v) (λ x. x.kind ≡ y.0.kind) y.0 y.1 refl)
      ∙ false_from_ne_true (is_pool_kind vs y.0.kind) (λ t. other y.0.kind named
      (any_item (λ x. (x.kind == y.0.kind) && not (x.size == 1)) vs t))
    where
      other : (k : ℕ) → slice_get g.kinds k ≡ Some (Rattle.std.specs.Prelude.codes "node") →
          (i : ℕ) × (x : Vertex) × (slice_get vs i ≡ Some x) × IsTrue ((x.kind == k) && not (x.size == 1)) → ⊥
      other k named r =
          let b = and_parts (r.1.kind == k) (not (r.1.size == 1)) r.3 in
          let is : r.1.kind ≡ k = eqb-true r.1.kind k b.0 in
          let type = from_value (slice_get vs r.0)
          (λ x. slice_get g.kinds x.kind ≡ Some (Rattle.std.specs.Prelude.codes "node")) r.1 r.2
          (ap (slice_get g.kinds) is ∙ named) in
          let node = (valid.nodes r.0 r.1 r.2).1 type in
          not_to (r.1.size == 1) b.1 (eq-eqb r.1.size 1 (valid.sizes.whole r.0 r.1 r.2 (inl node)))

  -- a kind of which some node is is that of each
  node_alike : (kind v : ℕ) → IsTrue (is_node_kind vs kind) → IsNode vs v → HasKind vs kind v
  node_alike kind v t h =
      let r = any_item (λ x. (x.kind == kind) && is_some x.rank) vs t in
      let b = and_parts (r.1.kind == kind) (is_some r.1.rank) r.3 in
      let node = from_value (slice_get vs r.0) (λ x. is_some x.rank ≡ true) r.1 r.2 b.1 in
      let k = nodes_alike g names valid v r.0 h node in
      let one : r.1.kind ≡ k.0 = at_value (slice_get vs r.0) (λ x. x.kind ≡ k.0) r.1 r.2 k.2 in
      let same : k.0 ≡ kind = sym one ∙ eqb-true r.1.kind kind b.0 in
      subst (λ (j : ℕ). HasKind vs j v) same k.1

  module _ (present : Present) (barred : List ℕ) (w : Window) (kind m : ℕ) (lo : w.from ≤ m) (hi : m < w.to) where
    abbrev ok : Claim → Type 0
    ok = IsAvailable (scene g present barred) w

    -- what is free of a vertex to an ask without bars
    abbrev weight : ℕ → ℕ
    weight u = free_at (no_bars vs (all_up present)) m u

    abbrev sum : (ℕ → Bool) → ℕ
    sum set = set_sum kind weight vs set

    -- the vertices at or below v
    abbrev under : ℕ → ℕ → Bool
    under v u = is_at_or_below vs u v

    open_free : (v : ℕ) → is_pool vs v ≡ false → IsTrue (not (is_closed (scene g present barred) m v)) → weight v ≡ 1
    open_free v plain h = go (some_live_claim present.jobs m (holds_over vs v)) (is_withheld (scene g present barred) v)
        (is_pool vs v) (size_of vs v - taken_at present.jobs m v) h plain
      where
        go : (a b p : Bool) (n : ℕ) → IsTrue (not (a || b)) → p ≡ false →
            (let free : ℕ = (if a || false then 0 else if p then n else 1) in free ≡ 1)
        go true b p n h e = absurd (true≢false (sym h))
        go false b true n h e = absurd (true≢false e)
        go false b false n h e = refl

    take_free : (v q : ℕ) → IsTrue (nat_le q (free_at (scene g present barred) m v)) → q ≤ weight v
    take_free v q h = go (some_live_claim present.jobs m (holds_over vs v)) (is_withheld (scene g present barred) v)
        (if is_pool vs v then (size_of vs v - taken_at present.jobs m v) else 1) h
      where
        le : (n : ℕ) → IsTrue (nat_le q n) → q ≤ n
        le n h = grind (arith, nat_tests)

        go : (a b : Bool) (n : ℕ) → (let free : ℕ = (if a || b then 0 else n) in IsTrue (nat_le q free)) →
            (let free : ℕ = (if a || false then 0 else n) in q ≤ free)
        go true b n h = le 0 h
        go false true n h = let none : q ≤ 0 = le 0 h in omega arith
        go false false n h = le n h

    -- a vertex that is free counts for its kind
    own_part : (v own : ℕ) → HasKind vs own v → weight v ≡ 1 → one_if (own == kind) ≤ sum (λ u. nat_eq u v)
    own_part v own is free = elim (eqb_tells own kind) [
      | inl same ↦ (
          let one = one_sum kind weight vs (λ u. nat_eq u v) v (subst (λ (k : ℕ). HasKind vs k v) same.1 is)
          (eq-eqb v v refl) in
          let e : one_if (own == kind) ≡ 1 = ap one_if same.0 in
          omega (arith, one, free, e))
      | inr differ ↦ (let e : one_if (own == kind) ≡ 0 = ap one_if differ.0 in omega (arith, e))
    ]

    abbrev first : Rattle.graph_laws.proofs.Containment.ParentsFirst vs
    first = parents_first g valid.preorder

    abbrev unnested : Rattle.flux_laws.proofs.Groups.NoneNested vs
    unnested = none_nested g names valid

    -- what lies below a vertex lies at or below it, and is another
    below_under : (u b v : ℕ) → u < length vs → IsTrue (is_at_or_below vs u b) → IsTrue (is_below vs b v) →
        IsTrue (is_below vs u v)
    below_under u b v lt h k =
        let p = below_to vs first b v k in
        let low : v ≤ b = below_le vs first b v p.0 in
        let le : b ≤ u = below_le vs first u b h in
        let ne : b ≢ v = p.1 in
        below_from vs first u v (λ (e : u ≡ v). omega arith) (below_trans vs first u b v lt h p.0)

    -- a vertex and what is below it weigh no more than what is at or below it
    vertex_and_below : (v : ℕ) → v < length vs → sum (λ u. nat_eq u v) + sum (λ u. is_below vs u v) ≤ sum (under v)
    vertex_and_below v lt = parts_sum kind weight vs (λ u. nat_eq u v) (λ u. is_below vs u v) (under v)
        (λ u l e. subst (λ (x : ℕ). IsTrue (is_at_or_below vs x v)) (sym (eqb-true u v e)) (below_self vs first v lt))
        (λ u l h. (below_to vs first u v h).0)
        (λ u l e h. (below_to vs first u v h).1 (eqb-true u v e))

    -- vertices of the scope of which P holds have so much in their subtrees
    abbrev Covered : (ℕ → Type 0) → Scope → ℕ → Type 0
    Covered P scope n = (set : ℕ → Bool) × (n ≤ sum set)
        × ((u : ℕ) → u < length vs → IsTrue (set u) → (b : ℕ) × P b × IsIn vs scope b × IsTrue (is_at_or_below vs u b))

    covered_none : (P : ℕ → Type 0) (scope : Scope) → Covered P scope 0
    covered_none P scope = ((λ u. false), omega arith, λ u lt t. absurd (true≢false (sym t)))

    covered_less : (P : ℕ → Type 0) (scope : Scope) (few n : ℕ) → few ≤ n → Covered P scope n → Covered P scope few
    covered_less P scope few n le c = (c.0, (let more : n ≤ sum c.0 = c.1 in omega arith), c.2)

    covered_along : (P Q : ℕ → Type 0) (scope : Scope) (n : ℕ) → ((b : ℕ) → P b → Q b) → Covered P scope n →
        Covered Q scope n
    covered_along P Q scope n along c = (c.0, c.1, λ u lt t. let r = c.2 u lt t in (r.0, along r.0 r.1, r.2, r.3))

    -- and where they are disjoint from others, both together have the sum
    covered_both : (P Q R : ℕ → Type 0) (scope : Scope) (n k : ℕ) →
        ((a b : ℕ) → P a → Q b → AreDisjoint vs first unnested a b) →
        ((b : ℕ) → P b → R b) → ((b : ℕ) → Q b → R b) → Covered P scope n → Covered Q scope k → Covered R scope (n + k)
    covered_both P Q R scope n k apart f h c d = (
      (λ u. c.0 u || d.0 u),
      (
          let both = parts_sum kind weight vs c.0 d.0 (λ u. c.0 u || d.0 u)
          (λ u lt t. or_left (c.0 u) (d.0 u) t) (λ u lt t. or_right (c.0 u) (d.0 u) t)
          (λ u lt s t. let a = c.2 u lt s in let b = d.2 u lt t in apart a.0 b.0 a.1 b.1 u (lt, a.3) (lt, b.3)) in
          let one : n ≤ sum c.0 = c.1 in
          let two : k ≤ sum d.0 = d.1 in
          omega (arith, both)),
      λ u lt t. elim (or_cases (c.0 u) (d.0 u) t) [
        | inl s ↦ (let r = c.2 u lt s in (r.0, f r.0 r.1, r.2, r.3))
        | inr s ↦ (let r = d.2 u lt s in (r.0, h r.0 r.1, r.2, r.3))
      ],
    )

    -- all of it is below v, where the scope is what is below v
    covered_below : (P : ℕ → Type 0) (v n : ℕ) → Covered P (Beneath v) n → n ≤ sum (λ u. is_below vs u v)
    covered_below P v n c =
        let part = part_sum kind weight vs c.0 (λ u. is_below vs u v)
        (λ u lt t. let r = c.2 u lt t in below_under u r.0 v lt r.3 r.2.1) in
        let some : n ≤ sum c.0 = c.1 in
        omega (arith, part)

    -- the picks of one need
    pieces_cover : (scope : Scope) (need : Need) →
        ((v q : ℕ) (cs : List Claim) → 1 ≤ q → Piece vs ok scope need v q cs → demand vs kind q need ≤ sum (under v)) →
        (ps : List Pick) (cs : List Claim) → AreDistinct ps → AllByRecursion (λ p. 1 ≤ p.1) ps →
        Pieces (Piece vs ok scope need) ps cs → Covered (IsOfPicks vs first unnested ok need ps) scope
        (picks_demand vs kind need ps)
    pieces_cover scope need piece [] cs d some p = covered_none (IsOfPicks vs first unnested ok need []) scope
    pieces_cover scope need piece (p ∷ ps) cs d some r =
        let is = piece_vertex vs first unnested ok scope need p.0 p.1 r.0 r.3 in
        covered_both (λ b. b ≡ p.0) (IsOfPicks vs first unnested ok need ps)
        (IsOfPicks vs first unnested ok need (p ∷ ps)) scope
        (demand vs kind p.1 need) (picks_demand vs kind need ps)
        (λ a b e h. subst (λ (x : ℕ). AreDisjoint vs first unnested x b) (sym e)
        (picks_disjoint vs first unnested need p.0 b (λ same. h.1 p.0 d.0 (sym same)) is.0 h.0))
        (λ b e. (subst (IsOfNeed vs need) (sym e) is.0, λ v n same. n.0 (sym e ∙ same)))
        (λ b h. (h.0, λ v n. h.1 v n.1))
        (under p.0, piece p.0 p.1 r.0 some.0 r.3, λ u lt t. (p.0, refl, is.1, t))
        (pieces_cover scope need piece ps r.1 d.1 some.1 r.4)

    group_cover : (scope : Scope) (need : Need) (n : ℕ) → 1 ≤ n → (ps : List Pick) → served ps ≡ n →
        Covered (IsOfPicks vs first unnested ok need ps) scope (picks_demand vs kind need ps) →
        Covered (IsOfPicks vs first unnested ok need ps) scope (demand vs kind n need)
    group_cover scope need n some [] e c = absurd (let zero : 0 ≡ n = e in omega arith)
    group_cover scope need n some (p ∷ ps) e c =
        let sums = demand_picks vs kind need p.1 ps in
        covered_less (IsOfPicks vs first unnested ok need (p ∷ ps)) scope (demand vs kind n need)
        (picks_demand vs kind need (p ∷ ps))
        (subst (λ (k : ℕ). demand vs kind k need ≤ picks_demand vs kind need (p ∷ ps)) e sums) c

    -- one vertex, with what its inner needs have below it
    vertex_total : (v own inner : ℕ) → v < length vs → HasKind vs own v → is_pool_kind vs own ≡ false →
        IsTrue (not (is_closed (scene g present barred) m v)) → inner ≤ sum (λ u. is_below vs u v) →
        one_if (own == kind) + inner ≤ sum (under v)
    vertex_total v own inner lt is plain free below =
        let part = own_part v own is (open_free v (pool_of own v is ∙ plain) free) in
        let both = vertex_and_below v lt in
        omega (arith, part, both)

    node_part : (v : ℕ) → IsNode vs v → IsTrue (not (is_closed (scene g present barred) m v)) → (b : Bool) →
        is_node_kind vs kind ≡ b →
        one_if b ≤ sum (λ u. nat_eq u v)
    node_part v node clear true t =
        let one = one_sum kind weight vs (λ u. nat_eq u v) v (node_alike kind v t node) (eq-eqb v v refl) in
        let free = open_free v (node_plain v node) clear in
        omega (arith, one, free)
    node_part v node clear false t = omega arith

    pool_total : (v own q : ℕ) → v < length vs → HasKind vs own v →
        IsTrue (nat_le q (free_at (scene g present barred) m v)) →
        q * one_if (own == kind) ≤ sum (under v)
    pool_total v own q lt is free = elim (eqb_tells own kind) [
      | inl same ↦ (
          let one = one_sum kind weight vs (under v) v (subst (λ (k : ℕ). HasKind vs k v) same.1 is)
          (below_self vs first v lt) in
          let e : one_if (own == kind) ≡ 1 = ap one_if same.0 in
          let enough = take_free v q free in
          rw e (omega (arith, one, enough)))
      | inr differ ↦ (let e : one_if (own == kind) ≡ 0 = ap one_if differ.0 in rw e (omega arith))
    ]

    held_open : (v : ℕ) → ok (Hold v) → IsTrue (not (is_closed (scene g present barred) m v))
    held_open v h = (and_parts _ _ (h m lo hi)).0

    mutual
      pub piece_total : (scope : Scope) (need : Need) → IsValidNeed vs need → (v q : ℕ) (cs : List Claim) → 1 ≤ q →
          Piece vs ok scope need v q cs → demand vs kind q need ≤ sum (under v)
      piece_total scope (Vert' own count true k needs) s v q cs some p =
          let below = covered_below (IsRootOf vs first unnested needs) v (scaled_demand vs kind 1 needs)
          (row_cover 1 (omega arith) (Beneath v) needs s.2 p.3.2.0 p.3.2.1) in
          let inner : row_demand vs kind needs ≤ sum (λ u. is_below vs u v) = rw (← once_demand vs kind needs) below in
          let total = vertex_total v own (row_demand vs kind needs) (in_graph vs scope v p.1) p.2 s.1
          (held_open v p.3.1) inner in
          let one : q ≡ 1 = p.0 in
          rw one (omega (arith, total))
      piece_total scope (Vert' own count false k needs) s v q cs some p =
          let below = covered_below (IsRootOf vs first unnested needs) v (scaled_demand vs kind 1 needs)
          (row_cover 1 (omega arith) (Beneath v) needs s.2 p.3.0 p.3.3) in
          let inner : row_demand vs kind needs ≤ sum (λ u. is_below vs u v) = rw (← once_demand vs kind needs) below in
          let total = vertex_total v own (row_demand vs kind needs) (in_graph vs scope v p.1) p.2 s.1 (p.3.2 m lo hi)
          inner in
          let one : q ≡ 1 = p.0 in
          rw one (omega (arith, total))
      piece_total scope (Pool own quantity) s v q cs some p =
          pool_total v own q (in_graph vs scope v p.0) p.1 (p.3 m lo hi)
      piece_total scope (Spread' count k needs) s v q cs some p =
          let below = covered_below (IsRootOf vs first unnested needs) v (scaled_demand vs kind q needs)
          (row_cover q some (Beneath v) needs s.3 p.2.0 p.2.3) in
          let inner : q * row_demand vs kind needs ≤ sum (λ u. is_below vs u v) =
          rw (← copies_demand vs kind q needs s.2) below in
          let part = node_part v p.1 (p.2.2 m lo hi) (is_node_kind vs kind) refl in
          let both = vertex_and_below v (in_graph vs scope v p.0) in
          omega (arith, part, both, inner)

      row_cover : {n : _} (k : ℕ) → 1 ≤ k → (scope : Scope) (row : Row_of-Need n) → AreValidRow vs row →
          (cs : List Claim) →
          FitsRow vs ok k scope row cs → Covered (IsRootOf vs first unnested row) scope (scaled_demand vs kind k row)
      row_cover k some scope end_of-Need s cs f = covered_none (IsRootOf vs first unnested end_of-Need) scope
      row_cover k some scope (more_of-Need need rest) s cs f =
          let group = group_cover scope need (k * amount_of need)
          (mul-le-mul some (amount_some vs need s.0)) f.3.0 f.3.3
          (pieces_cover scope need (piece_total scope need s.0) f.3.0 f.0 f.3.1 f.3.2 f.3.4) in
          covered_both (IsOfPicks vs first unnested ok need f.3.0) (IsRootOf vs first unnested rest)
          (IsRootOf vs first unnested (more_of-Need need rest)) scope (demand vs kind (k * amount_of need) need)
          (scaled_demand vs kind k rest)
          (λ a b p h. h need a s.1 p.0)
          (λ b p other v apart is. siblings_disjoint vs first unnested other need v b apart.0 is p.0)
          (λ b h other v apart is. h other v apart.1 is)
          group (row_cover k some scope rest s.2 f.1 f.4)

-- where there is too little for one of a need, no vertex there serves it
pub too_little_none : TooLittleServesNone
too_little_none g names valid present barred w need fine v short scope u q under some can =
    let kind = short.0 in
    let m = short.1.0 in
    let lo = short.1.1 in
    let hi = short.1.2 in
    let few : total_at g.vertices present kind m v < capped (demand g.vertices kind 1 need) = short.1.3 in
    let there = piece_total g names valid present barred w kind m lo hi scope need fine u q can.0 some can.1 in
    let one = demand_more g.vertices kind 1 q need some in
    let part : total_at g.vertices present kind m u ≤ total_at g.vertices present kind m v =
    part_sum kind (λ x. free_at (no_bars g.vertices (all_up present)) m x) g.vertices
    (λ x. is_at_or_below g.vertices x u)
    (λ x. is_at_or_below g.vertices x v)
    (λ x lt h. below_trans g.vertices (parents_first g valid.preorder) x u v lt h under) in
    let all : demand g.vertices kind q need ≤ total_at g.vertices present kind m u = there in
    omega (arith, part, all, one, few)

-- each vertex is the root or below it
root_over : (g : ResourceGraph) (names : List (List ℕ)) → IsValidGraph g names → (most v : ℕ) → v ≤ most →
    v < length g.vertices → IsTrue (is_at_or_below g.vertices v 0)
root_over g names valid most zero le lt = below_self g.vertices (parents_first g valid.preorder) 0 lt
root_over g names valid zero (suc v) le lt = absurd (omega arith)
root_over g names valid (suc most) (suc v) le lt =
    let first = parents_first g valid.preorder in
    let next = valid.preorder.next v lt in
    let few = below_le g.vertices first v next.0 next.2 in
    below_trans g.vertices first (suc v) next.0 0 lt (below_parent g.vertices first (suc v) next.0 lt next.1)
    (root_over g names valid most next.0 (omega (arith, few)) (omega (arith, few)))

-- where needs fit, the root has as much of each kind as they demand in full, at each moment
pub fit_total : (g : ResourceGraph) (names : List (List ℕ)) → IsValidGraph g names → (present : Present)
    (barred : List ℕ) (w : Window) (needs : List Need) → AreValidNeeds g.vertices needs → (kind m : ℕ) →
    w.from ≤ m → m < w.to → (claims : List Claim) →
    Fits g.vertices (IsAvailable (scene g present barred) w) 1 Everywhere needs claims →
    needs_demand g.vertices kind needs ≤ total_at g.vertices present kind m 0
fit_total g names valid present barred w needs fine kind m lo hi claims fits =
    let vs = g.vertices in
    let ok : Claim → Type 0 = IsAvailable (scene g present barred) w in
    let rows = subst (λ (P : List Claim → Type 0). P claims) (sym (fits_list vs ok needs 1 Everywhere)) fits in
    let cover = row_cover g names valid present barred w kind m lo hi 1 (omega arith) Everywhere
    (hidden-the_row-Need-0 needs) (valid_to_row vs needs fine) claims rows in
    let some = cover.1 in
    let once = once_demand vs kind (hidden-the_row-Need-0 needs) in
    let list = list_row vs kind needs in
    let part : _ ≤ total_at vs present kind m 0 =
    part_sum kind (λ x. free_at (no_bars vs (all_up present)) m x) vs cover.0 (λ x. is_at_or_below vs x 0)
    (λ u lt t. root_over g names valid u u (omega arith) lt) in
    omega (arith, some, once, list, part)

-- where the root has too little for needs in full, none fit
pub too_little_fit : TooLittleFitsNone
too_little_fit g names valid present barred w needs fine kind short claims fits =
    let vs = g.vertices in
    let m = short.0 in
    let few : total_at vs present kind m 0 < capped (needs_demand vs kind needs) = short.3 in
    let all = fit_total g names valid present barred w needs fine kind m short.1 short.2 claims fits in
    omega (arith, all, few)
