-- What a rising list of barred nodes says of the vertices at, above and below them.
use Rattle.std.proofs.Common.{◌≡◌, ◌≢◌, ℕ, zero, suc, ◌+◌, ◌<◌, ◌≤◌, Bool, true, false, List, [], ◌∷◌, length, get_or}
use Rattle.std.proofs.Common.{nat_eq, Option, Some, None, slice_get, slice_index, is_some, IsTrue, true≢false, inl, inr}
use Rattle.std.proofs.Common.{refl, sym, ◌∙◌, ap, subst, arith, nat_lt}
use Rattle.std.specs.List.{list_any, AllByRecursion}
use Rattle.std.specs.Option.{IsSomeAnd, option_map_or}
use Rattle.std.specs.Prelude.{option_and_then}
use Rattle.std.proofs.lemmas.Bool.{cases_lt, or_left, or_right, lt-ltb, le-ltb, false_from_ne_true}
use Rattle.std.proofs.lemmas.Bool.Decides.{eqb_tells}
use Rattle.std.proofs.lemmas.Option.{slice_get_past}
use Rattle.std.proofs.lemmas.List.{get_or_default}
use Rattle.std.proofs.lemmas.List.Folds.{list_any_at, list_any_none}
use Rattle.flux_defs.specs.declared.vertices.Vertex.{Vertex}
use Rattle.flux_defs.specs.Graph.{ResourceGraph, is_at_or_below, IsNode}
use Rattle.flux_defs.specs.Needs.{AreRisingFrom}
use Rattle.flux_defs.specs.ValidGraph.{IsValidGraph}
use Rattle.graph_laws.proofs.Containment.{ParentsFirst, below_le, below_self, above_is_chain, below_from}
use Rattle.graph_laws.proofs.Preorder.{parents_first}
use Rattle.flux_laws.proofs.Valid.{nodes_alike}
use Rattle.resource_graph.specs.Tables.{IsPast, rank_at}
use Rattle.text_forms.specs.Rising.{IsIndexOf}
use Rattle.dfu_match.specs.Bars.{is_node_at, AreNodesOf, IsLeastFrom, IsLeastOrNone}
use Rattle.std.specs.List.Sorted.{IsStrictlyIncreasing}
use Rattle.text_forms.proofs.RisingLists.{less_later}

-- the least number from `from` on stands at the index before which all are less
pub least_at_index : (list : List ℕ) (from index : ℕ) → IsStrictlyIncreasing list → IsIndexOf list from index →
    index < length list → IsLeastFrom list from (slice_index list index)
least_at_index list from index up at lt = record {
  there = (index, lt, refl);
  low = at.after index (omega arith) lt;
  least = λ i within ge. elim (cases_lt i index) [
    | inl before ↦ (let less : slice_index list i < from = at.before i before in absurd (omega arith))
    | inr later ↦ elim (cases_lt index i) [
      | inl after ↦ (let more : slice_index list index < slice_index list i = less_later list up index i 0 after
          within in omega arith)
      | inr same ↦ (let e : i ≡ index = omega arith in
          let f : slice_index list i ≡ slice_index list index = ap (slice_index list) e in omega arith)
    ]
  ];
}

pub none_from_index : (list : List ℕ) (from index : ℕ) → IsIndexOf list from index → index ≡ length list → (i : ℕ) →
    i < length list → slice_index list i < from
none_from_index list from index at over i lt = at.before i (omega arith)

-- no member passes a test that is false of each
none_pass : (test : ℕ → Bool) (list : List ℕ) → ((i : ℕ) → i < length list → IsTrue (test (slice_index list i)) → ⊥) →
    list_any test list ≡ false
none_pass test list never =
    list_any_none test list (λ i d lt. let e : get_or list i d ≡ get_or list i 0 = get_or_default list i d 0 lt in
    false_from_ne_true (test (get_or list i d)) (λ h. never i lt (subst (λ x. IsTrue (test x)) e h)))

one_passes : (test : ℕ → Bool) (list : List ℕ) (i u : ℕ) → i < length list → slice_index list i ≡ u →
    IsTrue (test u) → list_any test list ≡ true
one_passes test list i u lt e h = list_any_at test list i 0 lt (subst (λ x. IsTrue (test x)) (sym e) h)

-- nodes, as a test and as a fact
node_from : (x : Option Vertex) → IsSomeAnd x (λ y. is_some y.rank ≡ true) →
    option_map_or (λ y. is_some y.rank) x false ≡ true
node_from None h = elim h [ ]
node_from (Some y) h = h

node_to : (x : Option Vertex) → option_map_or (λ y. is_some y.rank) x false ≡ true →
    IsSomeAnd x (λ y. is_some y.rank ≡ true)
node_to None h = absurd (true≢false (sym h))
node_to (Some y) h = h

in_list : (vertices : List Vertex) (v : ℕ) → is_node_at vertices v ≡ true → v < length vertices
in_list vertices v h =
    elim (cases_lt v (length vertices)) [
      | inl within ↦ within
      | inr past ↦ absurd (true≢false (sym h ∙ ap (λ x. option_map_or (λ y. is_some y.rank) x false)
          (slice_get_past vertices v past)))
    ]

-- an ask's bars rise, and are nodes
rises_from : (low : ℕ) (list : List ℕ) → AreRisingFrom low list → (i : ℕ) → i < length list → low ≤ slice_index list i
rises_from low [] up i lt = absurd (omega arith)
rises_from low (x ∷ xs) up zero lt = up.0
rises_from low (x ∷ xs) up (suc i) lt = let le : suc x ≤ slice_index xs i = rises_from (suc x) xs up.1 i (omega arith)
    in let first : low ≤ x = up.0 in omega arith

rises_later : (low : ℕ) (list : List ℕ) → AreRisingFrom low list → (i j : ℕ) → i < j → j < length list →
    slice_index list i < slice_index list j
rises_later low [] up i j lt within = absurd (omega arith)
rises_later low (x ∷ xs) up i zero lt within = absurd (omega arith)
rises_later low (x ∷ xs) up zero (suc j) lt within = let le : suc x ≤ slice_index xs j =
    rises_from (suc x) xs up.1 j (omega arith) in omega arith
rises_later low (x ∷ xs) up (suc i) (suc j) lt within = rises_later (suc x) xs up.1 i j (omega arith) (omega arith)

pub rises : (low : ℕ) (list : List ℕ) → AreRisingFrom low list → IsStrictlyIncreasing list
rises low list up k within = rises_later low list up k (k + 1) (omega arith) within

pub nodes_of : (vertices : List Vertex) (list : List ℕ) → AllByRecursion (IsNode vertices) list →
    AreNodesOf vertices list
nodes_of vertices [] each i lt = absurd (omega arith)
nodes_of vertices (x ∷ xs) each zero lt = node_from (slice_get vertices x) each.0
nodes_of vertices (x ∷ xs) each (suc i) lt = nodes_of vertices xs each.1 i (omega arith)

module _ (g : ResourceGraph) (names : List (List ℕ)) (valid : IsValidGraph g names) (barred : List ℕ)
    (nodes : AreNodesOf g.vertices barred) where
  -- two nodes at or above one vertex are the same
  one_node : (v a b : ℕ) → v < length g.vertices → IsNode g.vertices a → IsNode g.vertices b →
      IsTrue (is_at_or_below g.vertices v a) → IsTrue (is_at_or_below g.vertices v b) → a ≢ b → ⊥
  one_node v a b lt na nb ha hb ne =
      let first = parents_first g valid.preorder in
      let k = nodes_alike g names valid a b na nb in
      elim (above_is_chain g.vertices first v a b lt ha hb) [
        | inl ab ↦ valid.unnested a b k.0 k.1 k.2 (below_from g.vertices first a b ne ab)
        | inr ba ↦ valid.unnested b a k.0 k.2 k.1 (below_from g.vertices first b a (λ e. ne (sym e)) ba)
      ]

  -- a vertex in no node has no bar at or above it
  pub over_none : (v : ℕ) → ((n : ℕ) → IsNode g.vertices n → IsTrue (is_at_or_below g.vertices v n) → ⊥) →
      list_any (is_at_or_below g.vertices v) barred ≡ false
  over_none v never = none_pass (is_at_or_below g.vertices v) barred
      (λ i lt h. never (slice_index barred i) (node_to _ (nodes i lt)) h)

  -- one in a node has one exactly where the node is barred
  pub over_node : (v node : ℕ) (found : Option ℕ) → v < length g.vertices → IsNode g.vertices node →
      IsTrue (is_at_or_below g.vertices v node) → IsLeastOrNone barred node found →
      option_map_or (λ u. nat_eq u node) found false ≡ list_any (is_at_or_below g.vertices v) barred
  over_node v node None lt is h all =
      sym (none_pass (is_at_or_below g.vertices v) barred (λ i within k.
      one_node v (slice_index barred i) node lt (node_to _ (nodes i within)) is k h
      (λ e. let less : slice_index barred i < node = all i within in omega arith)))
  over_node v node (Some u) lt is h f =
      elim (eqb_tells u node) [
        | inl same ↦ (let there = f.there in same.0
            ∙ sym (one_passes (is_at_or_below g.vertices v) barred there.0 node there.1 (there.2 ∙ same.1) h))
        | inr differ ↦ differ.0 ∙ sym (none_pass (is_at_or_below g.vertices v) barred (λ i within k.
            one_node v (slice_index barred i) node lt (node_to _ (nodes i within)) is k h
            (λ e. let low : node ≤ u = f.low in let least : u ≤ slice_index barred i = f.least i within (omega arith)
            in differ.1 (omega arith))))
      ]

  -- a vertex has a bar at or below it exactly where the least bar from it on stands before what follows it
  pub below_none : (v : ℕ) → ((i : ℕ) → i < length barred → slice_index barred i < v) →
      list_any (λ u. is_at_or_below g.vertices u v) barred ≡ false
  below_none v all =
      none_pass (λ u. is_at_or_below g.vertices u v) barred (λ i within h.
      (let less : slice_index barred i < v = all i within in
      let le : v ≤ slice_index barred i = below_le g.vertices (parents_first g valid.preorder)
      (slice_index barred i) v h in omega arith))

  pub below_some : (v past u : ℕ) → IsPast g.vertices v past → IsLeastFrom barred v u →
      nat_lt u past ≡ list_any (λ u. is_at_or_below g.vertices u v) barred
  below_some v past u p f =
      elim (cases_lt u past) [
        | inl before ↦ (let there = f.there in lt-ltb u past before
            ∙ sym (one_passes (λ u. is_at_or_below g.vertices u v) barred there.0 u there.1 there.2
            (p.covered u f.low before)))
        | inr after ↦ le-ltb u past after ∙ sym (none_pass (λ u. is_at_or_below g.vertices u v) barred (λ i within h.
            (let w = slice_index barred i in
            let lo : v ≤ w = below_le g.vertices (parents_first g valid.preorder) w v h in
            let hi : w < past = p.whole w (in_list g.vertices w (nodes i within)) h in
            let least : u ≤ w = f.least i within lo in omega arith)))
      ]

-- a vertex with a rank is a node, and one without is none
pub rank_node : (vertices : List Vertex) (v : ℕ) → is_some (rank_at vertices v) ≡ true → IsNode vertices v
rank_node vertices v h = by_vertex (slice_get vertices v) h
  where
    by_vertex : (o : Option Vertex) → is_some (option_and_then (λ x. x.rank) o) ≡ true →
        IsSomeAnd o (λ x. is_some x.rank ≡ true)
    by_vertex None e = absurd (true≢false (sym e))
    by_vertex (Some x) e = e

pub unranked : (vertices : List Vertex) (v : ℕ) → is_some (rank_at vertices v) ≡ false → IsNode vertices v → ⊥
unranked vertices v h node = by_vertex (slice_get vertices v) h node
  where
    by_vertex : (o : Option Vertex) → is_some (option_and_then (λ x. x.rank) o) ≡ false →
        IsSomeAnd o (λ x. is_some x.rank ≡ true) → ⊥
    by_vertex None e k = elim k [ ]
    by_vertex (Some x) e k = true≢false (sym k ∙ e)

-- a barred vertex is barred, itself
pub barred_itself : (vertices : List Vertex) (first : ParentsFirst vertices) (barred : List ℕ) (i v : ℕ) →
    v < length vertices →
    i < length barred → slice_index barred i ≡ v → IsTrue (list_any (is_at_or_below vertices v) barred)
barred_itself vertices first [] i v lt within e = absurd (omega arith)
barred_itself vertices first (u ∷ us) zero v lt within e =
    or_left (is_at_or_below vertices v u) (list_any (is_at_or_below vertices v) us)
    (subst (λ (x : ℕ). IsTrue (is_at_or_below vertices v x)) (sym e) (below_self vertices first v lt))
barred_itself vertices first (u ∷ us) (suc i) v lt within e =
    or_right (is_at_or_below vertices v u) (list_any (is_at_or_below vertices v) us)
    (barred_itself vertices first us i v lt (omega arith) e)
