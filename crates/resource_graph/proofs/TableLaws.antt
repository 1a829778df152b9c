-- The steps in which the tables of a graph are made.
use Rattle.std.proofs.Common.{◌≡◌, ℕ, ◌+◌, ◌*◌, ◌<◌, ◌↔◌, ◌⊎◌, Bool, true, false, ◌||◌, List, [], ◌∷◌, ◌++◌, length}
use Rattle.std.proofs.Common.{get_or, set, take, Option, Some, None, inl, inr, refl, sym, ◌∙◌, ap, subst, arith, IsTrue}
use Rattle.std.proofs.Common.{Vec, Global, ◌&&◌, ◌==◌, not}
use Rattle.std.specs.Prelude.{slice_get, is_some}
use Rattle.std.specs.List.{list_any}
use Rattle.std.specs.Option.{IsSomeAnd}
use Rattle.std.proofs.lemmas.Bool.{cases_lt, cases_eq, both_ways, not_from_false, not_from_true, ne_eqb, eq-eqb}
use Rattle.std.proofs.lemmas.Bool.{and_from, and_left, and_right, or_right}
use Rattle.std.proofs.lemmas.List.{get_or-set_same, get_or-set_other, length-set, length_push, get_or_append_left}
use Rattle.std.proofs.lemmas.List.{get_or_push}
use Rattle.std.proofs.lemmas.List.Folds.{list_any_more}
use Rattle.std.proofs.lemmas.Option.{slice_get_within, slice_get-get_or, get_or_from_slice_get, slice_get_read}
use Rattle.std.proofs.lemmas.Option.{slice_get_past}
use Rattle.std.proofs.Math.Bool.{or-false}
use Rattle.resource_graph.proofs.MarkLaws.{has_kind_in}
use Rattle.flux_defs.specs.declared.vertices.Vertex.{Vertex}
use Rattle.flux_defs.specs.Graph.{parent_of, is_at_or_below, HasKind, IsNode}
use Rattle.graph_laws.proofs.Containment.{ParentsFirst, below_from, below_self, below_parent, below_trans, parent_below}
use Rattle.graph_laws.proofs.Preorder.{parents_first}
use Rattle.resource_graph.specs.Preorder.{plain, InPreorder}
use Rattle.resource_graph.specs.Tables.{IsNodeOf}
use Rattle.resource_graph.specs.Holds.{HasNodes, HasLists, HasNested, AreEmpty, HasNodesTo, LiesIn, AddsNested}
use Rattle.resource_graph.proofs.ChainLaws.{no_vertex}

-- a pushed element is the last one, and the others stay
pub push_cases : {X : Type 0} (xs : List X) (y x : X) (i : ℕ) →
    slice_get (xs ++ y ∷ []) i ≡ Some x → ((i < length xs) × (slice_get xs i ≡ Some x)) ⊎ ((i ≡ length xs) × (x ≡ y))
push_cases xs y x i e =
    let within : i < length (xs ++ y ∷ []) = slice_get_within (xs ++ y ∷ []) i x e in
    let long : length (xs ++ y ∷ []) ≡ length xs + 1 = length_push xs y in
    let at : get_or (xs ++ y ∷ []) i y ≡ x = get_or_from_slice_get (xs ++ y ∷ []) i x y e in
    elim (cases_lt i (length xs)) [
      | inl before ↦
          inl (before, slice_get-get_or xs i y before ∙ ap Some (sym (get_or_append_left xs (y ∷ []) y i before) ∙ at))
      | inr last ↦ (let is : i ≡ length xs = omega arith in inr (is, sym at ∙ get_or_push xs y y i (sym is)))
    ]

-- a vertex with a rank is a node, and one without is none
pub node_here : (vertices : List Vertex) (v : ℕ) →
    v < length vertices → is_some (get_or vertices v no_vertex).rank ≡ true → IsNode vertices v
node_here vertices v lt h = subst
    (λ (o : Option Vertex). IsSomeAnd o (λ x. is_some x.rank ≡ true)) (sym (slice_get-get_or vertices v no_vertex lt)) h

pub no_node_here : (vertices : List Vertex) (v : ℕ) →
    v < length vertices → is_some (get_or vertices v no_vertex).rank ≡ false → IsNode vertices v → ⊥
no_node_here vertices v lt h node =
    let here : is_some (get_or vertices v no_vertex).rank ≡ true = subst (λ (o : Option Vertex).
    IsSomeAnd o (λ x. is_some x.rank ≡ true)) (slice_get-get_or vertices v no_vertex lt) node in
    both_ways _ h here

module _ (vertices : List Vertex) (o : InPreorder vertices) where
  first : ParentsFirst vertices
  first = parents_first (plain vertices) o

  -- a vertex that is no node lies in the node of its parent
  pub node_from_parent : (v p : ℕ) (found : Option ℕ) → v < length vertices →
      (IsNode vertices v → ⊥) → parent_of vertices v ≡ Some p → IsNodeOf vertices p found → IsNodeOf vertices v found
  node_from_parent v p None lt none parent of = λ n node below.
      elim (cases_eq v n) [
        | inl same ↦ none (subst (λ (w : ℕ). IsNode vertices w) (sym same) node)
        | inr differ ↦ (
            let above = parent_below vertices first v n lt (below_from vertices first v n differ below) in
            let is : p ≡ above.0 = (let e : Some p ≡ Some above.0 = sym parent ∙ above.1 in cc) in
            of n node (subst (λ (w : ℕ). IsTrue (is_at_or_below vertices w n)) (sym is) above.2))
      ]
  node_from_parent v p (Some n) lt none parent of =
      (of.0, below_trans vertices first v p n lt (below_parent vertices first v p lt parent) of.1)

  -- a root that is no node lies in none
  pub node_of_root : (v : ℕ) →
      v < length vertices → (IsNode vertices v → ⊥) → parent_of vertices v ≡ None → IsNodeOf vertices v None
  node_of_root v lt none root = λ n node below.
      elim (cases_eq v n) [
        | inl same ↦ none (subst (λ (w : ℕ). IsNode vertices w) (sym same) node)
        | inr differ ↦ (
            let above = parent_below vertices first v n lt (below_from vertices first v n differ below) in
            let e : None ≡ Some above.0 = sym root ∙ above.1 in cc)
      ]

  pub self_node : (v : ℕ) → v < length vertices → IsNode vertices v → IsNodeOf vertices v (Some v)
  self_node v lt node = (node, below_self vertices first v lt)

  pub parent_before : (v p : ℕ) → parent_of vertices v ≡ Some p → p < v
  parent_before v p e = first v p e

pub nodes_more : (vertices : List Vertex) (v : ℕ) (nodes grown : List (Option ℕ)) (found : Option ℕ) → HasNodesTo
    vertices v nodes → IsNodeOf vertices v found → grown ≡ nodes ++ found ∷ [] → HasNodesTo vertices (v + 1) grown
nodes_more vertices v nodes grown found before here is = record {
  as_many = ap length is ∙ (length_push nodes found ∙ ap (λ n. n + 1) before.as_many);
  each = λ u other e.
      elim (push_cases nodes found other u (sym (ap (λ l. slice_get l u) is) ∙ e)) [
        | inl old ↦ before.each u other old.1
        | inr new ↦ (let at : v ≡ u = sym before.as_many ∙ sym new.0 in
            subst (λ (w : ℕ). IsNodeOf vertices w other) at
            (subst (λ (x : Option ℕ). IsNodeOf vertices v x) (sym new.1) here))
      ];
}

pub nodes_all : (vertices : List Vertex) (v : ℕ) (nodes : List (Option ℕ)) →
    HasNodesTo vertices v nodes → v ≡ length vertices → HasNodes vertices nodes
nodes_all vertices v nodes to all = record { as_many = to.as_many ∙ all; each = to.each }

-- exactly the vertices of the kind among the first so many, rising
pub record ListsKindTo (vertices : List Vertex) (kind most : ℕ) (list : List ℕ) : Type 0 where
  pub only : (i : ℕ) → i < length list → HasKind vertices kind (get_or list i 0)
  pub low : (i : ℕ) → i < length list → get_or list i 0 < most
  pub all : (v : ℕ) → v < most → HasKind vertices kind v → (i : ℕ) × (i < length list) × (get_or list i 0 ≡ v)
  pub rising : (i j : ℕ) → i < j → j < length list → get_or list i 0 < get_or list j 0

pub record HasListsTo (vertices : List Vertex) (kinds most : ℕ) (lists : List (Vec ℕ Global)) : Type 0 where
  pub as_many : length lists ≡ kinds
  pub each : (k : ℕ) (list : Vec ℕ Global) → slice_get lists k ≡ Some list → ListsKindTo vertices k most list.items

-- past the last vertex
pub lists_all : (vertices : List Vertex) (kinds most : ℕ) (lists : List (Vec ℕ Global)) →
    HasListsTo vertices kinds most lists → most ≡ length vertices → HasLists vertices kinds lists
lists_all vertices kinds most lists to all = record {
  as_many = to.as_many;
  each = λ k list e. let l = to.each k list e in record {
    only = l.only;
    all = λ v has. l.all v (let within : v < length vertices = has_kind_in vertices k v has in omega arith) has;
    rising = λ k within. l.rising k (k + 1) (omega arith) within;
  };
}

pub lists_none : (vertices : List Vertex) (kinds : ℕ) (lists : List (Vec ℕ Global)) →
    AreEmpty lists kinds → HasListsTo vertices kinds 0 lists
lists_none vertices kinds lists empty = record {
  as_many = empty.as_many;
  each = λ k list e.
      let none : length list.items ≡ 0 = ap length (empty.each k list e) in
      record {
        only = λ i lt. absurd (omega arith);
        low = λ i lt. absurd (omega arith);
        all = λ v lt has. absurd (omega arith);
        rising = λ i j lt within. absurd (omega arith);
      };
}

-- the vertex at `most` is added to the list of its kind
pub list_more : (vertices : List Vertex) (kind most : ℕ) (list : List ℕ) → HasKind vertices kind most →
    ListsKindTo vertices kind most list → ListsKindTo vertices kind (most + 1) (list ++ most ∷ [])
list_more vertices kind most list has to =
    let long : length (list ++ most ∷ []) ≡ length list + 1 = length_push list most in
    let left : (i : ℕ) → i < length list → get_or (list ++ most ∷ []) i 0 ≡ get_or list i 0 =
    λ i lt. get_or_append_left list (most ∷ []) 0 i lt in
    let last : get_or (list ++ most ∷ []) (length list) 0 ≡ most = get_or_push list most 0 (length list) refl in
    record {
      only = λ i lt.
          elim (cases_lt i (length list)) [
            | inl before ↦ subst (λ (w : ℕ). HasKind vertices kind w) (sym (left i before)) (to.only i before)
            | inr end ↦ (let is : length list ≡ i = omega arith in
                subst (λ (j : ℕ). HasKind vertices kind (get_or (list ++ most ∷ []) j 0)) is
                (subst (λ (w : ℕ). HasKind vertices kind w) (sym last) has))
          ];
      low = λ i lt.
          elim (cases_lt i (length list)) [
            | inl before ↦ (let less : get_or list i 0 < most = to.low i before in let e = left i before in omega arith)
            | inr end ↦ (let is : i ≡ length list = omega arith in let e : get_or (list ++ most ∷ []) i 0
                ≡ most = ap (λ j. get_or (list ++ most ∷ []) j 0) is ∙ last in omega arith)
          ];
      all = λ v lt is_kind.
          elim (cases_lt v most) [
            | inl before ↦ (let there = to.all v before is_kind in (
              there.0,
              (let within : there.0 < length list = there.1 in omega arith),
              left there.0 there.1 ∙ there.2,
            ))
            | inr end ↦ (let is : most ≡ v = omega arith in (length list, omega arith, last ∙ is))
          ];
      rising = λ i j lt within.
          elim (cases_lt j (length list)) [
            | inl before ↦ (let less : get_or list i 0 < get_or list j 0 = to.rising i j lt before in
                let a = left i (omega arith) in let b = left j before in omega arith)
            | inr end ↦ (
                let is : j ≡ length list = omega arith in
                let e : get_or (list ++ most ∷ []) j 0 ≡ most = ap (λ k. get_or (list ++ most ∷ []) k 0) is ∙ last in
                let less : get_or list i 0 < most = to.low i (omega arith) in
                let a = left i (omega arith) in omega arith)
          ];
    }

-- a list of another kind stays
pub list_same : (vertices : List Vertex) (kind most : ℕ) (list : List ℕ) →
    (HasKind vertices kind most → ⊥) → ListsKindTo vertices kind most list → ListsKindTo vertices kind (most + 1) list
list_same vertices kind most list other to = record {
  only = to.only;
  low = λ i lt. let less : get_or list i 0 < most = to.low i lt in omega arith;
  all = λ v lt has.
      elim (cases_lt v most) [
        | inl before ↦ to.all v before has
        | inr end ↦
            (let is : v ≡ most = omega arith in absurd (other (subst (λ (w : ℕ). HasKind vertices kind w) is has)))
      ];
  rising = to.rising;
}

-- a pair of kinds is marked for the first vertices
pub record HasNestedTo (vertices : List Vertex) (kinds most : ℕ) (nested : List Bool) : Type 0 where
  pub as_many : length nested ≡ kinds * kinds
  pub each : (upper lower : ℕ) → upper < kinds → lower < kinds →
      (IsTrue (get_or nested (upper * kinds + lower) false) ↔ ((v : ℕ) × (v < most) × LiesIn vertices upper lower v))

pub nested_all : (vertices : List Vertex) (kinds most : ℕ) (nested : List Bool) →
    HasNestedTo vertices kinds most nested → most ≡ length vertices → HasNested vertices kinds nested
nested_all vertices kinds most nested to all = record {
  as_many = to.as_many;
  each = λ upper lower p q. (
    (λ h. let r = (to.each upper lower p q).0 h in (r.2.0, r.0, r.2.1, r.2.2, r.2.3)),
    (λ n. (to.each upper lower p q).1
        (n.1, (let within : n.1 < length vertices = kind_in n.1 lower n.3 in omega arith), (n.0, n.2, n.3, n.4))),
  );
}
  where
    kind_in : (v kind : ℕ) → HasKind vertices kind v → v < length vertices
    kind_in v kind has =
        elim (cases_lt v (length vertices)) [
          | inl within ↦ within
          | inr past ↦ absurd
              (subst (λ (o : Option Vertex). IsSomeAnd o (λ x. x.kind ≡ kind)) (slice_get_past vertices v past) has)
        ]

pub nested_more : (vertices : List Vertex) (kinds most : ℕ) (old new : List Bool) → HasNestedTo
    vertices kinds most old → AddsNested vertices kinds most old new → HasNestedTo vertices kinds (most + 1) new
nested_more vertices kinds most old new to adds = record {
  as_many = adds.as_many ∙ to.as_many;
  each = λ upper lower p q. (
    (λ h. elim ((adds.each upper lower p q).0 h) [
      | inl was ↦ (let r = (to.each upper lower p q).0 was in (r.0, (let lt : r.0 < most = r.1 in omega arith), r.2))
      | inr now ↦ (most, omega arith, now)
    ]),
    (λ r. elim (cases_lt r.0 most) [
      | inl before ↦ (adds.each upper lower p q).1 (inl ((to.each upper lower p q).1 (r.0, before, r.2)))
      | inr last ↦ (let lt : r.0 < most + 1 = r.1 in let is : r.0 ≡ most = omega arith in
          (adds.each upper lower p q).1 (inr (subst (λ (w : ℕ). LiesIn vertices upper lower w) is r.2)))
    ]),
  );
}

-- a pushed list is that of its kind, and the others stay
pub lists_more : (vertices : List Vertex) (kinds most : ℕ) (lists : List (Vec ℕ Global))
    (kind : ℕ) (old new : Vec ℕ Global) → kind ≡ (get_or vertices most no_vertex).kind → most < length vertices →
    kind < length lists → old ≡ get_or lists kind old → new.items ≡ old.items ++ most ∷ [] →
    HasListsTo vertices kinds most lists → HasListsTo vertices kinds (most + 1) (set lists kind new)
lists_more vertices kinds most lists kind old new is lt within read grown to =
    let has : HasKind vertices kind most = subst (λ (o : Option Vertex). IsSomeAnd o (λ x. x.kind ≡ kind))
    (sym (slice_get-get_or vertices most no_vertex lt)) (sym is) in
    let at : slice_get lists kind ≡ Some old = slice_get_read lists (length lists) kind old refl within read in
    record {
      as_many = length-set lists kind new ∙ to.as_many;
      each = λ k list e.
          let k_in : k < length (set lists kind new) = slice_get_within (set lists kind new) k list e in
          let long = length-set lists kind new in
          let value : get_or (set lists kind new) k old ≡ list =
          get_or_from_slice_get (set lists kind new) k list old e in
          elim (cases_eq k kind) [
            | inl same ↦ (
                let here : list ≡ new = sym value
                ∙ (ap (λ i. get_or (set lists kind new) i old) same ∙ get_or-set_same lists kind new old within) in
                let items : list.items ≡ old.items ++ most ∷ [] = ap (λ (v : Vec ℕ Global). v.items) here ∙ grown in
                subst (λ (j : ℕ). ListsKindTo vertices j (most + 1) list.items) (sym same)
                (subst (λ (l : List ℕ). ListsKindTo vertices kind (most + 1) l)
                (sym items) (list_more vertices kind most old.items has (to.each kind old at))))
            | inr differ ↦ (
                let there : get_or lists k old ≡ list = sym (get_or-set_other lists kind k new old differ) ∙ value in
                list_same vertices k most list.items (λ other. differ (
                let a : (get_or vertices most no_vertex).kind ≡ k = (let h = subst (λ (o : Option Vertex).
                IsSomeAnd o (λ x. x.kind ≡ k)) (slice_get-get_or vertices most no_vertex lt) other in h) in
                sym a ∙ sym is))
                (to.each k list
                (slice_get-get_or lists k old (let e2 : k < length lists = omega arith in e2) ∙ ap Some there)))
          ];
    }

-- one vertex more in the table of pool types
abbrev pub PoolsTo : List Vertex → ℕ → List Bool → Type 0
PoolsTo vertices most pools =
    (k : ℕ) → get_or pools k false ≡ list_any (λ x. (x.kind == k) && not (x.size == 1)) (take most vertices)

pub pools_more : (vertices : List Vertex) (most : ℕ) (pools : List Bool) (kind : ℕ) →
    most < length vertices → kind ≡ (get_or vertices most no_vertex).kind → kind < length pools →
    ((get_or vertices most no_vertex).size ≡ 1 → ⊥) →
    PoolsTo vertices most pools → PoolsTo vertices (most + 1) (set pools kind true)
pools_more vertices most pools kind lt is within pool to k =
    let x = get_or vertices most no_vertex in
    let p : Vertex → Bool = λ x. (x.kind == k) && not (x.size == 1) in
    let odd : not (x.size == 1) ≡ true = not_from_false (x.size == 1) (ne_eqb x.size 1 pool) in
    elim (cases_eq k kind) [
      | inl same ↦ (
          let test : p x ≡ true =
          and_from (x.kind == k) (not (x.size == 1)) (eq-eqb x.kind k (sym is ∙ sym same)) odd in
          ap (λ i. get_or (set pools kind true) i false) same ∙ (get_or-set_same pools kind true false within ∙ sym
          (list_any_more p vertices most no_vertex lt ∙ or_right (list_any p (take most vertices)) (p x) test)))
      | inr differ ↦ (
          let test : p x ≡ false =
          and_left (x.kind == k) (not (x.size == 1)) (ne_eqb x.kind k (λ e. differ (sym e ∙ sym is))) in
          get_or-set_other pools kind k true false differ ∙ (to k ∙ sym (list_any_more p vertices most no_vertex lt
          ∙ (ap (λ b. list_any p (take most vertices) || b) test ∙ or-false (list_any p (take most vertices))))))
    ]

pub pools_same : (vertices : List Vertex) (most : ℕ) (pools : List Bool) → most < length vertices →
    (get_or vertices most no_vertex).size ≡ 1 → PoolsTo vertices most pools → PoolsTo vertices (most + 1) pools
pools_same vertices most pools lt whole to k =
    let x = get_or vertices most no_vertex in
    let p : Vertex → Bool = λ x. (x.kind == k) && not (x.size == 1) in
    let test : p x ≡ false =
    and_right (x.kind == k) (not (x.size == 1)) (not_from_true (x.size == 1) (eq-eqb x.size 1 whole)) in
    to k ∙ sym (list_any_more p vertices most no_vertex lt
    ∙ (ap (λ b. list_any p (take most vertices) || b) test ∙ or-false (list_any p (take most vertices))))
