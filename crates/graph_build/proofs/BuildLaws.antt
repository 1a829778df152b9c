-- What the steps of building make together.
use Rattle.std.proofs.Common.{◌≡◌, ℕ, ◌<◌, ◌≤◌, List, length, get_or, map, Option, Some, None, inl, inr, refl, sym, ◌∙◌}
use Rattle.std.proofs.Common.{ap, subst, arith, MatchOption, option_and_then}
use Rattle.std.specs.Prelude.{slice_get, IsSome}
use Rattle.std.specs.Option.{IsSomeAnd, option_map}
use Rattle.std.proofs.lemmas.Bool.{cases_lt}
use Rattle.std.proofs.lemmas.List.{length-map}
use Rattle.std.proofs.lemmas.Option.{slice_get-get_or, slice_get_within, same_Some, slice_get_past, slice_get-map}
use Rattle.flux_defs.specs.declared.limits.TheConstants.{MOST_TYPES}
use Rattle.flux_defs.specs.declared.vertices.Vertex.{Vertex}
use Rattle.flux_defs.specs.Graph.{ResourceGraph, parent_of, HasKind}
use Rattle.flux_defs.specs.ValidGraph.{IsValidGraph, NumbersKinds}
use Rattle.resource_graph.specs.Chains.{KnowsParents}
use Rattle.graph_build.specs.Orders.{IsOrderOf, IsPreorderOf, IsRooted}
use Rattle.resource_graph.specs.Preorder.{KnowsKinds}
use Rattle.graph_build.proofs.Facts.{Facts}
use Rattle.resource_graph.specs.Made.{named_graph}
use Rattle.graph_build.specs.Raw.{shape_of, raw_graph, raw_names, KindsApart, IsArranged, AreSiblingsInOrder}
use Rattle.graph_build.specs.Raw.{AreTextsOf, IsBuiltFrom}
use Rattle.graph_build.specs.Arranged.{HasNumbers, IsArrangedList, HasTexts, HasKindAt, IsNumbered, IsKindNumbering}
use Rattle.graph_build.specs.Arranged.{HasKindNumbers, HasMadeTo}
use Rattle.graph_build.specs.declared.raw.RawVertex.{RawVertex}
use Rattle.resource_graph.specs.declared.graph.Texts.{Texts}
use Rattle.graph_build.specs.declared.arrange.KindNumbering.{KindNumbering}
use Rattle.resource_graph.proofs.ChainLaws.{no_vertex, parent_read}
use Rattle.graph_build.proofs.ValidLaws.{rooted_of_faultless, valid_of_faultless}
use Rattle.list_laws.proofs.Values.{from_value}
use Rattle.graph_build.proofs.ArrangeLaws.{index_of, index_at, index_is, parent_index}

module _ (kinds : List (List ℕ)) (names : List (List ℕ)) (vertices : List Vertex)
    (fine : Facts (record { kinds = kinds; vertices = vertices }) names) where
  pub kinds_known : KnowsKinds vertices (length kinds)
  kinds_known i x e = elim (cases_lt x.kind (length kinds)) [
    | inl less ↦ less
    | inr past ↦ absurd
        (fine.known i (from_value (slice_get vertices i) (λ z. length kinds ≤ z.kind) x e past))
  ]

  pub rooted : IsRooted vertices
  rooted = rooted_of_faultless (record { kinds = kinds; vertices = vertices }) names fine

module _ (kinds : List (List ℕ)) (vertices : List Vertex) (order : List ℕ)
    (indices : IsOrderOf (length vertices) order) (numbering : KindNumbering)
    (numbered : IsKindNumbering kinds vertices order (length order) numbering) where
  -- every vertex's kind has a number
  pub kind_numbers : HasKindNumbers vertices numbering.numbers.items
  kind_numbers i x e =
      let k = indices.each i (slice_get_within vertices i x e) in
      numbered.seen k.0 x.kind (slice_get_within order k.0 i k.1) (i, x, k.1, e, refl)

  module _ (numbers : List ℕ) (has_numbers : HasNumbers order (length order) numbers) (known : KnowsParents vertices)
      (made : List Vertex) (built : HasMadeTo kinds vertices order numbers numbering.numbers.items (length order)
      made) where
    g : ResourceGraph
    g = record { kinds = numbering.kinds.items; vertices = made }

    parent_made : (i : ℕ) (x y : Vertex) → slice_get vertices i ≡ Some x →
        y.parent ≡ option_map (λ p. get_or numbers p 0) x.parent →
        MatchOption x.parent (y.parent ≡ None) (λ j. IsSomeAnd y.parent (λ p. slice_get order p ≡ Some j))
    parent_made i x y at e = go x.parent refl e
      where
        go : (o : Option ℕ) → x.parent ≡ o → y.parent ≡ option_map (λ p. get_or numbers p 0) o →
            MatchOption o (y.parent ≡ None) (λ j. IsSomeAnd y.parent (λ p. slice_get order p ≡ Some j))
        go None f h = h
        go (Some j) f h =
            let j_in : j < length vertices = known i j (parent_read vertices i x at ∙ f) in
            let k = indices.each j j_in in
            let number : get_or numbers j 0 ≡ k.0 = has_numbers.each k.0 j (slice_get_within order k.0 j k.1) k.1 in
            from_value y.parent (λ p. slice_get order p ≡ Some j) (get_or numbers j 0) h
            (ap (slice_get order) number ∙ k.1)

    pub arranged_made : IsArranged kinds vertices order (record { kinds = numbering.kinds.items; vertices = made })
    arranged_made = record {
      indices = indices;
      as_many = built.as_many ∙ indices.as_many;
      renumbered = λ k i x y at_i at_x at_y.
          let from = built.each k i x y at_i at_x at_y in
          record {
            kind = numbered.named x.kind y.kind from.kind;
            size = from.size;
            id = from.id;
            parent = parent_made i x y at_x from.parent;
          };
      ranks = built.ranks;
    }

    -- a built vertex and where it comes from
    from_index : (v : ℕ) (y : Vertex) → slice_get made v ≡ Some y →
        HasKindAt vertices order v (get_or vertices (get_or order v 0) no_vertex).kind
        × IsNumbered numbering (get_or vertices (get_or order v 0) no_vertex).kind y.kind × (v < length order)
    from_index v y e =
        let v_in : v < length order = (let lt : v < length made = slice_get_within made v y e in
        let long = built.as_many in omega arith) in
        let i = get_or order v 0 in
        let at_i : slice_get order v ≡ Some i = slice_get-get_or order v 0 v_in in
        let x = get_or vertices i no_vertex in
        let at_x : slice_get vertices i ≡ Some x = slice_get-get_or vertices i no_vertex (indices.known v i at_i) in
        ((i, x, at_i, at_x, refl), (built.each v i x y at_i at_x e).kind, v_in)

    -- what was seen with a kind has its number
    kind_made : (k kind j : ℕ) → HasKindAt vertices order k kind → IsNumbered numbering kind j → HasKind made j k
    kind_made k kind j at number =
        let k_in : k < length made = (let lt : k < length order = slice_get_within order k at.0 at.2 in
        let long = built.as_many in omega arith) in
        let y = get_or made k no_vertex in
        let at_y : slice_get made k ≡ Some y = slice_get-get_or made k no_vertex k_in in
        let from = built.each k at.0 at.1 y at.2 at.3 at_y in
        let is : y.kind ≡ j = same_Some _ _ (same_Some _ _
        (sym from.kind ∙ (ap (slice_get numbering.numbers.items) at.4 ∙ number))) in
        from_value (slice_get made k) (λ z. z.kind ≡ j) y at_y is

    pub numbers_kinds : KindsApart kinds → NumbersKinds (record { kinds = numbering.kinds.items; vertices = made })
    numbers_kinds apart = record {
      known = λ v y e. (let from = from_index v y e in numbered.within _ y.kind from.1);
      apart = λ j k some same. one_number j k some same;
      used = λ j lt. (let u = numbered.used j lt in (u.0, kind_made u.0 u.1 j u.3 u.4));
      rising = λ v y e lesser lt.
          let from = from_index v y e in
          let r = numbered.rising v _ y.kind lesser from.2 from.0 from.1 lt in
          (r.0, r.2, kind_made r.0 r.1 lesser r.3 r.4);
    }
      where
        index_in : (j : ℕ) → IsSome (slice_get numbering.kinds.items j) → j < length numbering.kinds.items
        index_in j some = elim (cases_lt j (length numbering.kinds.items)) [
          | inl less ↦ less
          | inr past ↦ absurd (let none : IsSome {T = List ℕ} None =
              subst IsSome (slice_get_past numbering.kinds.items j past) some in cc)
        ]

        one_number : (j k : ℕ) → IsSome (slice_get numbering.kinds.items j) →
            slice_get numbering.kinds.items j ≡ slice_get numbering.kinds.items k → j ≡ k
        one_number j k some same =
            let j_in = index_in j some in
            let k_in = index_in k (subst IsSome same some) in
            let uj = numbered.used j j_in in
            let uk = numbered.used k k_in in
            let nj = numbered.named uj.1 j uj.4 in
            let nk = numbered.named uk.1 k uk.4 in
            let kind : uj.1 ≡ uk.1 = apart uj.1 uk.1 (subst IsSome nj some) (sym nj ∙ (same ∙ nk)) in
            same_Some _ _ (same_Some _ _ (sym uj.4 ∙ (ap (slice_get numbering.numbers.items) kind ∙ uk.4)))

-- the siblings of an arrangement by preorder rise
pub siblings_kept : (kinds : List (List ℕ)) (vertices : List Vertex) (order : List ℕ) (g : ResourceGraph) →
    IsArranged kinds vertices order g → IsPreorderOf vertices order → AreSiblingsInOrder order g
siblings_kept kinds vertices order g arranged pre j k u v lt same at_u at_v =
    let index = index_of kinds vertices order g arranged in
    let pj : parent_of vertices u ≡ option_map index (parent_of g.vertices j) =
    ap (parent_of vertices) (sym (index_is kinds vertices order g arranged j u at_u))
    ∙ parent_index kinds vertices order g arranged j in
    let pk : parent_of vertices v ≡ option_map index (parent_of g.vertices k) =
    ap (parent_of vertices) (sym (index_is kinds vertices order g arranged k v at_v))
    ∙ parent_index kinds vertices order g arranged k in
    pre.siblings j k u v lt at_u at_v (pj ∙ (ap (option_map index) same ∙ sym pk))

-- what the arranged list says of a vertex is what the raw list says
said_at : {X : Type 0} (raw list : List RawVertex) (order : List ℕ) (said : RawVertex → X) →
    IsOrderOf (length raw) order → IsArrangedList raw order (length order) list → (k : ℕ) →
    slice_get (map said list) k ≡ option_and_then (λ i. option_map said (slice_get raw i)) (slice_get order k)
said_at {X} raw list order said indices arranged k = slice_get-map said list k ∙ at (slice_get order k) refl
  where
    at : (o : Option ℕ) → slice_get order k ≡ o →
        option_map said (slice_get list k) ≡ option_and_then (λ i. option_map said (slice_get raw i)) o
    at None e = ap (option_map said) (slice_get_past list k (elim (cases_lt k (length order)) [
      | inl within ↦ absurd (let clash : None ≡ Some (get_or order k 0) = sym e ∙ slice_get-get_or order k 0 within in
          cc)
      | inr past ↦ (let long = arranged.as_many in omega arith)
    ]))
    at (Some i) e = ap (option_map said) (arranged.each k i (slice_get_within order k i e) e)

pub texts_kept : (raw list : List RawVertex) (order : List ℕ) (g : ResourceGraph) (texts : Texts) →
    IsOrderOf (length raw) order → IsArrangedList raw order (length order) list → HasTexts list texts →
    AreTextsOf raw order (named_graph g.kinds g.vertices texts)
texts_kept raw list order g texts indices arranged has = record {
  names = λ k. ap (λ l. slice_get l k) has.names ∙ said_at raw list order (λ r. r.name) indices arranged k;
  bases = λ k. ap (λ l. slice_get l k) has.bases ∙ said_at raw list order (λ r. r.base) indices arranged k;
  units = λ k. ap (λ l. slice_get l k) has.units ∙ said_at raw list order (λ r. r.unit) indices arranged k;
  properties = λ k. ap (λ l. slice_get l k) has.properties
      ∙ said_at raw list order (λ r. r.properties) indices arranged k;
}

-- the graph that was built is whole, and built from the list
pub built_whole : (kinds : List (List ℕ)) (raw list : List RawVertex) (order numbers : List ℕ)
    (numbering : KindNumbering) (made : List Vertex) (texts : Texts) →
    KindsApart kinds → Facts (raw_graph kinds raw) (raw_names raw) → IsPreorderOf (map shape_of raw) order →
    HasNumbers order (length order) numbers →
    IsKindNumbering kinds (map shape_of raw) order (length order) numbering →
    HasMadeTo kinds (map shape_of raw) order numbers numbering.numbers.items (length order) made →
    IsArrangedList raw order (length order) list → HasTexts list texts →
    IsBuiltFrom kinds raw (named_graph numbering.kinds.items made texts)
built_whole kinds raw list order numbers numbering made texts apart fine pre has_numbers numbered built arranged_list
    has =
    let vertices = map shape_of raw in
    let root = rooted kinds (raw_names raw) vertices fine in
    let g : ResourceGraph = record { kinds = numbering.kinds.items; vertices = made } in
    let arranged = arranged_made kinds vertices order pre.indices numbering numbered numbers has_numbers root.known
    made built in
    let long : length vertices ≡ length raw = length-map raw shape_of in
    let indices : IsOrderOf (length raw) order = subst (λ (n : ℕ). IsOrderOf n order) long pre.indices in
    let kept = texts_kept raw list order g texts indices arranged_list has in
    let list_long : length list ≡ length made = arranged_list.as_many ∙ sym built.as_many in
    let few : length numbering.kinds.items ≤ MOST_TYPES =
    (let a : length numbering.kinds.items ≤ length kinds = numbered.few in
    let b : length kinds ≤ MOST_TYPES = fine.few_kinds in omega arith) in
    let valid : IsValidGraph g texts.names = valid_of_faultless kinds vertices (raw_names raw) apart fine order g
    arranged texts.names
    (ap length has.names ∙ (length-map list (λ (r : RawVertex). r.name) ∙ (list_long ∙ arranged.as_many)))
    (λ k lt. kept.names k ∙ (ap (option_and_then (λ i. option_map (λ r. r.name) (slice_get raw i)))
    (index_at kinds vertices order g arranged k lt)
    ∙ sym (slice_get-map (λ (r : RawVertex). r.name) raw (index_of kinds vertices order g arranged k))))
    (numbers_kinds kinds vertices order pre.indices numbering numbered numbers has_numbers root.known made built apart)
    few pre in
    record {
      whole = record {
        valid = valid;
        bases = ap length has.bases ∙ (length-map list (λ (r : RawVertex). r.base) ∙ list_long);
        units = ap length has.units ∙ (length-map list (λ (r : RawVertex). r.unit) ∙ list_long);
        properties = ap length has.properties ∙ (length-map list (λ (r : RawVertex). r.properties) ∙ list_long);
      };
      order = order;
      arranged = arranged;
      siblings = siblings_kept kinds vertices order g arranged pre;
      texts = kept;
    }

-- the same from what each step says of the slices that it was lent
pub built_steps : (kinds : List (List ℕ)) (raw owned : List RawVertex) (shapes : List Vertex)
    (order o2 o4 o6 o9 numbers n7 : List ℕ)
    (numbering : KindNumbering) (kn8 : List (Option ℕ)) (made : List Vertex) (list : List RawVertex) (texts : Texts) →
    KindsApart kinds → Facts (raw_graph kinds raw) (raw_names raw) → shapes ≡ map shape_of raw →
    IsPreorderOf shapes order →
    o2 ≡ order → HasNumbers o2 (length o2) numbers →
    o4 ≡ order → IsKindNumbering kinds shapes o4 (length o4) numbering →
    o6 ≡ order → n7 ≡ numbers → kn8 ≡ numbering.numbers.items → HasMadeTo kinds shapes o6 n7 kn8 (length o6) made →
    owned ≡ raw → o9 ≡ order → IsArrangedList owned o9 (length o9) list → HasTexts list texts →
    IsBuiltFrom kinds raw (named_graph numbering.kinds.items made texts)
built_steps kinds raw owned shapes order o2 o4 o6 o9 numbers n7 numbering kn8 made list texts apart fine
    e_shapes pre e_o2 has e_o4 numbered e_o6 e_n7 e_kn8 built e_owned e_o9 arranged has_texts =
    let pre' : IsPreorderOf (map shape_of raw) order = subst (λ (l : List Vertex). IsPreorderOf l order) e_shapes pre in
    let has' : HasNumbers order (length order) numbers = subst (λ (l : List ℕ). HasNumbers l (length l) numbers) e_o2
    has in
    let n2 : IsKindNumbering kinds (map shape_of raw) o4 (length o4) numbering =
    subst (λ (l : List Vertex). IsKindNumbering kinds l o4 (length o4) numbering) e_shapes numbered in
    let n3 : IsKindNumbering kinds (map shape_of raw) order (length order) numbering =
    subst (λ (l : List ℕ). IsKindNumbering kinds (map shape_of raw) l (length l) numbering) e_o4 n2 in
    let m2 : HasMadeTo kinds (map shape_of raw) o6 n7 kn8 (length o6) made =
    subst (λ (l : List Vertex). HasMadeTo kinds l o6 n7 kn8 (length o6) made) e_shapes built in
    let m3 : HasMadeTo kinds (map shape_of raw) order n7 kn8 (length order) made =
    subst (λ (l : List ℕ). HasMadeTo kinds (map shape_of raw) l n7 kn8 (length l) made) e_o6 m2 in
    let m4 : HasMadeTo kinds (map shape_of raw) order numbers kn8 (length order) made =
    subst (λ (l : List ℕ). HasMadeTo kinds (map shape_of raw) order l kn8 (length order) made) e_n7 m3 in
    let m5 : HasMadeTo kinds (map shape_of raw) order numbers numbering.numbers.items (length order) made =
    subst (λ (l : List (Option ℕ)). HasMadeTo kinds (map shape_of raw) order numbers l (length order) made) e_kn8
    m4 in
    let a1 : IsArrangedList raw o9 (length o9) list =
    subst (λ (l : List RawVertex). IsArrangedList l o9 (length o9) list) e_owned arranged in
    let a2 : IsArrangedList raw order (length order) list =
    subst (λ (l : List ℕ). IsArrangedList raw l (length l) list) e_o9 a1 in
    built_whole kinds raw list order numbers numbering made texts apart fine pre' has' n3 m5 a2 has_texts

-- the graph of equal types, vertices and texts
pub built_same : (kinds : List (List ℕ)) (raw : List RawVertex) (a b : List (List ℕ)) (made same : List Vertex)
    (texts : Texts) → b ≡ a → same ≡ made →
    IsBuiltFrom kinds raw (named_graph a made texts) → IsBuiltFrom kinds raw (named_graph b same texts)
built_same kinds raw a b made same texts e f is =
    subst (λ (l : List (List ℕ)). IsBuiltFrom kinds raw (named_graph l same texts)) (sym e)
    (subst (λ (l : List Vertex). IsBuiltFrom kinds raw (named_graph a l texts)) (sym f) is)
