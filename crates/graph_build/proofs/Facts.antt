-- The table of faults as one fact a row, where none of them holds.
use Rattle.std.proofs.Common.{◌≡◌, ℕ, zero, suc, ◌<◌, ◌≤◌, ◌⊎◌, true, false, List, length, Option, Some, None, inl, inr}
use Rattle.std.proofs.Common.{refl, sym, ◌∙◌, ap, subst, arith, IsTrue, true≢false}
use Rattle.std.specs.Prelude.{slice_get, codes}
use Rattle.std.specs.Option.{option_map_or}
use Rattle.std.specs.Str.{bytes_eq}
use Rattle.std.proofs.lemmas.Bool.{cases_lt, cases_Bool}
use Rattle.std.proofs.lemmas.Slice.Eq.{bytes_eq-Decides}
use Rattle.std.proofs.lemmas.Option.{slice_get_within, same_Some}
use Rattle.flux_defs.specs.declared.vertices.Vertex.{Vertex}
use Rattle.flux_defs.specs.declared.limits.TheConstants.{MOST_VERTICES, MOST_TYPES}
use Rattle.flux_defs.specs.Graph.{ResourceGraph, parent_of, is_below}
use Rattle.flux_defs.specs.ValidGraph.{IsDevice}
use Rattle.resource_graph.specs.Finds.{Nowhere}
use Rattle.list_laws.proofs.Values.{value_of, from_value}
use Rattle.graph_build.specs.Faults.{IsNodeType, HasUnknownParent, HasUnknownKind, IsRoot, IsSecondRoot, NeverEnds}
use Rattle.graph_build.specs.Faults.{IsDeep, IsNestedInKind, IsReserved}
use Rattle.graph_build.specs.Faults.{IsPoolWithChild, IsSized, IsLarge, IsHoused, HasNoId, HasDoubleId, HasDoubleName}
use Rattle.graph_build.specs.Faults.{HasBadRank}
use Rattle.graph_build.specs.Table.{IsFaultless}
use Rattle.graph_build.specs.Raw.{is_node_of}

pub record Facts (g : ResourceGraph) (names : List (List ℕ)) : Type 0 where
  pub few : length g.vertices ≤ MOST_VERTICES
  pub few_kinds : length g.kinds ≤ MOST_TYPES
  pub parents : Nowhere (HasUnknownParent g)
  pub known : Nowhere (HasUnknownKind g)
  pub root : (r : ℕ) × IsRoot g r
  pub alone : Nowhere (IsSecondRoot g)
  pub ends : Nowhere (NeverEnds g)
  pub shallow : Nowhere (IsDeep g)
  pub unnested : Nowhere (IsNestedInKind g)
  pub unreserved : Nowhere (IsReserved g)
  pub leaves : Nowhere (IsPoolWithChild g)
  pub whole : Nowhere (IsSized g)
  pub most : Nowhere (IsLarge g)
  pub housed : (v : ℕ) → IsDevice g v → IsHoused g v
  pub identified : Nowhere (HasNoId g)
  pub ids : Nowhere (HasDoubleId g)
  pub names_apart : Nowhere (HasDoubleName g names)
  pub ranks : Nowhere (HasBadRank g)

module _ (kinds : List (List ℕ)) where
  -- the test for a node and the type's name
  pub node_test : (x : Vertex) → is_node_of kinds x ≡ true → slice_get kinds x.kind ≡ Some (codes "node")
  node_test x h = go (slice_get kinds x.kind) h
    where
      go : (o : Option (List ℕ)) → option_map_or (bytes_eq (codes "node")) o false ≡ true → o ≡ Some (codes "node")
      go None e = absurd (true≢false (sym e))
      go (Some name) e = ap Some (sym ((bytes_eq-Decides (codes "node") name).0 e))

  pub node_tested : (x : Vertex) → slice_get kinds x.kind ≡ Some (codes "node") → is_node_of kinds x ≡ true
  node_tested x e = ap (λ o. option_map_or (bytes_eq (codes "node")) o false) e
      ∙ (bytes_eq-Decides (codes "node") (codes "node")).1 refl

-- what is decided at each number holds at one below the count, or at none
find : (P : ℕ → Type 0) → ((v : ℕ) → P v ⊎ (P v → ⊥)) → (n : ℕ) → ((v : ℕ) × P v) ⊎ ((v : ℕ) → v < n → P v → ⊥)
find P decide zero = inr (λ v lt. absurd (omega arith))
find P decide (suc n) = elim (find P decide n) [
  | inl found ↦ inl found
  | inr none ↦ elim (decide n) [
    | inl here ↦ inl (n, here)
    | inr not ↦ inr (λ v lt p. elim (cases_lt v n)
        [ inl before ↦ none v before p | inr last ↦ (let is : v ≡ n = omega arith in not (subst P is p)) ])
  ]
]

module _ (g : ResourceGraph) where
  decide_root : (v : ℕ) → IsRoot g v ⊎ (IsRoot g v → ⊥)
  decide_root v = elim (cases_lt v (length g.vertices)) [
    | inl lt ↦ go (parent_of g.vertices v) refl lt
    | inr past ↦ inr
        (λ r. let lt : v < length g.vertices = r.0 in omega arith)
  ]
    where
      go : (o : Option ℕ) → parent_of g.vertices v ≡ o → v < length g.vertices → IsRoot g v ⊎ (IsRoot g v → ⊥)
      go None e lt = inl (lt, e)
      go (Some p) e lt = inr (λ r. let clash : Some p ≡ None = sym e ∙ r.1 in cc)

  decide_node : (v : ℕ) → IsNodeType g v ⊎ (IsNodeType g v → ⊥)
  decide_node v = go (slice_get g.vertices v) refl
    where
      go : (o : Option Vertex) → slice_get g.vertices v ≡ o → IsNodeType g v ⊎ (IsNodeType g v → ⊥)
      go None e = inr (λ h. let x = value_of (slice_get g.vertices v)
          (λ x. slice_get g.kinds x.kind ≡ Some (codes "node")) h in let clash : None ≡ Some x.0 = sym e ∙ x.1 in cc)
      go (Some x) e = elim (cases_Bool (is_node_of g.kinds x)) [
        | inl is ↦ inl (from_value (slice_get g.vertices v) (λ x. slice_get g.kinds x.kind ≡ Some (codes "node")) x e
            (node_test g.kinds x is))
        | inr not ↦ inr (λ h.
            let y = value_of (slice_get g.vertices v) (λ x. slice_get g.kinds x.kind ≡ Some (codes "node")) h in
            let same : y.0 ≡ x = same_Some _ _ (sym y.1 ∙ e) in
            true≢false (sym (node_tested g.kinds x (ap (λ (z : Vertex). slice_get g.kinds z.kind) (sym same) ∙ y.2))
            ∙ not))
      ]

  pub root_of : ((n : ℕ) → (n ≡ 0) × Nowhere (IsRoot g) → ⊥) → (r : ℕ) × IsRoot g r
  root_of some = elim (find (IsRoot g) decide_root (length g.vertices)) [
    | inl found ↦ found
    | inr none ↦ absurd (some 0 (refl, λ v root. none v root.0 root))
  ]

  pub house_of : (v : ℕ) → ((IsHoused g v → ⊥) → ⊥) → IsHoused g v
  house_of v some = elim (find (λ n. IsNodeType g n × IsTrue (is_below g.vertices v n)) both (length g.vertices)) [
    | inl found ↦ (found.0, found.1.0, found.1.1)
    | inr none ↦ absurd (some (λ house. none house.0
        (let x = value_of (slice_get g.vertices house.0) (λ x. slice_get g.kinds x.kind ≡ Some (codes "node")) house.1
        in slice_get_within g.vertices house.0 x.0 x.1) (house.1, house.2)))
  ]
    where
      both : (n : ℕ) → (IsNodeType g n × IsTrue (is_below g.vertices v n)) ⊎
          (IsNodeType g n × IsTrue (is_below g.vertices v n) → ⊥)
      both n = elim (decide_node n) [
        | inl node ↦ elim (cases_Bool (is_below g.vertices v n))
            [ inl below ↦ inl (node, below) | inr not ↦ inr (λ h. true≢false (sym h.1 ∙ not)) ]
        | inr not ↦ inr (λ h. not h.0)
      ]

pub at_most : (n most : ℕ) → ((k : ℕ) → (k ≡ n) × (most < k) → ⊥) → n ≤ most
at_most n most none = elim (cases_lt most n) [ inl more ↦ absurd (none n (refl, more)) | inr le ↦ le ]

pub facts : (g : ResourceGraph) (names : List (List ℕ)) → IsFaultless g names → Facts g names
facts g names (
  few,
  (
    few_kinds,
    (
      parents,
      (
        known,
        (
          root,
          (
            alone,
            (
              ends,
              (
                shallow,
                (
                  unnested,
                  (
                    unreserved,
                    (
                      leaves,
                      (whole, (most, (loose, (identified, (ids, (names_apart, (ranks, _))))))),
                    ),
                  ),
                ),
              ),
            ),
          ),
        ),
      ),
    ),
  ),
) = record {
  few = at_most (length g.vertices) MOST_VERTICES few;
  few_kinds = at_most (length g.kinds) MOST_TYPES few_kinds;
  parents = parents;
  known = known;
  root = root_of g root;
  alone = alone;
  ends = ends;
  shallow = shallow;
  unnested = unnested;
  unreserved = unreserved;
  leaves = leaves;
  whole = whole;
  most = most;
  housed = λ v device. house_of g v (λ none. loose v (device, none));
  identified = identified;
  ids = ids;
  names_apart = names_apart;
  ranks = ranks;
}

pub faultless : (g : ResourceGraph) (names : List (List ℕ)) → Facts g names → IsFaultless g names
faultless g names f = (
  λ n over. (let le = f.few in let is = over.0 in let more = over.1 in omega arith),
  (
    λ n over. (let le = f.few_kinds in let is = over.0 in let more = over.1 in omega arith),
    (
      f.parents,
      (
        f.known,
        (
          λ n none. none.1 f.root.0 f.root.1,
          (
            f.alone,
            (
              f.ends,
              (
                f.shallow,
                (
                  f.unnested,
                  (
                    f.unreserved,
                    (
                      f.leaves,
                      (
                        f.whole,
                        (
                          f.most,
                          (
                            λ v loose. loose.1 (f.housed v loose.0),
                            (f.identified, (f.ids, (f.names_apart, (f.ranks, tt)))),
                          ),
                        ),
                      ),
                    ),
                  ),
                ),
              ),
            ),
          ),
        ),
      ),
    ),
  ),
)
