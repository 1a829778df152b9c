-- Which types contain the type of a vertex, from its parent up.
use Rattle.std.proofs.Common.{◌≡◌, ℕ, ◌+◌, ◌*◌, ◌<◌, ◌≤◌, ◌⊎◌, Bool, true, false, List, length, get_or, set, Option}
use Rattle.std.proofs.Common.{Some, None, inl, inr, refl, sym, ◌∙◌, ap, subst, arith, IsTrue}
use Rattle.std.specs.Option.{IsSomeAnd, option_map_or}
use Rattle.std.proofs.lemmas.Bool.{cases_lt, cases_eq}
use Rattle.std.proofs.lemmas.List.{get_or-set_same, get_or-set_other, length-set}
use Rattle.std.proofs.lemmas.Nat.{mul-add-lt, same_from_place}
use Rattle.std.proofs.lemmas.Option.{slice_get-get_or}
use Rattle.list_laws.proofs.Values.{fact_within}
use Rattle.flux_defs.specs.declared.vertices.Vertex.{Vertex}
use Rattle.flux_defs.specs.Graph.{parent_of, is_at_or_below, is_below, HasKind}
use Rattle.graph_laws.proofs.Containment.{ParentsFirst, below_le, below_from, below_to, below_parent, below_trans}
use Rattle.graph_laws.proofs.Containment.{parent_below}
use Rattle.graph_laws.proofs.Preorder.{parents_first}
use Rattle.resource_graph.specs.Preorder.{plain, InPreorder, KnowsKinds}
use Rattle.resource_graph.specs.Holds.{LiesIn, AddsNested}
use Rattle.resource_graph.proofs.ChainLaws.{no_vertex}

-- what an index of the list has as its kind
pub kind_here : (vertices : List Vertex) (v : ℕ) →
    v < length vertices → HasKind vertices (get_or vertices v no_vertex).kind v
kind_here vertices v lt = subst (λ (o : Option Vertex). IsSomeAnd o (λ x. x.kind ≡ (get_or vertices v no_vertex).kind))
    (sym (slice_get-get_or vertices v no_vertex lt)) refl

pub kind_is : (vertices : List Vertex) (kind v : ℕ) →
    v < length vertices → HasKind vertices kind v → kind ≡ (get_or vertices v no_vertex).kind
kind_is vertices kind v lt has = sym (let h = subst
    (λ (o : Option Vertex). IsSomeAnd o (λ x. x.kind ≡ kind)) (slice_get-get_or vertices v no_vertex lt) has in h)

pub has_kind_in : (vertices : List Vertex) (kind v : ℕ) → HasKind vertices kind v → v < length vertices
has_kind_in vertices kind v has = fact_within vertices v (λ x. x.kind ≡ kind) has

-- the pairs of kinds of v and what is above it are marked, as far as the climb has come
pub record Marks (vertices : List Vertex) (kinds v : ℕ) (above : Option ℕ) (old new : List Bool) : Type 0 where
  pub as_many : length new ≡ length old
  pub kept : (i : ℕ) → IsTrue (get_or old i false) → IsTrue (get_or new i false)
  pub sound : (a b : ℕ) → a < kinds → b < kinds →
      IsTrue (get_or new (a * kinds + b) false) → IsTrue (get_or old (a * kinds + b) false) ⊎ LiesIn vertices a b v
  pub done : (u : ℕ) → IsTrue (is_below vertices v u) →
      ((w : ℕ) × (above ≡ Some w) × IsTrue (is_at_or_below vertices w u))
      ⊎ ((a b : ℕ) → HasKind vertices a u → HasKind vertices b v → IsTrue (get_or new (a * kinds + b) false))
  pub reach : (w : ℕ) → above ≡ Some w → IsTrue (is_below vertices v w)

module _ (vertices : List Vertex) (o : InPreorder vertices) (kinds : ℕ) (known : KnowsKinds vertices kinds) where
  first : ParentsFirst vertices
  first = parents_first (plain vertices) o

  pub kind_low : (v : ℕ) → v < length vertices → (get_or vertices v no_vertex).kind < kinds
  kind_low v lt = known v (get_or vertices v no_vertex) (slice_get-get_or vertices v no_vertex lt)

  pub reach_in : (v u : ℕ) → v < length vertices → IsTrue (is_below vertices v u) → u < v
  reach_in v u lt h =
      let b = below_to vertices first v u h in
      let le : u ≤ v = below_le vertices first v u b.0 in
      elim (cases_lt u v) [ inl less ↦ less | inr not_less ↦ absurd (b.1 (omega arith)) ]

  pub marks_none : (v : ℕ) (old : List Bool) →
      v < length vertices → Marks vertices kinds v (parent_of vertices v) old old
  marks_none v old lt = record {
    as_many = refl;
    kept = λ i h. h;
    sound = λ a b p q h. inl h;
    done = λ u h. inl (parent_below vertices first v u lt h);
    reach = λ w e.
        let before : w < v = first v w e in
        below_from vertices first v w (λ same. omega arith) (below_parent vertices first v w lt e);
  }

  pub marks_more : (v u : ℕ) (old new : List Bool) →
      v < length vertices → length old ≡ kinds * kinds → Marks vertices kinds v (Some u) old new →
      Marks vertices kinds v (parent_of vertices u) old
      (set new ((get_or vertices u no_vertex).kind * kinds + (get_or vertices v no_vertex).kind) true)
  marks_more v u old new lt whole marks =
      let upper = (get_or vertices u no_vertex).kind in
      let lower = (get_or vertices v no_vertex).kind in
      let below = marks.reach u refl in
      let before : u < v = reach_in v u lt below in
      let u_in : u < length vertices = omega arith in
      let p : upper < kinds = kind_low u u_in in
      let q : lower < kinds = kind_low v lt in
      let cell = upper * kinds + lower in
      let cell_in : cell < length new = omega (arith, mul-add-lt upper kinds lower kinds p q, marks.as_many) in
      let here : IsTrue (get_or (set new cell true) cell false) = get_or-set_same new cell true false cell_in in
      let keep : (i : ℕ) → IsTrue (get_or new i false) → IsTrue (get_or (set new cell true) i false) = λ i h.
      elim (cases_eq i cell) [
        | inl same ↦ subst (λ (j : ℕ). IsTrue (get_or (set new cell true) j false)) (sym same) here
        | inr differ ↦ get_or-set_other new cell i true false differ ∙ h
      ] in
      record {
        as_many = length-set new cell true ∙ marks.as_many;
        kept = λ i h. keep i (marks.kept i h);
        sound = λ a b a_in b_in h.
            elim (cases_eq (a * kinds + b) cell) [
              | inl same ↦ (
                  let parts = same_from_place a b upper lower kinds b_in q same in
                  inr (
                    u,
                    subst (λ (k : ℕ). HasKind vertices k u) (sym parts.0) (kind_here vertices u u_in),
                    subst (λ (k : ℕ). HasKind vertices k v) (sym parts.1) (kind_here vertices v lt),
                    below,
                  ))
              | inr differ ↦
                  marks.sound a b a_in b_in (sym (get_or-set_other new cell (a * kinds + b) true false differ) ∙ h)
            ];
        done = λ x h.
            elim (marks.done x h) [
              | inl ahead ↦ (
                  let is : u ≡ ahead.0 = (let e : Some u ≡ Some ahead.0 = ahead.1 in cc) in
                  let at : IsTrue (is_at_or_below vertices u x) =
                  subst (λ (w : ℕ). IsTrue (is_at_or_below vertices w x)) (sym is) ahead.2 in
                  elim (cases_eq u x) [
                    | inl same ↦ inr (λ a b has_a has_b.
                        let has_u : HasKind vertices a u = subst (λ (w : ℕ). HasKind vertices a w) (sym same) has_a in
                        let ea : a ≡ upper = kind_is vertices a u u_in has_u in
                        let eb : b ≡ lower = kind_is vertices b v lt has_b in
                        subst (λ (j : ℕ). IsTrue (get_or (set new cell true) j false))
                        (sym (ap (λ n. n * kinds + b) ea ∙ ap (λ n. upper * kinds + n) eb)) here)
                    | inr differ ↦ inl (parent_below vertices first u x u_in (below_from vertices first u x differ at))
                  ])
              | inr marked ↦ inr (λ a b has_a has_b. keep (a * kinds + b) (marked a b has_a has_b))
            ];
        reach = λ w e.
            let less : w < u = first u w e in
            let b = below_to vertices first v u below in
            below_from vertices first v w (λ same. omega arith)
            (below_trans vertices first v u w lt b.0 (below_parent vertices first u w u_in e));
      }

  pub marks_all : (v : ℕ) (above : Option ℕ) (old new : List Bool) →
      ((w : ℕ) → above ≡ Some w → ⊥) → Marks vertices kinds v above old new → AddsNested vertices kinds v old new
  marks_all v above old new past marks = record {
    as_many = marks.as_many;
    each = λ a b a_in b_in. (
      marks.sound a b a_in b_in,
      (λ h. elim h [
        | inl was ↦ marks.kept (a * kinds + b) was
        | inr lies ↦ (
            elim (marks.done lies.0 lies.3) [
              | inl ahead ↦ absurd (past ahead.0 ahead.1)
              | inr marked ↦ marked a b lies.1 lies.2
            ])
      ]),
    );
  }

-- a climb comes nearer to the root
pub climb_falls : (o o' : Option ℕ) (u : ℕ) →
    o ≡ Some u → ((p : ℕ) → o' ≡ Some p → p < u) → option_map_or (λ u. u + 1) o' 0 < option_map_or (λ u. u + 1) o 0
climb_falls o None u e f =
    let is : option_map_or (λ u. u + 1) o 0 ≡ u + 1 = ap (λ x. option_map_or (λ u. u + 1) x 0) e in omega arith
climb_falls o (Some p) u e f = let is : option_map_or (λ u. u + 1) o 0 ≡ u + 1 =
    ap (λ x. option_map_or (λ u. u + 1) x 0) e in let less : p < u = f p refl in omega arith
