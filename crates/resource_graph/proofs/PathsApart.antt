-- Where no name has a slash, the paths of different vertices differ.
use Rattle.std.proofs.Common.{◌≡◌, ◌≢◌, ℕ, zero, suc, ◌+◌, ◌<◌, List, [], ◌∷◌, ◌++◌, length, get_or}
use Rattle.std.proofs.Common.{Option, Some, None, refl, sym, ◌∙◌, ap, arith, IsSome}
use Rattle.std.specs.Prelude.{slice_get, unwrap_or}
use Rattle.std.proofs.lemmas.List.{length-append}
use Rattle.std.proofs.lemmas.Option.{slice_get-get_or}
use Rattle.list_laws.proofs.Lists.{heads, tails}
use Rattle.flux_defs.specs.Graph.{ResourceGraph, parent_of}
use Rattle.flux_defs.specs.ValidGraph.{IsValidGraph}
use Rattle.graph_laws.proofs.Containment.{ParentsFirst}
use Rattle.graph_laws.proofs.Preorder.{parents_first}
use Rattle.resource_graph.specs.NamedGraph.{name_step}
use Rattle.resource_graph.specs.Paths.{path_in, AreSlashless}
use Rattle.resource_graph.proofs.PathLaws.{path_root, path_below, path_ends}

-- no byte is a slash
abbrev pub IsSlashless : List ℕ → Type 0
IsSlashless name = (i : ℕ) → slice_get name i ≢ Some 47

slash_at : (s b : List ℕ) → slice_get (s ++ 47 ∷ b) (length s) ≡ Some 47
slash_at [] b = refl
slash_at (x ∷ s) b = slash_at s b

-- a text is parted at its last slash in one way
parted : (r s a b : List ℕ) → IsSlashless a → IsSlashless b → (r ++ 47 ∷ a) ≡ (s ++ 47 ∷ b) → (r ≡ s) × (a ≡ b)
parted [] [] a b clear_a clear_b e = (refl, tails 47 47 a b e)
parted [] (y ∷ s) a b clear_a clear_b e =
    let rest : a ≡ s ++ 47 ∷ b = tails 47 y a (s ++ 47 ∷ b) e in
    absurd (clear_a (length s) (ap (λ l. slice_get l (length s)) rest ∙ slash_at s b))
parted (x ∷ r) [] a b clear_a clear_b e =
    let rest : (r ++ 47 ∷ a) ≡ b = tails x 47 (r ++ 47 ∷ a) b e in
    absurd (clear_b (length r) (ap (λ l. slice_get l (length r)) (sym rest) ∙ slash_at r a))
parted (x ∷ r) (y ∷ s) a b clear_a clear_b e =
    let first : x ≡ y = heads x y (r ++ 47 ∷ a) (s ++ 47 ∷ b) e in
    let rest : (r ≡ s) × (a ≡ b) =
    parted r s a b clear_a clear_b (tails x y (r ++ 47 ∷ a) (s ++ 47 ∷ b) e) in
    (cc (first, rest.0), rest.1)

module _ (g : ResourceGraph) (names : List (List ℕ)) (valid : IsValidGraph g names) (clear : AreSlashless names) where
  abbrev name_of : ℕ → List ℕ
  name_of v = unwrap_or (slice_get names v) []

  named : (v : ℕ) → v < length g.vertices → slice_get names v ≡ Some (get_or names v [])
  named v lt = let many : length names ≡ length g.vertices = valid.named in
      slice_get-get_or names v [] (omega arith)

  clear_name : (v : ℕ) → v < length g.vertices → IsSlashless (name_of v)
  clear_name v lt i =
      let is : name_of v ≡ get_or names v [] = ap (λ o. unwrap_or o []) (named v lt) in
      λ e. clear v i (get_or names v []) (named v lt) (ap (λ l. slice_get l i) (sym is) ∙ e)

  same_name : (v u : ℕ) → v < length g.vertices → u < length g.vertices → name_of v ≡ name_of u →
      slice_get names v ≡ slice_get names u
  same_name v u lt lt' e =
      let a : name_of v ≡ get_or names v [] = ap (λ o. unwrap_or o []) (named v lt) in
      let b : name_of u ≡ get_or names u [] = ap (λ o. unwrap_or o []) (named u lt') in
      named v lt ∙ (ap Some (sym a ∙ (e ∙ b)) ∙ sym (named u lt'))

  first : ParentsFirst g.vertices
  first = parents_first g valid.preorder

  -- the first vertex alone has no parent
  root_first : (v : ℕ) → v < length g.vertices → parent_of g.vertices v ≡ None → v ≡ 0
  root_first zero lt none = refl
  root_first (suc v) lt none =
      let next = valid.preorder.next v lt in
      let e : None ≡ Some next.0 = sym none ∙ next.1 in cc

  some_parent : (v p : ℕ) → parent_of g.vertices v ≡ Some p → IsSome (parent_of g.vertices v)
  some_parent v p e = rw e refl

  -- a root's path is no other vertex's
  root_apart : (v u q : ℕ) → v < length g.vertices → u < length g.vertices → parent_of g.vertices v ≡ None →
      parent_of g.vertices u ≡ Some q → path_in g.vertices names v ≢ path_in g.vertices names u
  root_apart v u q lt lt' root parent e =
      let both : ([] ++ 47 ∷ name_of v) ≡ (path_in g.vertices names q ++ 47 ∷ name_of u) =
      sym (path_root g.vertices first names v lt root) ∙ (e ∙ path_below g.vertices first names u q lt' parent) in
      let none : [] ≡ path_in g.vertices names q = (parted [] (path_in g.vertices names q) (name_of v) (name_of u)
      (clear_name v lt) (clear_name u lt') both).0 in
      let less : q < u = first u q parent in
      let end = path_ends g.vertices first names q (omega arith) in
      let long : length (path_in g.vertices names q) ≡ length end.0 + length (name_step names q) =
      ap length end.1 ∙ length-append end.0 (name_step names q) in
      let empty : 0 ≡ length (path_in g.vertices names q) = ap length none in
      omega arith

  apart_to : (most v u : ℕ) → v < most → v < length g.vertices → u < length g.vertices →
      path_in g.vertices names v ≡ path_in g.vertices names u → v ≡ u
  apart_to zero v u few lt lt' e = absurd (omega arith)
  apart_to (suc most) v u few lt lt' e =
      by_parents (apart_to most) (parent_of g.vertices v) (parent_of g.vertices u) refl refl
    where
      by_parents : ((p q : ℕ) → p < most → p < length g.vertices → q < length g.vertices →
          path_in g.vertices names p ≡ path_in g.vertices names q → p ≡ q) →
          (a b : Option ℕ) → parent_of g.vertices v ≡ a → parent_of g.vertices u ≡ b → v ≡ u
      by_parents rec None None ev eu = root_first v lt ev ∙ sym (root_first u lt' eu)
      by_parents rec None (Some q) ev eu = absurd (root_apart v u q lt lt' ev eu e)
      by_parents rec (Some p) None ev eu = absurd (root_apart u v p lt' lt eu ev (sym e))
      by_parents rec (Some p) (Some q) ev eu =
          let both = parted (path_in g.vertices names p) (path_in g.vertices names q) (name_of v) (name_of u)
          (clear_name v lt) (clear_name u lt') (sym (path_below g.vertices first names v p lt ev)
          ∙ (e ∙ path_below g.vertices first names u q lt' eu)) in
          let less_p : p < v = first v p ev in
          let less_q : q < u = first u q eu in
          let same : p ≡ q = rec p q (omega arith) (omega arith) (omega arith) both.0 in
          valid.siblings v u (some_parent v p ev) (ev ∙ (ap Some same ∙ sym eu))
          (same_name v u lt lt' both.1)

  pub paths_apart : (v u : ℕ) → v < length g.vertices → u < length g.vertices →
      path_in g.vertices names v ≡ path_in g.vertices names u → v ≡ u
  paths_apart v u = apart_to (suc v) v u (omega arith)
