-- Chains of parents: how long they are, and one step of them.
use Rattle.std.proofs.Common.{◌≡◌, ℕ, zero, suc, ◌+◌, ◌-◌, ◌<◌, ◌≤◌, List, [], ◌∷◌, ◌++◌, length, get_or, min, Option}
use Rattle.std.proofs.Common.{Some, None, inl, inr, refl, sym, ◌∙◌, ap, arith, option_and_then}
use Rattle.std.specs.Prelude.{slice_get}
use Rattle.std.proofs.lemmas.Bool.{cases_lt}
use Rattle.std.proofs.lemmas.Option.{slice_get_within, slice_get-get_or, get_or_from_slice_get}
use Rattle.std.proofs.lemmas.List.{append_assoc, append-nil, length_push, get_or_append_left, get_or_push}
use Rattle.flux_defs.specs.declared.vertices.Vertex.{Vertex}
use Rattle.flux_defs.specs.Graph.{parent_of, chain}
use Rattle.resource_graph.specs.Chains.{chain_of, AllBelow}

module _ (vertices : List Vertex) where
  pub chain-None : (most : ℕ) → chain vertices most None ≡ []
  chain-None zero = refl
  chain-None (suc most) = refl

  pub chain_short : (most : ℕ) (o : Option ℕ) → length (chain vertices most o) ≤ most
  chain_short zero o = omega arith
  chain_short (suc most) None = omega arith
  chain_short (suc most) (Some v) = let rest : length (chain vertices most (parent_of vertices v)) ≤ most =
      chain_short most (parent_of vertices v) in omega arith

  -- two limits that a chain doesn't come to give one chain
  pub chains_agree : (a b : ℕ) (o : Option ℕ) →
      length (chain vertices a o) ≤ b → length (chain vertices b o) ≤ a → chain vertices a o ≡ chain vertices b o
  chains_agree zero zero o p q = refl
  chains_agree zero (suc b) None p q = refl
  chains_agree zero (suc b) (Some v) p q = absurd (omega arith)
  chains_agree (suc a) zero None p q = refl
  chains_agree (suc a) zero (Some v) p q = absurd (omega arith)
  chains_agree (suc a) (suc b) None p q = refl
  chains_agree (suc a) (suc b) (Some v) p q =
      ap (λ l. v ∷ l) (chains_agree a b (parent_of vertices v) (omega arith) (omega arith))

  -- a climb of at most so many steps sees the whole chain
  pub chain_min : (most v : ℕ) →
      length (chain_of vertices v) ≤ most → chain vertices (min (length vertices) most) (Some v) ≡ chain_of vertices v
  chain_min most v short =
      let a : length (chain_of vertices v) ≤ length vertices = chain_short (length vertices) (Some v) in
      let b : length (chain vertices (min (length vertices) most) (Some v)) ≤ min (length vertices) most =
      chain_short (min (length vertices) most) (Some v) in
      sym (chains_agree (length vertices) (min (length vertices) most) (Some v) (omega arith) (omega arith))

  -- one step more of a climb
  pub chain_more : (most done v : ℕ) (found : List ℕ) → done < most → (found ++ chain vertices (most - done) (Some v))
      ≡ ((found ++ v ∷ []) ++ chain vertices (most - (done + 1)) (parent_of vertices v))
  chain_more most done v found lt =
      let e : most - done ≡ suc (most - (done + 1)) = omega arith in
      ap (λ n. found ++ chain vertices n (Some v)) e
      ∙ sym (append_assoc found (v ∷ []) (chain vertices (most - (done + 1)) (parent_of vertices v)))

  -- a climb that came past the root, or took all its steps, is whole
  pub chain_ended : (found : List ℕ) → (found ++ chain vertices 0 None) ≡ found
  chain_ended found = append-nil found

-- a vertex that was read has the parent that was read
pub parent_read : (vertices : List Vertex) (v : ℕ) (x : Vertex) →
    slice_get vertices v ≡ Some x → parent_of vertices v ≡ x.parent
parent_read vertices v x e = ap (option_and_then (λ y. y.parent)) e

-- what a read past the list's end stands for
abbrev pub no_vertex : Vertex
no_vertex = record { kind = 0; size = 0; parent = None; id = None; rank = None }

-- the parent of a vertex within the list, however its index is read
pub parent_at : (vertices : List Vertex) (v : ℕ) (d : Vertex) →
    v < length vertices → (get_or vertices v d).parent ≡ parent_of vertices v
parent_at vertices v d lt = sym (parent_read vertices v (get_or vertices v d) (slice_get-get_or vertices v d lt))

pub climb_step : (vertices : List Vertex) (most done done' v : ℕ) (found found' whole : List ℕ) (o o' : Option ℕ) →
    done < most → o ≡ Some v → o' ≡ parent_of vertices v →
    found' ≡ found ++ v ∷ [] → done' ≡ done + 1 →
    (found ++ chain vertices (most - done) o) ≡ whole → (found' ++ chain vertices (most - done') o') ≡ whole
climb_step vertices most done done' v found found' whole o o' lt at up_one pushed one climbed =
    let a : (found' ++ chain vertices (most - done') o')
    ≡ ((found ++ v ∷ []) ++ chain vertices (most - (done + 1)) (parent_of vertices v)) = cc in
    a ∙ (sym (chain_more vertices most done v found lt)
    ∙ (ap (λ p. found ++ chain vertices (most - done) p) (sym at) ∙ climbed))

pub AllBelow-push : (most v : ℕ) (found : List ℕ) → v < most → AllBelow most found → AllBelow most (found ++ v ∷ [])
AllBelow-push most v found lt below i w e =
    let within : i < length (found ++ v ∷ []) = slice_get_within (found ++ v ∷ []) i w e in
    let long : length (found ++ v ∷ []) ≡ length found + 1 = length_push found v in
    let at : get_or (found ++ v ∷ []) i 0 ≡ w = get_or_from_slice_get (found ++ v ∷ []) i w 0 e in
    elim (cases_lt i (length found)) [
      | inl before ↦ below i w
          (slice_get-get_or found i 0 before ∙ ap Some (sym (get_or_append_left found (v ∷ []) 0 i before) ∙ at))
      | inr last ↦ (let here : get_or (found ++ v ∷ []) i 0 ≡ v = get_or_push found v 0 i (omega arith) in omega arith)
    ]

-- a climb that took all its steps is whole
pub climb_all : (vertices : List Vertex) (most done : ℕ) (found whole : List ℕ) (o : Option ℕ) →
    most ≤ done → (found ++ chain vertices (most - done) o) ≡ whole → found ≡ whole
climb_all vertices most done found whole o le climbed =
    let none : most - done ≡ 0 = omega arith in
    sym (append-nil found) ∙ (ap (λ n. found ++ chain vertices n o) (sym none) ∙ climbed)

-- and so is one that came past the root
pub climb_past : (vertices : List Vertex) (most : ℕ) (found whole : List ℕ) (o : Option ℕ) →
    ((v : ℕ) → o ≡ Some v → ⊥) → (found ++ chain vertices most o) ≡ whole → found ≡ whole
climb_past vertices most found whole None not_some climbed =
    sym (append-nil found) ∙ (ap (λ l. found ++ l) (sym (chain-None vertices most)) ∙ climbed)
climb_past vertices most found whole (Some v) not_some climbed = absurd (not_some v refl)

-- where no parent was read there is none
pub parent_at_none : (vertices : List Vertex) (v : ℕ) →
    v < length vertices → ((p : ℕ) → (get_or vertices v no_vertex).parent ≡ Some p → ⊥) → parent_of vertices v ≡ None
parent_at_none vertices v lt not_some = at (get_or vertices v no_vertex).parent refl
  where
    at : (o : Option ℕ) → (get_or vertices v no_vertex).parent ≡ o → parent_of vertices v ≡ None
    at None e = sym (parent_at vertices v no_vertex lt) ∙ e
    at (Some p) e = absurd (not_some p e)
