-- What is still to be made, with what comes next.
use Rattle.std.proofs.Common.{◌≡◌, ℕ, ◌+◌, ◌<◌, ◌≤◌, cond, List, length, Option, Some, None, IfSome, slice_get}
use Rattle.std.proofs.Common.{inl, inr, ap, arith}
use Rattle.std.proofs.lemmas.Bool.Decides.{eqb_tells}
use Rattle.flux_defs.specs.declared.vertices.Vertex.{Vertex}
use Rattle.flux_defs.specs.Graph.{chain}
use Rattle.list_laws.proofs.Lists.{get_some}
use Rattle.resource_graph.proofs.ChainLaws.{chain-None}
use Rattle.vertex_planners.specs.declared.measures.Rise.{Rise}
use Rattle.vertex_planners.specs.Chains.{sum_on}
use Rattle.vertex_planners.specs.Rises.{rise_at, weight_of}
use Rattle.vertex_planners.proofs.ClaimSums.{sum_on_add, sum_on_none}

pub weight_some : (r : Rise) → (r.more ≡ 0 → ⊥) → weight_of r ≡ 16
weight_some r some = elim (eqb_tells r.more 0) [
  | inl same ↦ absurd (some same.1)
  | inr differ ↦ ap {B = ℕ} (λ b. cond b 0 16) differ.0
]

pub weight_few : (r : Rise) → weight_of r ≤ 16
weight_few r = elim (eqb_tells r.more 0) [
  | inl same ↦ (let e = ap {B = ℕ} (λ b. cond b 0 16) same.0 in omega (arith, e))
  | inr differ ↦ (let e = ap {B = ℕ} (λ b. cond b 0 16) differ.0 in omega (arith, e))
]

-- nothing more is nothing at each vertex
pub rise_none : (vertices : List Vertex) (r : Rise) (v : ℕ) → r.more ≡ 0 → rise_at vertices r v ≡ 0
rise_none vertices r v e = sum_on_none v r.more (chain vertices (length vertices) r.from) e

-- two that begin at one vertex are one
pub rise_both : (vertices : List Vertex) (one other both : Rise) (v : ℕ) → one.from ≡ other.from →
    both.from ≡ other.from → both.more ≡ one.more + other.more →
    rise_at vertices both v ≡ rise_at vertices one v + rise_at vertices other v
rise_both vertices one other both v same from more =
    let of = λ (o : Option ℕ). chain vertices (length vertices) o in
    let first = ap (λ (o : Option ℕ). sum_on v one.more (of o)) same in
    let whole = ap (λ (o : Option ℕ). sum_on v both.more (of o)) from in
    let sum = ap (λ (m : ℕ). sum_on v m (of other.from)) more in
    let parts = sum_on_add v one.more other.more (of other.from) in
    omega (arith, first, whole, sum, parts)

-- a chain has at most 16 vertices
pub rise_few : (vertices : List Vertex) (from : Option ℕ) → ((v : ℕ) (x : Vertex) → slice_get vertices v ≡ Some x →
    length (chain vertices (length vertices) (Some v)) ≤ 16) → IfSome from (λ v. v < length vertices) →
    length (chain vertices (length vertices) from) ≤ 16
rise_few vertices None shallow inside =
    let none = ap (λ (us : List ℕ). length us) (chain-None vertices (length vertices)) in omega (arith, none)
rise_few vertices (Some v) shallow inside = let (x, at) = get_some vertices v inside in shallow v x at
