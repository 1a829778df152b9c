-- How many vertices a chain has.
use Rattle.std.proofs.Common.{◌≡◌, ℕ, ◌+◌, ◌-◌, ◌≤◌, List, length, Option, Some, ◌∙◌, ap, arith}
use Rattle.flux_defs.specs.declared.vertices.Vertex.{Vertex}
use Rattle.flux_defs.specs.Graph.{parent_of, chain}
use Rattle.vertex_planners.proofs.ClaimSums.{chain_opens}

-- one vertex more of a chain
pub chain_counts : (vertices : List Vertex) (most u old mid new : ℕ) (from above : Option ℕ) →
    (most ≡ 0 → ⊥) → from ≡ Some u → above ≡ parent_of vertices u →
    mid ≤ old + 1 → new ≤ mid + length (chain vertices (most - 1) above) → new ≤ old + length (chain vertices most from)
chain_counts vertices most u old mid new from above some is up first rest =
    let opens = ap (λ (vs : List ℕ). length vs) (ap (chain vertices most) is ∙ chain_opens vertices most u some) in
    let same = ap (λ (o : Option ℕ). length (chain vertices (most - 1) o)) up in
    omega (arith, first, rest, opens, same)
