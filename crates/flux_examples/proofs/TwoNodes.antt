-- Facts of the example graph, by looking at each of its vertices.
use Rattle.std.proofs.Common.{◌≡◌, ℕ, zero, suc, ◌+◌, ◌<◌, ◌≤◌, true, false, ◌⊎◌, inl, inr, refl, sym, arith, IsTrue}
use Rattle.std.proofs.Common.{true≢false, lit<, lit≤}
use Rattle.flux_defs.specs.Graph.{HasKind, IsNode, is_at_or_below, is_below}
use Rattle.flux_examples.specs.Examples.{two_nodes}

pub each_vertex : (P : ℕ → Type 0) →
    P 0 → P 1 → P 2 → P 3 → P 4 → P 5 → P 6 → P 7 → P 8 → P 9 → P 10 → (v : ℕ) → v < 11 → P v
each_vertex P a b c d e f g h i j k zero lt = a
each_vertex P a b c d e f g h i j k (suc zero) lt = b
each_vertex P a b c d e f g h i j k (suc (suc zero)) lt = c
each_vertex P a b c d e f g h i j k (suc (suc (suc zero))) lt = d
each_vertex P a b c d e f g h i j k (suc (suc (suc (suc zero)))) lt = e
each_vertex P a b c d e f g h i j k (suc (suc (suc (suc (suc zero))))) lt = f
each_vertex P a b c d e f g h i j k (suc (suc (suc (suc (suc (suc zero)))))) lt = g
each_vertex P a b c d e f g h i j k (suc (suc (suc (suc (suc (suc (suc zero))))))) lt = h
each_vertex P a b c d e f g h i j k (suc (suc (suc (suc (suc (suc (suc (suc zero)))))))) lt = i
each_vertex P a b c d e f g h i j k (suc (suc (suc (suc (suc (suc (suc (suc (suc zero))))))))) lt = j
each_vertex P a b c d e f g h i j k (suc (suc (suc (suc (suc (suc (suc (suc (suc (suc zero)))))))))) lt = k
each_vertex P a b c d e f g h i j k (suc (suc (suc (suc (suc (suc (suc (suc (suc (suc (suc v))))))))))) lt =
    absurd (omega arith)

-- v is one of the four cores after the node
abbrev pub IsCoreOf : ℕ → ℕ → Type 0
IsCoreOf n v = (n < v) × (v ≤ n + 4)

abbrev no : {A : Type 0} → IsTrue false → A
no h = absurd (true≢false (sym h))

beneath_first : (v : ℕ) → v < 11 → IsTrue (is_below two_nodes v 1) → IsCoreOf 1 v
unfolding is_at_or_below
beneath_first =
    each_vertex (λ v. IsTrue (is_below two_nodes v 1) → IsCoreOf 1 v)
    (λ h. no h) (λ h. no h)
    (λ h. (lit< tt, lit≤ tt)) (λ h. (lit< tt, lit≤ tt)) (λ h. (lit< tt, lit≤ tt)) (λ h. (lit< tt, lit≤ tt))
    (λ h. no h) (λ h. no h) (λ h. no h) (λ h. no h) (λ h. no h)

beneath_second : (v : ℕ) → v < 11 → IsTrue (is_below two_nodes v 6) → IsCoreOf 6 v
unfolding is_at_or_below
beneath_second =
    each_vertex (λ v. IsTrue (is_below two_nodes v 6) → IsCoreOf 6 v)
    (λ h. no h) (λ h. no h) (λ h. no h) (λ h. no h) (λ h. no h) (λ h. no h) (λ h. no h)
    (λ h. (lit< tt, lit≤ tt)) (λ h. (lit< tt, lit≤ tt)) (λ h. (lit< tt, lit≤ tt)) (λ h. (lit< tt, lit≤ tt))

first_cores : (v : ℕ) → v < 11 → IsCoreOf 1 v → IsTrue (is_below two_nodes v 1) × HasKind two_nodes 2 v
unfolding is_at_or_below
first_cores =
    each_vertex (λ v. IsCoreOf 1 v → IsTrue (is_below two_nodes v 1) × HasKind two_nodes 2 v)
    (λ c. absurd (omega arith))
    (λ c. absurd (omega arith)) (λ c. (refl, refl)) (λ c. (refl, refl)) (λ c. (refl, refl)) (λ c. (refl, refl))
    (λ c. absurd (omega arith))
    (λ c. absurd (omega arith)) (λ c. absurd (omega arith)) (λ c. absurd (omega arith)) (λ c. absurd (omega arith))

second_cores : (v : ℕ) → v < 11 → IsCoreOf 6 v → IsTrue (is_below two_nodes v 6) × HasKind two_nodes 2 v
unfolding is_at_or_below
second_cores =
    each_vertex (λ v. IsCoreOf 6 v → IsTrue (is_below two_nodes v 6) × HasKind two_nodes 2 v)
    (λ c. absurd (omega arith)) (λ c. absurd (omega arith)) (λ c. absurd (omega arith))
    (λ c. absurd (omega arith)) (λ c. absurd (omega arith)) (λ c. absurd (omega arith)) (λ c. absurd (omega arith))
    (λ c. (refl, refl)) (λ c. (refl, refl)) (λ c. (refl, refl)) (λ c. (refl, refl))

-- a node whose four cores follow it
pub record HasFourCores (n : ℕ) : Type 0 where
  pub node : IsNode two_nodes n
  pub within : n < 11
  pub only : (v : ℕ) → v < 11 → IsTrue (is_below two_nodes v n) → IsCoreOf n v
  pub each : (v : ℕ) → v < 11 → IsCoreOf n v → IsTrue (is_below two_nodes v n) × HasKind two_nodes 2 v
  pub fits : n + 4 < 11

pub first_node : HasFourCores 1
first_node = record { node = refl; within = lit< tt; only = beneath_first; each = first_cores; fits = lit< tt }

pub second_node : HasFourCores 6
second_node = record { node = refl; within = lit< tt; only = beneath_second; each = second_cores; fits = lit< tt }

pub node_is : (v : ℕ) → v < 11 → IsNode two_nodes v → (v ≡ 1) ⊎ (v ≡ 6)
node_is =
    each_vertex (λ v. IsNode two_nodes v → (v ≡ 1) ⊎ (v ≡ 6))
    (λ h. no h) (λ h. inl refl)
    (λ h. no h) (λ h. no h) (λ h. no h) (λ h. no h) (λ h. inr refl) (λ h. no h) (λ h. no h) (λ h. no h) (λ h. no h)

-- core 0 of node 0 is below node 0, and node 0 is below the cluster
pub core_below_node : (is_at_or_below two_nodes 2 1 ≡ true) × (is_at_or_below two_nodes 1 2 ≡ false)
unfolding is_at_or_below
core_below_node = (refl, refl)

pub nodes_at : (is_at_or_below two_nodes 1 1 ≡ true) × (is_at_or_below two_nodes 1 0 ≡ true)
unfolding is_at_or_below
nodes_at = (refl, refl)
