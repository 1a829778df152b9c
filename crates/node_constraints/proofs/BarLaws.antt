-- The nodes that a constraint bars are nodes, in rising order.
use Rattle.std.proofs.Common.{◌≡◌, refl, sym, ◌∙◌, ap, ℕ, zero, suc, ◌+◌, ◌≤◌, Bool, true, false, not, cond, List}
use Rattle.std.proofs.Common.{[], ◌∷◌, ◌++◌, Option, Some, None, arith, add-zero, add-one, zero-add, append-nil}
use Rattle.std.specs.Prelude.{is_some, option_and_then, slice_get}
use Rattle.std.specs.List.{filter, range_with_len, AllByRecursion}
use Rattle.flux_defs.specs.declared.vertices.Vertex.{Vertex}
use Rattle.flux_defs.specs.Graph.{IsNode}
use Rattle.flux_defs.specs.Needs.{AreRisingFrom}
use Rattle.std.specs.Option.{IsSomeAnd}
use Rattle.std.specs.Cmp.{first_so}
use Rattle.serde_json.specs.Data.{Data}
use Rattle.resource_graph.specs.NamedGraph.{NamedGraph}
use Rattle.node_constraints.specs.Truth.{facts_of, is_true}
use Rattle.node_constraints.specs.Bars.{is_barred}

pub rising : (p : ℕ → Bool) (n low from : ℕ) → low ≤ from → AreRisingFrom low (filter p (range_with_len from n))
rising p zero low from least = tt
rising p (suc n) low from least =
    go (p from) (rising p n (suc from) (from + 1) (omega arith)) (rising p n low (from + 1) (omega (arith, least)))
  where
    go : (b : Bool) → AreRisingFrom (suc from) (filter p (range_with_len (from + 1) n)) →
        AreRisingFrom low (filter p (range_with_len (from + 1) n)) → AreRisingFrom low
        (cond b (from ∷ filter p (range_with_len (from + 1) n)) (filter p (range_with_len (from + 1) n)))
    go true above later = (least, above)
    go false above later = later

pub each_passes : {X : Type 0} (P : X → Type 0) (p : X → Bool) →
    ((x : X) → p x ≡ true → P x) → (xs : List X) → AllByRecursion P (filter p xs)
each_passes P p says [] = tt
each_passes P p says (x ∷ xs) = go (p x) refl (each_passes P p says xs)
  where
    go : (b : Bool) → p x ≡ b →
        AllByRecursion P (filter p xs) → AllByRecursion P (cond b (x ∷ filter p xs) (filter p xs))
    go true is others = (says x is, others)
    go false is others = others

-- what has a rank is a node
is_node : (vertices : List Vertex) (v : ℕ) →
    is_some (option_and_then (λ (x : Vertex). x.rank) (slice_get vertices v)) ≡ true → IsNode vertices v
is_node vertices v ranked = go (slice_get vertices v) ranked
  where
    go : (found : Option Vertex) →
        is_some (option_and_then (λ (x : Vertex). x.rank) found) ≡ true → IsSomeAnd found (λ x. is_some x.rank ≡ true)
    go None is = absurd (cc)
    go (Some x) is = is

pub is_barred_node : (g : NamedGraph) (d : Data) (v : ℕ) → is_barred g d v ≡ true → IsNode g.resources.vertices v
is_barred_node g d v is =
    is_node g.resources.vertices v (first_so (is_some (facts_of g v).rank) (not (is_true (facts_of g v) d)) is)

-- ---- one vertex more

more : (p : ℕ → Bool) (n from : ℕ) → filter p (range_with_len from (suc n))
    ≡ filter p (range_with_len from n) ++ cond (p (from + n)) ((from + n) ∷ []) []
more p zero from = ap (λ v. cond (p v) (v ∷ []) []) (sym (add-zero from))
more p (suc n) from = ap (λ ys. cond (p from) (from ∷ ys) ys) (more p n (from + 1)
    ∙ ap (λ v. filter p (range_with_len (from + 1) n) ++ cond (p v) (v ∷ []) []) next) ∙ around (p from)
  where
    next : from + 1 + n ≡ from + suc n
    next = omega arith

    around : (b : Bool) →
        cond b (from ∷ (filter p (range_with_len (from + 1) n) ++ cond (p (from + suc n)) ((from + suc n) ∷ []) []))
        (filter p (range_with_len (from + 1) n) ++ cond (p (from + suc n)) ((from + suc n) ∷ []) [])
        ≡ cond b (from ∷ filter p (range_with_len (from + 1) n)) (filter p (range_with_len (from + 1) n))
        ++ cond (p (from + suc n)) ((from + suc n) ∷ []) []
    around true = refl
    around false = refl

more_here : (p : ℕ → Bool) (n : ℕ) →
    filter p (range_with_len 0 (n + 1)) ≡ filter p (range_with_len 0 n) ++ cond (p n) (n ∷ []) []
more_here p n = ap (λ k. filter p (range_with_len 0 k)) (add-one n)
    ∙ (more p n 0 ∙ ap (λ v. filter p (range_with_len 0 n) ++ cond (p v) (v ∷ []) []) (zero-add n))

pub one_more_in : (p : ℕ → Bool) (n : ℕ) →
    p n ≡ true → filter p (range_with_len 0 (n + 1)) ≡ filter p (range_with_len 0 n) ++ n ∷ []
one_more_in p n passes = more_here p n ∙ ap (λ b. filter p (range_with_len 0 n) ++ cond b (n ∷ []) []) passes

pub one_more_out : (p : ℕ → Bool) (n : ℕ) →
    p n ≡ false → filter p (range_with_len 0 (n + 1)) ≡ filter p (range_with_len 0 n)
one_more_out p n fails = more_here p n
    ∙ (ap (λ b. filter p (range_with_len 0 n) ++ cond b (n ∷ []) []) fails ∙ append-nil (filter p (range_with_len 0 n)))
