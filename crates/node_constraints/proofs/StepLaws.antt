-- A list of nodes narrowed step by step.
use Rattle.std.proofs.Common.{◌≡◌, refl, sym, ◌∙◌, ap, ℕ, ◌==◌, true, false, not, Bool, ◌&&◌, ◌||◌, List, [], ◌∷◌, Some}
use Rattle.std.proofs.Common.{suc, length, arith, eqb-true, Bor, Global}
use Rattle.std.proofs.lemmas.List.Elements.{filter_agree}
use Rattle.json.specs.declared.value.Value.{Value}
use Rattle.json_whole.specs.Values.{items_view}
use Rattle.serde_json.specs.Data.{Data, null, boolean, number, string, array, object, Members, depth, members_depth}
use Rattle.serde_json.specs.Find.{as_object}
use Rattle.resource_graph.specs.NamedGraph.{NamedGraph}
use Rattle.node_constraints.specs.Truth.{NodeFacts, facts_of, is_empty, some_true}
use Rattle.node_constraints.specs.Narrowing.{where_true}
use Rattle.node_constraints.proofs.FilterLaws.{filter_all, filter_twice, not_either}

-- ---- values

-- a key and its value, in a map of what an object has
abbrev pub Entry : Type 0
Entry = Bor (List ℕ) × Bor (Value Global)

pub is_object : (d : Data) (ms : Members) → as_object d ≡ Some ms → d ≡ object ms
is_object null ms is = absurd (cc)
is_object (boolean b) ms is = absurd (cc)
is_object (number x) ms is = absurd (cc)
is_object (string s) ms is = absurd (cc)
is_object (array ds) ms is = absurd (cc)
is_object (object os) ms is = let same : os ≡ ms = cc in ap object same

-- an object goes one level deeper than its members
pub object_depth : (d : Data) (ms : Members) → as_object d ≡ Some ms → depth d ≡ suc (members_depth ms)
object_depth d ms is = ap depth (is_object d ms is)

-- ---- narrowing

module _ (g : NamedGraph) where
  -- by one thing and then by another
  pub narrowed_twice : (first later : NodeFacts → Bool) (nodes : List ℕ) →
      where_true g later (where_true g first nodes) ≡ where_true g (λ n. first n && later n) nodes
  narrowed_twice first later nodes = filter_twice (λ v. first (facts_of g v)) (λ v. later (facts_of g v)) nodes

  -- by what is false of one thing and then of another
  pub neither_left : (first later : NodeFacts → Bool) (nodes : List ℕ) → where_true g (λ n. not (later n))
      (where_true g (λ n. not (first n)) nodes) ≡ where_true g (λ n. not (first n || later n)) nodes
  neither_left first later nodes =
      filter_twice (λ v. not (first (facts_of g v))) (λ v. not (later (facts_of g v))) nodes
      ∙ filter_agree (λ v. not (first (facts_of g v)) && not (later (facts_of g v)))
      (λ v. not (first (facts_of g v) || later (facts_of g v)))
      (λ v. not_either (first (facts_of g v)) (later (facts_of g v))) nodes

  -- of a list of constraints that is empty
  pub none_given : (vs : List (Value Global)) → (length vs == 0) ≡ true →
      (nodes : List ℕ) → nodes ≡ where_true g (λ n. is_empty (items_view vs) || some_true n (items_view vs)) nodes
  none_given [] empty nodes = sym (filter_all nodes)
  none_given (v ∷ vs) empty nodes = absurd (omega (arith, eqb-true (length (v ∷ vs)) 0 empty))

  -- and of one that isn't
  pub some_given : (vs : List (Value Global)) →
      (length vs == 0) ≡ false → (nodes : List ℕ) → where_true g (λ n. some_true n (items_view vs)) nodes
      ≡ where_true g (λ n. is_empty (items_view vs) || some_true n (items_view vs)) nodes
  some_given [] some nodes = absurd (cc)
  some_given (v ∷ vs) some nodes = refl
