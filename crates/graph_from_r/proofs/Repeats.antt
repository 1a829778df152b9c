-- Which names are repeated.
use Rattle.std.proofs.Common.{◌≡◌, ℕ, zero, suc, ◌+◌, ◌<◌, Bool, true, false, List, [], ◌∷◌, ◌++◌, length, map, take}
use Rattle.std.proofs.Common.{get_or}
use Rattle.std.proofs.Common.{Some, None, refl, sym, ◌∙◌, ap, subst, arith, inl, inr, bytes_eq, true≢false, cond, ◌||◌}
use Rattle.std.specs.Prelude.{slice_get, position, not}
use Rattle.std.specs.Option.{option_map}
use Rattle.std.specs.List.{list_any}
use Rattle.std.proofs.lemmas.Bool.{cases_Bool}
use Rattle.std.proofs.lemmas.List.{map-append}
use Rattle.std.proofs.lemmas.List.Quantifiers.{position-Some}
use Rattle.std.proofs.lemmas.Option.{slice_get-map, slice_get_within, same_Some, none-some, slice_get-get_or}
use Rattle.std.proofs.lemmas.Slice.Eq.{bytes_eq-Decides}
use Rattle.text_table.specs.Tables.{index_of, with_text}
use Rattle.text_table.proofs.Texts.{next_index}
use Rattle.list_laws.proofs.Lists.{take_next}
use Rattle.graph_from_r.specs.declared.nodes.RNode.{RNode}
use Rattle.graph_from_r.specs.Names.{HasEarlierName}
use Rattle.graph_from_r.proofs.Spots.{get_mapped}

-- the names of nodes
abbrev pub called : List RNode → List (List ℕ)
called nodes = map (λ n. n.name) nodes

pub called_at : (nodes : List RNode) (k : ℕ) (node : RNode) → slice_get nodes k ≡ Some node →
    slice_get (called nodes) k ≡ Some node.name
called_at nodes k node there = slice_get-map (λ (n : RNode). n.name) nodes k
    ∙ ap (option_map (λ (n : RNode). n.name)) there

-- an item of a front is that of the list
front_at : {X : Type 0} (k i : ℕ) (xs : List X) (x : X) → slice_get (take k xs) i ≡ Some x →
    (i < k) × (slice_get xs i ≡ Some x)
front_at zero i xs x e = absurd (none-some x e)
front_at (suc k) i [] x e = absurd (none-some x e)
front_at (suc k) zero (y ∷ xs) x e = (omega arith, e)
front_at (suc k) (suc i) (y ∷ xs) x e = let rest = front_at k i xs x e in let lt = rest.0 in (omega arith, rest.1)

front_of : {X : Type 0} (k i : ℕ) (xs : List X) (x : X) → i < k → slice_get xs i ≡ Some x →
    slice_get (take k xs) i ≡ Some x
front_of zero i xs x lt e = absurd (omega arith)
front_of (suc k) i [] x lt e = absurd (none-some x e)
front_of (suc k) zero (y ∷ xs) x lt e = e
front_of (suc k) (suc i) (y ∷ xs) x lt e = front_of k i xs x (omega arith) e

-- a text that is there is found
any_at : (texts : List (List ℕ)) (i : ℕ) (text : List ℕ) → slice_get texts i ≡ Some text →
    list_any (bytes_eq text) texts ≡ true
any_at [] i text e = absurd (none-some text e)
any_at (x ∷ xs) zero text e =
    ap (λ b. b || list_any (bytes_eq text) xs) ((bytes_eq-Decides text x).1 (sym (same_Some x text e)))
any_at (x ∷ xs) (suc i) text e = by (bytes_eq text x) (any_at xs i text e)
  where
    by : (b : Bool) → list_any (bytes_eq text) xs ≡ true → (b || list_any (bytes_eq text) xs) ≡ true
    by true rest = refl
    by false rest = rest

index_within : (text : List ℕ) (texts : List (List ℕ)) → list_any (bytes_eq text) texts ≡ true →
    index_of texts text < length texts
index_within text [] any = absurd (true≢false (sym any))
index_within text (x ∷ xs) any = by (bytes_eq text x) any (index_within text xs)
  where
    by : (b : Bool) → (b || list_any (bytes_eq text) xs) ≡ true →
        (list_any (bytes_eq text) xs ≡ true → index_of xs text < length xs) →
        cond (not b) (1 + index_of xs text) 0 < suc (length xs)
    by true any rest = omega arith
    by false any rest = let less = rest any in omega arith

-- a text without a number isn't there
pub not_there : (text : List ℕ) (texts : List (List ℕ)) → position (bytes_eq text) texts ≡ None →
    list_any (bytes_eq text) texts ≡ false
not_there text texts none = elim (cases_Bool (list_any (bytes_eq text) texts)) [
  | inl any ↦ absurd (let less = index_within text texts any in let last = next_index texts text none in omega arith)
  | inr lacks ↦ lacks
]

-- a text with a number is an earlier node's name
pub repeated_at : (nodes : List RNode) (k i : ℕ) (node : RNode) (seen : List (List ℕ)) →
    slice_get nodes k ≡ Some node → seen ≡ called (take k nodes) → position (bytes_eq node.name) seen ≡ Some i →
    HasEarlierName nodes k
repeated_at nodes k i node seen there is found =
    let at = position-Some (bytes_eq node.name) seen i [] found in
    let same : node.name ≡ get_or seen i [] = (bytes_eq-Decides node.name (get_or seen i [])).0 at.1 in
    let own : slice_get seen i ≡ Some node.name = slice_get-get_or seen i [] at.0 ∙ ap Some (sym same) in
    let mapped = get_mapped (λ (n : RNode). n.name) (take k nodes) i node.name
    (subst (λ (ts : List (List ℕ)). slice_get ts i ≡ Some node.name) is own) in
    let front = front_at k i nodes mapped.0 mapped.1 in
    record {
      earlier = i;
      before = front.0;
      name = node.name;
      here = called_at nodes k node there;
      there = called_at nodes i mapped.0 front.1 ∙ ap Some (sym mapped.2);
    }

-- and one without is none's
pub not_repeated : (nodes : List RNode) (k : ℕ) (node : RNode) (seen : List (List ℕ)) →
    slice_get nodes k ≡ Some node → seen ≡ called (take k nodes) → position (bytes_eq node.name) seen ≡ None →
    HasEarlierName nodes k → ⊥
not_repeated nodes k node seen there is none has =
    let same : node.name ≡ has.name = same_Some node.name has.name (sym (called_at nodes k node there) ∙ has.here) in
    let mapped = get_mapped (λ (n : RNode). n.name) nodes has.earlier has.name has.there in
    let front = front_of k has.earlier nodes mapped.0 has.before mapped.1 in
    let own : slice_get seen has.earlier ≡ Some node.name =
    subst (λ (ts : List (List ℕ)). slice_get ts has.earlier ≡ Some node.name) (sym is)
    (called_at (take k nodes) has.earlier mapped.0 front ∙ ap Some (sym mapped.2 ∙ sym same)) in
    true≢false (sym (any_at seen has.earlier node.name own) ∙ not_there node.name seen none)

-- the names with one more
pub seen_more : (nodes : List RNode) (k : ℕ) (node : RNode) (seen : List (List ℕ)) → slice_get nodes k ≡ Some node →
    seen ≡ called (take k nodes) → position (bytes_eq node.name) seen ≡ None →
    with_text seen node.name ≡ called (take (k + 1) nodes)
seen_more nodes k node seen there is none =
    ap (λ b. cond b seen (seen ++ node.name ∷ [])) (not_there node.name seen none)
    ∙ (ap (λ (ts : List (List ℕ)). ts ++ node.name ∷ []) is
    ∙ (sym (map-append (λ (n : RNode). n.name) (take k nodes) (node ∷ []))
    ∙ ap called (sym (take_next nodes k node there))))

-- past the last node there is no name
pub past_none : (nodes : List RNode) (k : ℕ) → HasEarlierName nodes k → k < length nodes
past_none nodes k has =
    let mapped = get_mapped (λ (n : RNode). n.name) nodes k has.name has.here in
    slice_get_within nodes k mapped.0 mapped.1
