-- The types of a graph, one after another in a table.
use Rattle.std.proofs.Common.{◌≡◌, ℕ, ◌+◌, ◌<◌, ◌≤◌, Bool, true, false, List, [], ◌∷◌, ◌++◌, length, take, get_or, Some}
use Rattle.std.proofs.Common.{None, is_some, slice_get, take_all, Contains, IsSome, Option, codes, if◌then◌else◌}
use Rattle.std.proofs.Common.{append-nil, append_assoc, refl, sym, ◌∙◌, ap, subst, arith, inl, inr}
use Rattle.std.specs.List.{list_any}
use Rattle.std.specs.Str.{bytes_eq}
use Rattle.std.proofs.lemmas.List.{take_more, length-take-le, get_or-take, length-append, get_or_append_left}
use Rattle.std.proofs.lemmas.Option.{slice_get_within, slice_get-get_or, slice_get_read, slice_get_cases}
use Rattle.std.proofs.lemmas.List.Sums.{position_or_len_is}
use Rattle.std.proofs.lemmas.Map.Views.{Contains-from_any}
use Rattle.std.proofs.lemmas.Slice.Eq.{bytes_eq-Decides}
use Rattle.std.specs.Option.{IsSomeAnd}
use Rattle.std.proofs.lemmas.Bool.{false_from_ne_true}
use Rattle.flux_defs.specs.declared.vertices.Vertex.{Vertex}
use Rattle.flux_defs.specs.Graph.{ResourceGraph, HasKind, IsNode}
use Rattle.flux_defs.specs.ValidGraph.{IsValidGraph}
use Rattle.text_table.specs.Tables.{with_text, with_texts, index_of}

-- no two of the texts are equal
abbrev pub AreApart : List (List ℕ) → Type 0
AreApart texts = (j k : ℕ) → IsSome (slice_get texts j) → slice_get texts j ≡ slice_get texts k → j ≡ k

absent : (texts : List (List ℕ)) (k : ℕ) (text : List ℕ) →
    AreApart texts → slice_get texts k ≡ Some text → Contains (take k texts) text → ⊥
absent texts k text apart at (i, less, same) =
    let within : k < length texts = slice_get_within texts k text at in
    let before : i < k = subst (λ (n : ℕ). i < n) (length-take-le k texts (omega (arith, within))) less in
    let there : slice_get texts i ≡ Some text = slice_get_read texts
    (length texts) i text refl (omega (arith, within, before)) (sym same ∙ get_or-take k texts i text before) in
    let equal : i ≡ k = apart i k (ap is_some there) (there ∙ sym at) in
    omega (arith, before, equal)

unless_there : (test : Bool) (texts : List (List ℕ)) (text : List ℕ) →
    (test ≡ true → ⊥) → (if test then texts else texts ++ text ∷ []) ≡ texts ++ text ∷ []
unless_there true texts text never = absurd (never refl)
unless_there false texts text never = refl

-- each text goes after those before it
pub next_text : (texts : List (List ℕ)) (k : ℕ) (text : List ℕ) →
    AreApart texts → slice_get texts k ≡ Some text → with_text (take k texts) text ≡ take (k + 1) texts
next_text texts k text apart at =
    let within : k < length texts = slice_get_within texts k text at in
    let same : get_or texts k text ≡ text =
    (let is : Some (get_or texts k text) ≡ Some text = sym (slice_get-get_or texts k text within) ∙ at in cc) in
    unless_there (list_any (bytes_eq text) (take k texts)) (take k texts) text
    (λ found. absent texts k text apart at
    (Contains-from_any (λ x y e. (bytes_eq-Decides x y).0 e) text (take k texts) found))
    ∙ sym (take_more texts k text within ∙ ap (λ t. take k texts ++ t ∷ []) same)

pub here : (texts : List (List ℕ)) (k : ℕ) (text : List ℕ) → slice_get texts k ≡ Some text → k + 1 ≤ length texts
here texts k text at = let within : k < length texts = slice_get_within texts k text at in omega (arith, within)

-- past the last one, all are there
pub last_text : (texts : List (List ℕ)) (k : ℕ) → slice_get texts k ≡ None → take k texts ≡ texts
last_text texts k none = elim (slice_get_cases texts k).1 [
  | inl (x, within, at, same) ↦ absurd (let some : Some x ≡ None = sym at ∙ none in cc)
  | inr (past, at) ↦ take_all k texts past
]

-- the texts of a table stay its first ones
first_ones : (texts more : List (List ℕ)) → (rest : List (List ℕ)) × (with_texts texts more ≡ texts ++ rest)
first_ones texts [] = ([], sym (append-nil texts))
first_ones texts (text ∷ more) =
    let added = with_one texts text in
    let later = first_ones (with_text texts text) more in
    (added.0 ++ later.0, later.1 ∙ (ap (λ ts. ts ++ later.0) added.1 ∙ append_assoc texts added.0 later.0))
  where
    with_one : (texts : List (List ℕ)) (text : List ℕ) → (rest : List (List ℕ)) × (with_text texts text ≡ texts ++ rest)
    with_one texts text = by (list_any (bytes_eq text) texts)
      where
        by : (b : Bool) → (rest : List (List ℕ)) × ((if b then texts else texts ++ text ∷ []) ≡ texts ++ rest)
        by true = ([], sym (append-nil texts))
        by false = (text ∷ [], refl)

-- the index of a text that is there stays its index
pub index_stays : (texts more : List (List ℕ)) (k : ℕ) (text : List ℕ) →
    AreApart texts → slice_get texts k ≡ Some text → index_of (with_texts texts more) text ≡ k
index_stays texts more k text apart at =
    let within : k < length texts = slice_get_within texts k text at in
    let same : get_or texts k text ≡ text =
    (let is : Some (get_or texts k text) ≡ Some text = sym (slice_get-get_or texts k text within) ∙ at in cc) in
    let later = first_ones texts more in
    let all = texts ++ later.0 in
    ap (λ ts. index_of ts text) later.1
    ∙ position_or_len_is (bytes_eq text) all k text (rw (length-append texts later.0) (omega (arith, within)))
    (λ j less. rw (get_or_append_left texts later.0 text j (omega (arith, less, within))) (differs j less within))
    (λ _. rw (get_or_append_left texts later.0 text k within, same) ((bytes_eq-Decides text text).1 refl))
  where
    differs : (j : ℕ) → j < k → k < length texts → bytes_eq text (get_or texts j text) ≡ false
    differs j less within = false_from_ne_true (bytes_eq text (get_or texts j text)) (λ equal.
        let same : text ≡ get_or texts j text = (bytes_eq-Decides text (get_or texts j text)).0 equal in
        let there : slice_get texts j ≡ Some text =
        slice_get_read texts (length texts) j text refl (omega (arith, less, within)) same in
        let one : j ≡ k = apart j k (ap is_some there) (there ∙ sym at) in
        omega (arith, less, one))

-- the nodes of a valid graph are the vertices of the type that is called so
pub nodes_kind : (g : ResourceGraph) (names more : List (List ℕ)) → IsValidGraph g names →
    (v : ℕ) → IsNode g.vertices v → HasKind g.vertices (index_of (with_texts g.kinds more) (codes "node")) v
nodes_kind g names more valid v node = by (slice_get g.vertices v) refl node
  where
    named : (x : Vertex) → slice_get g.vertices v ≡ Some x → slice_get g.kinds x.kind ≡ Some (codes "node")
    named x at = subst (λ (o : Option Vertex). IsSomeAnd o (λ y. slice_get g.kinds y.kind ≡ Some (codes "node"))) at
        ((valid.nodes v x at).0 node)

    by : (o : Option Vertex) → slice_get g.vertices v ≡ o → IsSomeAnd o (λ x. is_some x.rank ≡ true) →
        IsSomeAnd o (λ x. x.kind ≡ index_of (with_texts g.kinds more) (codes "node"))
    by None at h = absurd h
    by (Some x) at h = sym (index_stays g.kinds more x.kind (codes "node") valid.kinds.apart (named x at))
