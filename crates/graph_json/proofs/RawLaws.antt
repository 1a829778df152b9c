-- The types and the parents of raw vertices.
use Rattle.std.proofs.Common.{◌≡◌, refl, sym, ap, ◌∙◌, ℕ, ◌+◌, ◌<◌, ◌≤◌, List, [], ◌∷◌, ◌++◌, length, map, get_or, Bool}
use Rattle.std.proofs.Common.{true, false, true≢false, if◌then◌else◌, Some, None, Option, IsSome, option_map}
use Rattle.std.proofs.Common.{option_and_then, slice_get, ◌⊎◌, inl, inr, arith}
use Rattle.std.proofs.lemmas.Bool.{cases_lt}
use Rattle.std.proofs.lemmas.List.{length-map, length-append}
use Rattle.std.proofs.lemmas.Map.Keys.{IsDistinct-push, apart_from_distinct}
use Rattle.std.proofs.lemmas.Option.{slice_get_within, slice_get-map, get_or_from_slice_get}
use Rattle.std.specs.Cmp.Lexicographic.{nat_list_eq_equiv}
use Rattle.std.specs.List.{IsDistinct, find, fold}
use Rattle.std.specs.Str.{bytes_eq}
use Rattle.graph_build.specs.Raw.{KindsApart}
use Rattle.graph_json.specs.Nodes.{FileNode}
use Rattle.text_table.specs.Tables.{number_of}
use Rattle.graph_json.specs.Edges.{FileEdge, is_among, parent_of, parents_of}
use Rattle.graph_json.specs.Ids.{ids_of}
use Rattle.graph_json.specs.RawLists.{kinds_of, zip_with}
use Rattle.text_table.specs.Tables.{with_text}
use Rattle.graph_json.proofs.Sets.{distinct-nil}
use Rattle.graph_json.proofs.EdgeLaws.{itself, at_field}

-- ---- types

one_more : (b : Bool) (texts : List (List ℕ)) (text : List ℕ) →
    length (if b then texts else texts ++ text ∷ []) ≤ length texts + 1
one_more true texts text = omega arith
one_more false texts text = omega (arith, length-append texts (text ∷ []))

all_more : (texts more : List (List ℕ)) → length (fold with_text texts more) ≤ length texts + length more
all_more texts [] = omega arith
all_more texts (text ∷ more) =
    omega (arith, all_more (with_text texts text) more, one_more (is_among texts text) texts text)

pub kinds-few : (nodes : List FileNode) → length (kinds_of nodes) ≤ length nodes
kinds-few nodes = omega (arith, all_more [] (map (λ x. x.kind) nodes), length-map nodes (λ x. x.kind))

one_apart : (b : Bool) (texts : List (List ℕ)) (text : List ℕ) →
    is_among texts text ≡ b → IsDistinct bytes_eq texts → IsDistinct bytes_eq (if b then texts else texts ++ text ∷ [])
one_apart true texts text there distinct = distinct
one_apart false texts text new distinct = IsDistinct-push nat_list_eq_equiv texts text distinct new

all_apart : (texts more : List (List ℕ)) → IsDistinct bytes_eq texts → IsDistinct bytes_eq (fold with_text texts more)
all_apart texts [] distinct = distinct
all_apart texts (text ∷ more) distinct =
    all_apart (with_text texts text) more (one_apart (is_among texts text) texts text refl distinct)

not_before : (texts : List (List ℕ)) → IsDistinct bytes_eq texts →
    (j k : ℕ) (x : List ℕ) → slice_get texts j ≡ Some x → slice_get texts k ≡ Some x → j < k → ⊥
not_before texts distinct j k x at_j at_k before =
    let within = slice_get_within texts k x at_k in
    let apart = apart_from_distinct bytes_eq texts j k x distinct before within in
    let same : bytes_eq (get_or texts j x) (get_or texts k x) ≡ true =
    rw (get_or_from_slice_get texts j x x at_j, get_or_from_slice_get texts k x x at_k) (itself x) in
    true≢false (sym same ∙ apart)

pub distinct_indices : (texts : List (List ℕ)) →
    IsDistinct bytes_eq texts → (j k : ℕ) (x : List ℕ) → slice_get texts j ≡ Some x → slice_get texts k ≡ Some x → j ≡ k
distinct_indices texts distinct j k x at_j at_k = by (cases_lt j k) (cases_lt k j)
  where
    by : (j < k) ⊎ (k ≤ j) → (k < j) ⊎ (j ≤ k) → j ≡ k
    by (inl before) other = absurd (not_before texts distinct j k x at_j at_k before)
    by (inr past) (inl before) = absurd (not_before texts distinct k j x at_k at_j before)
    by (inr past) (inr beyond) = omega arith

same_text_at : (o p : Option (List ℕ)) → IsSome o → o ≡ p → (x : List ℕ) × (o ≡ Some x) × (p ≡ Some x)
same_text_at None p some e = absurd (cc)
same_text_at (Some x) p some e = (x, refl, sym e)

pub distinct_kinds : (texts : List (List ℕ)) → IsDistinct bytes_eq texts → KindsApart texts
distinct_kinds texts distinct j k some e = let s = same_text_at (slice_get texts j) (slice_get texts k) some e in
    distinct_indices texts distinct j k s.0 s.1 s.2

pub kinds-distinct : (nodes : List FileNode) → IsDistinct bytes_eq (kinds_of nodes)
kinds-distinct nodes = all_apart [] (map (λ x. x.kind) nodes) distinct-nil

pub kinds-apart : (nodes : List FileNode) → KindsApart (kinds_of nodes)
kinds-apart nodes = distinct_kinds (kinds_of nodes) (kinds-distinct nodes)

-- ---- parents

and_then_some : {A B : Type 0} (f : A → Option B) (o : Option A) (y : B) →
    option_and_then f o ≡ Some y → (x : A) × (f x ≡ Some y)
and_then_some f None y e = absurd (cc)
and_then_some f (Some x) y e = (x, e)

module _ (ids : List (List ℕ)) (edges : List FileEdge) where
  parent-within : (id : List ℕ) (p : ℕ) → parent_of ids edges id ≡ Some p → p < length ids
  parent-within id p e =
      let found =
      and_then_some (λ (f : FileEdge). number_of ids f.source) (find (λ f. bytes_eq id f.target) edges) p e in
      slice_get_within ids p _ (at_field ids _ p found.1)

  pub parents-within : (i p : ℕ) → slice_get (parents_of ids edges) i ≡ Some (Some p) → p < length ids
  parents-within i p e = by (slice_get ids i) (sym (slice_get-map (parent_of ids edges) ids i) ∙ e)
    where
      by : (o : Option (List ℕ)) → option_map (parent_of ids edges) o ≡ Some (Some p) → p < length ids
      by None h = absurd (cc)
      by (Some id) h = parent-within id p (cc)

  pub parents-many : length (parents_of ids edges) ≡ length ids
  parents-many = length-map ids (parent_of ids edges)

-- parents beside their nodes
pub zipped : {C : Type 0} (f : FileNode → Option ℕ → C) (g : List ℕ → Option ℕ) (xs : List FileNode) →
    zip_with f xs (map g (ids_of xs)) ≡ map (λ x. f x (g x.id)) xs
zipped f g [] = refl
zipped f g (x ∷ xs) = ap (λ ys. f x (g x.id) ∷ ys) (zipped f g xs)
