-- The hosts of a job: what they are called, and that their hostlists are plain texts.
use Rattle.std.proofs.Common.{◌≡◌, ℕ, zero, suc, ◌+◌, ◌<◌, ◌≤◌, ◌==◌, ◌&&◌, Bool, true, false, List, [], ◌∷◌, ◌++◌}
use Rattle.std.proofs.Common.{length, take, drop, Option, Some, None, refl, sym, ◌∙◌, ap, subst, arith, cond}
use Rattle.std.proofs.Common.{if◌then◌else◌, IsUtf8, IsTrue, IfSome, slice_get, slice_index, unwrap_or, option_and_then}
use Rattle.std.proofs.Common.{is_some, true≢false, inl, inr}
use Rattle.std.specs.List.{AllByRecursion, find, list_all}
use Rattle.std.specs.Option.{option_map_or}
use Rattle.std.proofs.lemmas.Bool.{and_parts, cases_eq, cases_lt, eq-eqb}
use Rattle.std.proofs.lemmas.Option.{slice_get-get_or}
use Rattle.std.proofs.lemmas.Str.{IsUtf8-from_ascii}
use Rattle.flux_defs.specs.declared.limits.TheConstants.{NO_ID}
use Rattle.flux_defs.specs.declared.vertices.Vertex.{Vertex}
use Rattle.flux_defs.specs.Graph.{is_at_or_below}
use Rattle.resource_graph.specs.NamedGraph.{NamedGraph}
use Rattle.idset_text.specs.Idsets.{ids_from}
use Rattle.idset_text.specs.Hostlists.{is_host_name, prefix_of, digits_of, digits_place, continues, run_text}
use Rattle.idset_text.specs.Hostlists.{texts_from, hostlist_texts}
use Rattle.text_forms.specs.Names.{is_name_byte}
use Rattle.resource_set_r.specs.Rows.{node_above, rank_above, node_with, host_of, is_of_type, id_of_type}
use Rattle.resource_graph.specs.Tables.{rank_at, name_at}
use Rattle.resource_set_r.specs.ReadBack.{HasIdNumbers}
use Rattle.resource_set_r.proofs.Filtered.{find_some}
use Rattle.resource_set_r.proofs.IdsBack.{Small}
use Rattle.list_laws.proofs.Lists.{all_at}
use Rattle.text_forms.proofs.Ascii.{name_byte_small}

-- ---- ASCII

abbrev AreAscii : List ℕ → Type 0
AreAscii bytes = AllByRecursion (λ b. b < 128) bytes

ascii_index : (bytes : List ℕ) → AreAscii bytes → (i : ℕ) → slice_index bytes i < 128
ascii_index [] all i = omega arith
ascii_index (b ∷ bytes) all zero = all.0
ascii_index (b ∷ bytes) all (suc i) = ascii_index bytes all.1 i

ascii_utf8 : (bytes : List ℕ) → AreAscii bytes → IsUtf8 bytes
ascii_utf8 bytes all = IsUtf8-from_ascii bytes (ascii_index bytes all)

ascii_take : (n : ℕ) (bytes : List ℕ) → AreAscii bytes → AreAscii (take n bytes)
ascii_take zero bytes all = tt
ascii_take (suc n) [] all = tt
ascii_take (suc n) (b ∷ bytes) all = (all.0, ascii_take n bytes all.1)

ascii_drop : (n : ℕ) (bytes : List ℕ) → AreAscii bytes → AreAscii (drop n bytes)
ascii_drop zero bytes all = all
ascii_drop (suc n) [] all = tt
ascii_drop (suc n) (b ∷ bytes) all = ascii_drop n bytes all.1

ascii_append : (a b : List ℕ) → AreAscii a → AreAscii b → AreAscii (a ++ b)
ascii_append [] b all more = more
ascii_append (x ∷ a) b all more = (all.0, ascii_append a b all.1 more)

ascii_bytes : (bytes : List ℕ) → list_all is_name_byte bytes ≡ true → AreAscii bytes
ascii_bytes [] h = tt
ascii_bytes (b ∷ bytes) h = let both = and_parts (is_name_byte b) (list_all is_name_byte bytes) h in
    (name_byte_small b both.0, ascii_bytes bytes both.1)

ascii_name : (name : List ℕ) → IsTrue (is_host_name name) → AreAscii name
ascii_name name h = ascii_bytes name (and_parts _ _ h).1

-- ---- hostlists of names

ascii_run : (many : Bool) (first last : List ℕ) → AreAscii first → AreAscii last → AreAscii (run_text many first last)
ascii_run true first last a b =
    let one = ascii_append (prefix_of first) (91 ∷ digits_of first)
    (ascii_take (digits_place first) first a) (omega arith, ascii_drop (digits_place first) first a) in
    let two = ascii_append (prefix_of first ++ 91 ∷ digits_of first)
    (45 ∷ digits_of last) one (omega arith, ascii_drop (digits_place last) last b) in
    ascii_append ((prefix_of first ++ 91 ∷ digits_of first) ++ 45 ∷ digits_of last) (93 ∷ []) two (omega arith, tt)
ascii_run false first last a b = a

utf8_from : (many : Bool) (first last : List ℕ) (names : List (List ℕ)) → AreAscii first →
    AreAscii last → AllByRecursion AreAscii names → AllByRecursion IsUtf8 (texts_from many first last names)
utf8_from many first last [] a b all = (ascii_utf8 (run_text many first last) (ascii_run many first last a b), tt)
utf8_from many first last (next ∷ names) a b all =
    by (continues first last next)
    (utf8_from true first next names a all.0 all.1) (utf8_from false next next names all.0 all.0 all.1)
  where
    by : (c : Bool) → AllByRecursion IsUtf8 (texts_from true first next names) →
        AllByRecursion IsUtf8 (texts_from false next next names) →
        AllByRecursion IsUtf8 (if c
        then texts_from true first next names else (run_text many first last ∷ texts_from false next next names))
    by true joined new = joined
    by false joined new = (ascii_utf8 (run_text many first last) (ascii_run many first last a b), new)

ascii_names : (names : List (List ℕ)) → AllByRecursion (λ name. IsTrue (is_host_name name)) names →
    AllByRecursion AreAscii names
ascii_names [] all = tt
ascii_names (name ∷ names) all = (ascii_name name all.0, ascii_names names all.1)

pub utf8_hostlists : (names : List (List ℕ)) → AllByRecursion (λ name. IsTrue (is_host_name name)) names →
    AllByRecursion IsUtf8 (hostlist_texts names)
utf8_hostlists [] all = tt
utf8_hostlists (name ∷ names) all = let first = ascii_name name all.0 in
    utf8_from false name name names first first (ascii_names names all.1)

-- ---- what stands at a place

-- what passes is found
found_some : (p : ℕ → Bool) (count start n : ℕ) →
    start ≤ n → n < start + count → p n ≡ true → find p (ids_from count start) ≡ None → ⊥
found_some p zero start n lo hi passes none = omega arith
found_some p (suc count) start n lo hi passes none =
    by (p start) refl none (λ more rest. found_some p count (start + 1) n more (omega arith) passes rest)
  where
    by : (b : Bool) → p start ≡ b → cond b (Some start) (find p (ids_from count (start + 1))) ≡ None →
        (start + 1 ≤ n → find p (ids_from count (start + 1)) ≡ None → ⊥) → ⊥
    by true e f rest = cc
    by false e f rest =
        elim (cases_eq start n) [
          | inl same ↦ true≢false (sym passes ∙ (ap p (sym same) ∙ e))
          | inr differ ↦ rest (elim (cases_lt start n) [
            | inl less ↦ omega arith
            | inr le ↦ absurd (differ (omega arith))
          ]) f
        ]

module _ (vertices : List Vertex) where
  -- the rank of a node above a vertex is that of a vertex
  pub ranked_above : (v rank : ℕ) →
      rank_above vertices v ≡ Some rank → (n : ℕ) × (n < length vertices) × (rank_at vertices n ≡ Some rank)
  ranked_above v rank e = by (node_above vertices v) refl e
    where
      by : (o : Option ℕ) → node_above vertices v ≡ o → option_and_then (rank_at vertices) o ≡ Some rank →
          (n : ℕ) × (n < length vertices) × (rank_at vertices n ≡ Some rank)
      by None e f = cc
      by (Some n) e f =
          let found =
          find_some (λ n. is_some (rank_at vertices n) && is_at_or_below vertices v n) (length vertices) 0 n e in
          (n, (let lt : n < 0 + length vertices = found.2 in omega arith), f)

  module _ (small : AllByRecursion HasIdNumbers vertices) where
    pub rank_small : (n rank : ℕ) → rank_at vertices n ≡ Some rank → Small rank
    rank_small n rank e = by (slice_get vertices n) refl e
      where
        by : (o : Option Vertex) → slice_get vertices n ≡ o → option_and_then (λ x. x.rank) o ≡ Some rank → Small rank
        by None f g = cc
        by (Some x) f g = let x_small = all_at HasIdNumbers vertices n x small f in
            subst (λ (o : Option ℕ). IfSome o (λ k. k < NO_ID)) g x_small.rank

    pub id_small : (kind : Option ℕ) (n id : ℕ) → id_of_type vertices kind n ≡ Some id → Small id
    id_small kind n id e = by (is_of_type vertices kind n) e
      where
        at : (o : Option Vertex) → slice_get vertices n ≡ o → option_and_then (λ x. x.id) o ≡ Some id → Small id
        at None f g = cc
        at (Some x) f g = let x_small = all_at HasIdNumbers vertices n x small f in
            subst (λ (o : Option ℕ). IfSome o (λ k. k < NO_ID)) g x_small.id

        by : (b : Bool) → (if b then option_and_then (λ x. x.id) (slice_get vertices n) else None) ≡ Some id → Small id
        by true g = at (slice_get vertices n) refl g
        by false g = cc

-- a rank's node has a name, where all vertices have
pub host_named : (g : NamedGraph) (rank n : ℕ) → length g.names ≡ length g.resources.vertices →
    AllByRecursion (λ name. IsTrue (is_host_name name)) g.names →
    n < length g.resources.vertices → rank_at g.resources.vertices n ≡ Some rank →
    IsTrue (is_host_name (host_of g rank))
host_named g rank n named names lt is = by (node_with g.resources.vertices rank) refl
  where
    p : ℕ → Bool
    p v = option_map_or (λ r. r == rank) (rank_at g.resources.vertices v) false

    passes : p n ≡ true
    passes = ap (λ o. option_map_or (λ r. r == rank) o false) is ∙ eq-eqb rank rank refl

    at : (v : ℕ) → v < length g.names → IsTrue (is_host_name (name_at g v))
    at v within =
        let here = slice_get-get_or g.names v [] within in
        subst (λ (o : Option (List ℕ)). IsTrue (is_host_name (unwrap_or o []))) (sym here)
        (all_at (λ name. IsTrue (is_host_name name)) g.names v _ names here)

    by : (o : Option ℕ) → node_with g.resources.vertices rank ≡ o →
        IsTrue (is_host_name (option_map_or (name_at g) o []))
    by None e = absurd (found_some p (length g.resources.vertices) 0 n (omega arith) (omega arith) passes e)
    by (Some v) e =
        let found = find_some p (length g.resources.vertices) 0 v e in
        at v (let within : v < 0 + length g.resources.vertices = found.2 in omega arith)
