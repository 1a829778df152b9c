-- Edges, one more at a time.
use Rattle.std.proofs.Common.{◌≡◌, refl, sym, ap, subst, ◌∙◌, ℕ, zero, suc, ◌+◌, ◌<◌, ◌≤◌, List, [], ◌∷◌, ◌++◌, length}
use Rattle.std.proofs.Common.{take, map, Bool, true, false, true≢false, ◌||◌, cond, if◌then◌else◌, Some, None, Option}
use Rattle.std.proofs.Common.{is_some, unwrap_or, option_map, option_and_then, slice_get, slice_set, ◌⊎◌, inl}
use Rattle.std.proofs.Common.{inr, arith, append-nil, Result, Ok, Err}
use borrow.Author.Count.{below_more, below_none}
use Rattle.std.proofs.lemmas.Bool.{cases_lt}
use Rattle.std.proofs.lemmas.Slice.Eq.{bytes_eq-Decides}
use Rattle.std.proofs.lemmas.List.{take_all}
use Rattle.std.proofs.lemmas.List.Elements.{filter_map-append}
use Rattle.std.proofs.lemmas.Option.{slice_get_past, slice_get-map}
use Rattle.std.specs.Cmp.Lexicographic.{nat_list_eq_equiv}
use Rattle.std.specs.List.{IsDistinct, AllByRecursion, find}
use Rattle.std.specs.Option.{option_map_or}
use Rattle.std.specs.Str.{bytes_eq}
use Rattle.json_whole.specs.Values.{view, items_view}
use Rattle.json.specs.declared.value.Value.{Value}
use Rattle.graph_json.specs.Edges.{FileEdge, edge_of, edges_of, counts, counted, is_among, is_wrong, IsWrongEdge}
use Rattle.graph_json.specs.Edges.{parent_of, parents_of, with_parent, joined, joined_as, HasJoined}
use Rattle.graph_json.specs.FieldPaths.{FileMisfit}
use Rattle.graph_json.specs.declared.edges.Role.{Role}
use Rattle.graph_json.specs.declared.edges.Role.TheVariants.{Counted, Skipped, Refused}
use Rattle.text_table.specs.Tables.{number_of}
use Rattle.graph_json.proofs.Sets.{number_step}
use Rattle.list_laws.proofs.Lists.{take_next}

-- ---- equal texts

pub same_text : (x y : List ℕ) → bytes_eq x y ≡ true → x ≡ y
same_text x y e = (bytes_eq-Decides x y).0 e

pub itself : (x : List ℕ) → bytes_eq x x ≡ true
itself x = (bytes_eq-Decides x x).1 refl

turned : (x y : List ℕ) → bytes_eq x y ≡ bytes_eq y x
turned x y = nat_list_eq_equiv.symm x y

-- ---- numbers

-- a text that is among them has a number
pub placed : (xs : List (List ℕ)) (id : List ℕ) → is_some (number_of xs id) ≡ is_among xs id
placed [] id = refl
placed (x ∷ xs) id = ap is_some (number_step id x xs) ∙ by_first (bytes_eq id x) (number_of xs id) (placed xs id)
  where
    by_first : (b : Bool) (o : Option ℕ) →
        is_some o ≡ is_among xs id → is_some (if b then Some 0 else option_map suc o) ≡ (b || is_among xs id)
    by_first true o e = refl
    by_first false None e = e
    by_first false (Some k) e = e

-- what stands at a text's number is that text
pub at_field : (xs : List (List ℕ)) (id : List ℕ) (k : ℕ) → number_of xs id ≡ Some k → slice_get xs k ≡ Some id
at_field [] id k e = absurd (let clash : None ≡ Some k = e in cc)
at_field (x ∷ xs) id k e =
    by_first (bytes_eq id x) refl (number_of xs id) (λ j p. at_field xs id j p) (sym (number_step id x xs) ∙ e)
  where
    by_first : (b : Bool) → bytes_eq id x ≡ b → (o : Option ℕ) → ((j : ℕ) → o ≡ Some j → slice_get xs j ≡ Some id) →
        (if b then Some 0 else option_map suc o) ≡ Some k → slice_get (x ∷ xs) k ≡ Some id
    by_first true same o p at = let zero_is : 0 ≡ k = cc in rw (← zero_is) (ap Some (sym (same_text id x same)))
    by_first false same None p at = cc
    by_first false same (Some j) p at = let next : suc j ≡ k = cc in rw (← next) (p j refl)

-- ---- parents

-- the edges to this id
abbrev to : List ℕ → FileEdge → Bool
to id e = bytes_eq id e.target

-- by an edge more, another node's parent stays
found_before : (es : List FileEdge) (e : FileEdge) (id : List ℕ) →
    to id e ≡ false → find (to id) (es ++ e ∷ []) ≡ find (to id) es
found_before [] e id other = rw other refl
found_before (f ∷ es) e id other = ap (cond (to id f) (Some f)) (found_before es e id other)

-- and its target's is new
found_new : (es : List FileEdge) (e : FileEdge) (id : List ℕ) →
    to id e ≡ true → is_among (map (λ f. f.target) es) id ≡ false → find (to id) (es ++ e ∷ []) ≡ Some e
found_new [] e id here none = rw here refl
found_new (f ∷ es) e id here none = by_first (to id f) (λ no. found_new es e id here no) none
  where
    by_first : (b : Bool) → (is_among (map (λ g. g.target) es) id ≡ false → find (to id) (es ++ e ∷ []) ≡ Some e) →
        (b || is_among (map (λ g. g.target) es) id) ≡ false → cond b (Some f) (find (to id) (es ++ e ∷ [])) ≡ Some e
    by_first true ih h = absurd (true≢false h)
    by_first false ih h = ih h

module _ (ids : List (List ℕ)) where
  abbrev AllKnown : List FileEdge → Type 0
  AllKnown es = AllByRecursion (λ e. is_among ids e.source ≡ true) es

  -- a node has a parent where some edge goes to it
  parent_some : (es : List FileEdge) →
      AllKnown es → (id : List ℕ) → is_some (parent_of ids es id) ≡ is_among (map (λ f. f.target) es) id
  parent_some [] known id = refl
  parent_some (f ∷ es) known id = by_first (to id f) (parent_some es known.1 id)
    where
      by_first : (b : Bool) → is_some (parent_of ids es id) ≡ is_among (map (λ g. g.target) es) id →
          is_some (option_and_then (λ e. number_of ids e.source) (cond b (Some f) (find (to id) es)))
          ≡ (b || is_among (map (λ g. g.target) es) id)
      by_first true p = placed ids f.source ∙ known.0
      by_first false p = p

  module _ (es : List FileEdge) (e : FileEdge) (s : ℕ)
      (source : number_of ids e.source ≡ Some s) (fresh : is_among (map (λ f. f.target) es) e.target ≡ false) where
    parent_new : parent_of ids (es ++ e ∷ []) e.target ≡ Some s
    parent_new =
        ap (option_and_then (λ f. number_of ids f.source)) (found_new es e e.target (itself e.target) fresh) ∙ source

    parent_other : (id : List ℕ) → bytes_eq e.target id ≡ false → parent_of ids (es ++ e ∷ []) id ≡ parent_of ids es id
    parent_other id other =
        ap (option_and_then (λ f. number_of ids f.source)) (found_before es e id (turned id e.target ∙ other))

    others : (xs : List (List ℕ)) → AllByRecursion (λ x. bytes_eq e.target x ≡ false) xs →
        map (parent_of ids (es ++ e ∷ [])) xs ≡ map (parent_of ids es) xs
    others [] all = refl
    others (x ∷ xs) all = rw (parent_other x all.0, others xs all.1) refl

    update : (xs : List (List ℕ)) → IsDistinct bytes_eq xs → (t : ℕ) → number_of xs e.target ≡ Some t →
        map (parent_of ids (es ++ e ∷ [])) xs ≡ slice_set (map (parent_of ids es) xs) t (Some s)
    unfolding IsDistinct
    update [] distinct t at = absurd (let clash : None ≡ Some t = at in cc)
    update (x ∷ xs) distinct t at =
        by_first (bytes_eq e.target x) refl (number_of xs e.target) (λ j p. update xs distinct.1 j p)
        (sym (number_step e.target x xs) ∙ at)
      where
        by_first : (b : Bool) → bytes_eq e.target x ≡ b → (o : Option ℕ) → ((j : ℕ) →
            o ≡ Some j → map (parent_of ids (es ++ e ∷ [])) xs ≡ slice_set (map (parent_of ids es) xs) j (Some s)) →
            (if b then Some 0 else option_map suc o) ≡ Some t →
            map (parent_of ids (es ++ e ∷ [])) (x ∷ xs) ≡ slice_set (map (parent_of ids es) (x ∷ xs)) t (Some s)
        by_first true same o p q =
            let zero_is : 0 ≡ t = cc in
            let is : e.target ≡ x = same_text e.target x same in
            let apart : AllByRecursion (λ y. bytes_eq e.target y ≡ false) xs =
            subst (λ z. AllByRecursion (λ y. bytes_eq z y ≡ false) xs) (sym is) distinct.0 in
            let here : parent_of ids (es ++ e ∷ []) x ≡ Some s =
            ap (parent_of ids (es ++ e ∷ [])) (sym is) ∙ parent_new in
            rw (← zero_is, here, others xs apart) refl
        by_first false same None p q = cc
        by_first false same (Some j) p q =
            let next : suc j ≡ t = cc in
            rw (← next, parent_other x same, p j refl) refl

  -- ---- one edge more

  -- what an edge does to the parents of those before it: nothing where it is wrong, and else it is one of them
  pub record Joins (es : List FileEdge) (e : FileEdge) (after : Option (List (Option ℕ))) : Type 0 where
    pub wrong : after ≡ None → is_wrong ids es (Ok e) ≡ true
    pub right : (parents : List (Option ℕ)) → after ≡ Some parents → is_wrong ids es (Ok e) ≡ false
    pub parents_are : (parents : List (Option ℕ)) →
        after ≡ Some parents → parents ≡ parents_of ids (es ++ counted (Ok e ∷ []))
    pub known : (parents : List (Option ℕ)) → after ≡ Some parents → AllKnown (counted (Ok e ∷ []))

  -- the parents where an edge with these ends, of which the target's parent is known to be there or not, is added
  module _ (es : List FileEdge) (distinct : IsDistinct bytes_eq ids) (known : AllKnown es) where
    -- what a look at the target's entry finds
    entry : (id : List ℕ) (t : ℕ) → number_of ids id ≡ Some t →
        is_some (unwrap_or (slice_get (parents_of ids es) t) None) ≡ is_among (map (λ f. f.target) es) id
    entry id t at = ap (λ o. is_some (unwrap_or o None))
        (slice_get-map (parent_of ids es) ids t ∙ ap (option_map (parent_of ids es)) (at_field ids id t at))
        ∙ parent_some es known id

    module _ (source target : List ℕ) where
      abbrev edge : FileEdge
      edge = record { source = source; target = target; role = Counted }

      counted_joins : (o p : Option ℕ) (b : Bool) →
          number_of ids source ≡ o → number_of ids target ≡ p → is_among (map (λ f. f.target) es) target ≡ b
          → Joins es edge
          (option_and_then (λ parent. option_and_then (λ child. with_parent (parents_of ids es) child parent) p) o)
      counted_joins None p b oe pe be = record {
        wrong = λ _. rw (sym (placed ids source) ∙ ap is_some oe) refl;
        right = λ parents e. cc;
        parents_are = λ parents e. cc;
        known = λ parents e. absurd (cc);
      }
      counted_joins (Some s) None b oe pe be = record {
        wrong = λ _. rw (sym (placed ids source) ∙ ap is_some oe, sym (placed ids target) ∙ ap is_some pe) refl;
        right = λ parents e. cc;
        parents_are = λ parents e. cc;
        known = λ parents e. absurd (cc);
      }
      counted_joins (Some s) (Some t) true oe pe be = rw (entry target t pe, be) (record {
        wrong = λ _. rw (sym (placed ids source) ∙ ap is_some oe, sym (placed ids target) ∙ ap is_some pe, be) refl;
        right = λ parents e. cc;
        parents_are = λ parents e. cc;
        known = λ parents e. absurd (cc);
      })
      counted_joins (Some s) (Some t) false oe pe be = rw (entry target t pe, be) (record {
        wrong = λ e. absurd (cc);
        right =
            λ parents _. rw (sym (placed ids source) ∙ ap is_some oe, sym (placed ids target) ∙ ap is_some pe, be) refl;
        parents_are = λ parents e. let is : slice_set (parents_of ids es) t (Some s) ≡ parents = cc in
            sym is ∙ sym (update es edge s oe be ids distinct t pe);
        known = λ parents e. (sym (placed ids source) ∙ ap is_some oe, tt);
      })

    joins_as : (source target : List ℕ) (role : Role) →
        Joins es (record { source = source; target = target; role = role })
        (joined_as ids (parents_of ids es) role (record { source = source; target = target; role = role }))
    joins_as source target Counted = counted_joins source target
        (number_of ids source) (number_of ids target) (is_among (map (λ f. f.target) es) target) refl refl refl
    joins_as source target Skipped = record {
      wrong = λ e. absurd (cc);
      right = λ parents _. refl;
      parents_are = λ parents e. let is : parents_of ids es ≡ parents = cc in
          sym is ∙ ap (parents_of ids) (sym (append-nil es));
      known = λ parents e. tt;
    }
    joins_as source target Refused = record {
      wrong = λ _. refl;
      right = λ parents e. cc;
      parents_are = λ parents e. cc;
      known = λ parents e. absurd (cc);
    }

    joins : (e : FileEdge) → Joins es e (joined ids (parents_of ids es) e)
    joins e = joins_as e.source e.target e.role

  -- ---- all edges

  all_then : (xs ys : List FileEdge) → AllKnown xs → AllKnown ys → AllKnown (xs ++ ys)
  all_then [] ys a b = b
  all_then (x ∷ xs) ys a b = (a.0, all_then xs ys a.1 b)

  module _ (edges : List (Result FileEdge FileMisfit)) where
    pub joined-none : HasJoined ids edges 0 (parents_of ids [])
    joined-none = record { parents_are = refl; right = below_none (λ k. IsWrongEdge ids edges k → ⊥); known = tt }

    module _ (k : ℕ) (r : Result FileEdge FileMisfit) (here : slice_get edges k ≡ Some r) where
      counted_next : counted (take (k + 1) edges) ≡ counted (take k edges) ++ counted (r ∷ [])
      counted_next = ap counted (take_next edges k r here) ∙ filter_map-append counts (take k edges) (r ∷ [])

      wrong_by : option_map_or (is_wrong ids (counted (take k edges))) (slice_get edges k) false
          ≡ is_wrong ids (counted (take k edges)) r
      wrong_by = ap (λ o. option_map_or (is_wrong ids (counted (take k edges))) o false) here

    pub joined-more : (k : ℕ) (e : FileEdge) (old new : List (Option ℕ)) → IsDistinct bytes_eq ids → HasJoined ids
        edges k old → slice_get edges k ≡ Some (Ok e) → joined ids old e ≡ Some new → HasJoined ids edges (k + 1) new
    joined-more k e old new distinct has here more =
        let j = joins (counted (take k edges)) distinct has.known e in
        let after : joined ids (parents_of ids (counted (take k edges))) e ≡ Some new =
        ap (λ ps. joined ids ps e) (sym has.parents_are) ∙ more in
        record {
          parents_are = j.parents_are new after ∙ ap (parents_of ids) (sym (counted_next k (Ok e) here));
          right = below_more (λ i. IsWrongEdge ids edges i → ⊥) k has.right
              (λ wrong. true≢false (sym wrong ∙ wrong_by k (Ok e) here ∙ j.right new after));
          known = subst AllKnown (sym (counted_next k (Ok e) here))
              (all_then (counted (take k edges)) (counted (Ok e ∷ [])) has.known (j.known new after));
        }

    pub wrong_edge : (k : ℕ) (e : FileEdge) (old : List (Option ℕ)) → IsDistinct bytes_eq ids →
        HasJoined ids edges k old → slice_get edges k ≡ Some (Ok e) → joined ids old e ≡ None → IsWrongEdge ids edges k
    wrong_edge k e old distinct has here none =
        let j = joins (counted (take k edges)) distinct has.known e in
        wrong_by k (Ok e) here ∙ j.wrong (ap (λ ps. joined ids ps e) (sym has.parents_are) ∙ none)

    pub unfit_edge : (k : ℕ) (m : FileMisfit) → slice_get edges k ≡ Some (Err m) → IsWrongEdge ids edges k
    unfit_edge k m here = wrong_by k (Err m) here

    past_right : (k : ℕ) → length edges ≤ k → IsWrongEdge ids edges k → ⊥
    past_right k past wrong = true≢false (sym wrong
        ∙ ap (λ o. option_map_or (is_wrong ids (counted (take k edges))) o false) (slice_get_past edges k past))

    below_right : (most k : ℕ) → length edges ≤ most →
        ((j : ℕ) → j < most → IsWrongEdge ids edges j → ⊥) → (k < most) ⊎ (most ≤ k) → IsWrongEdge ids edges k → ⊥
    below_right most k all right (inl below) wrong = right k below wrong
    below_right most k all right (inr past) wrong = past_right k (omega arith) wrong

    pub all_right : (most : ℕ) (parents : List (Option ℕ)) →
        HasJoined ids edges most parents → length edges ≤ most → (k : ℕ) → IsWrongEdge ids edges k → ⊥
    all_right most parents has all k = below_right most k all has.right (cases_lt k most)

    pub all_joined : (most : ℕ) (parents : List (Option ℕ)) →
        HasJoined ids edges most parents → length edges ≤ most → parents ≡ parents_of ids (counted edges)
    all_joined most parents has all = has.parents_are ∙ ap (λ es. parents_of ids (counted es)) (take_all most edges all)

-- ---- edges as they are read

pub edges-length : {A : Type 0} (from : ℕ) (vs : List (Value A)) → length (edges_of from (items_view vs)) ≡ length vs
edges-length from [] = refl
edges-length from (v ∷ vs) = ap suc (edges-length (suc from) vs)

pub edges-at : {A : Type 0} (from : ℕ) (vs : List (Value A)) (k : ℕ) (v : Value A) →
    slice_get vs k ≡ Some v → slice_get (edges_of from (items_view vs)) k ≡ Some (edge_of (from + k) (view v))
edges-at from [] k v e = cc
edges-at from (w ∷ vs) zero v e = let same : w ≡ v = cc in let at : from ≡ from + 0 = omega arith in
    ap Some (ap (λ n. edge_of n (view w)) at ∙ ap (λ u. edge_of (from + 0) (view u)) same)
edges-at from (w ∷ vs) (suc k) v e = edges-at (suc from) vs k v e ∙ ap (λ n. Some (edge_of n (view v))) (omega arith)
