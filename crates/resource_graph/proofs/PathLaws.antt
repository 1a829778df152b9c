-- Paths of vertices, and how a vertex is found by its path.
use Rattle.std.proofs.Common.{◌≡◌, ◌≢◌, ℕ, zero, suc, ◌+◌, ◌<◌, ◌≤◌, ◌%◌, List, [], ◌∷◌, ◌++◌, length, get_or, reverse}
use Rattle.std.proofs.Common.{Option, Some, None, MatchOption, refl, sym, ◌∙◌}
use Rattle.std.proofs.Common.{ap, subst, arith, inl, inr, Bool, true, false}
use Rattle.std.proofs.Common.{◌-◌, ◌==◌, IsTrue, take, drop, nat_eq, Bor, set}
use Rattle.std.specs.Prelude.{slice_get, unwrap_or, IfOk}
use Rattle.std.specs.Option.{option_map_or}
use Rattle.std.proofs.Common.{Result, Ok, Err}
use Rattle.resource_graph.specs.declared.paths.Places.{Places}
use Rattle.std.specs.List.{flat_map, fold}
use Rattle.std.proofs.lemmas.Bool.{cases_lt, cases_eq, eq-eqb, eqb-true}
use Rattle.std.proofs.lemmas.Option.{slice_get_within, slice_get-get_or, get_or_from_slice_get, slice_get_read}
use Rattle.std.proofs.lemmas.List.{append-nil, reverse-append, append_cancel_right}
use Rattle.std.proofs.lemmas.List.{take-append-drop, length_push, append_assoc, length-append}
use Rattle.std.proofs.lemmas.List.{length-set, get_or-set_same, get_or-set_other}
use Rattle.std.proofs.Math.Seq.{drop-append_seam}
use Rattle.std.proofs.lemmas.List.Sums.{fold-append}
use Rattle.std.specs.Cmp.Lexicographic.{pointwise, same_text, other_text}
use Rattle.std.proofs.lemmas.List.Concat.{flat_map-append}
use Rattle.flux_defs.specs.declared.vertices.Vertex.{Vertex}
use Rattle.flux_defs.specs.Graph.{parent_of, chain}
use Rattle.graph_laws.proofs.Containment.{ParentsFirst}
use Rattle.resource_graph.specs.Chains.{chain_of}
use Rattle.resource_graph.specs.NamedGraph.{name_step}
use Rattle.resource_graph.specs.Paths.{mixed, path_in, path_bucket, path_hash}
use Rattle.resource_graph.specs.Paths.{IsLastIn, HasPlacesTo, HasPlaces, HasHashes, bucket_in}
use Rattle.resource_graph.specs.Paths.{AreEmptyBuckets}
use Rattle.resource_graph.proofs.ChainLaws.{chain-None, chain_short, chains_agree}
use Rattle.resource_graph.proofs.TableLaws.{push_cases}

-- each vertex with this path is the one that the search is at, or stands before it
abbrev pub IsAhead : List Vertex → List (List ℕ) → List ℕ → Option ℕ → Type 0
IsAhead vertices names path at =
    MatchOption at ((u : ℕ) → u < length vertices → path ≢ path_in vertices names u) (λ v. (v < length vertices)
    × (path_bucket vertices names v ≡ fold mixed 0 path % length vertices)
    × ((u : ℕ) → v < u → u < length vertices → path ≢ path_in vertices names u))

module _ (vertices : List Vertex) (first : ParentsFirst vertices) where
  chain_step : (most v : ℕ) → ((p : ℕ) → length (chain vertices most (Some p)) ≤ p + 1) → (o : Option ℕ) →
      parent_of vertices v ≡ o → suc (length (chain vertices most o)) ≤ v + 1
  chain_step most v short None e =
      let none : length (chain vertices most None) ≡ 0 = ap length (chain-None vertices most) in omega arith
  chain_step most v short (Some p) e =
      let less : p < v = first v p e in
      let rest : length (chain vertices most (Some p)) ≤ p + 1 = short p in omega arith

  -- a chain of parents is no longer than the numbers that fall along it
  chain_falls : (most v : ℕ) → length (chain vertices most (Some v)) ≤ v + 1
  chain_falls zero v = omega arith
  chain_falls (suc most) v = chain_step most v (chain_falls most) (parent_of vertices v) refl

  -- the chain of a vertex is that vertex and the chain of its parent
  pub chain_below : (n v p : ℕ) → n ≡ length vertices → v < n → parent_of vertices v ≡ Some p →
      chain vertices n (Some v) ≡ v ∷ chain vertices n (Some p)
  chain_below zero v p e lt parent = absurd (omega arith)
  chain_below (suc m) v p e lt parent =
      let less : p < v = first v p parent in
      let short : length (chain vertices m (Some p)) ≤ m = chain_short vertices m (Some p) in
      let falls : length (chain vertices (suc m) (Some p)) ≤ p + 1 = chain_falls (suc m) p in
      ap (λ o. v ∷ chain vertices m o) parent
      ∙ ap (λ l. v ∷ l) (chains_agree vertices m (suc m) (Some p) (omega arith) (omega arith))

  pub chain_root : (n v : ℕ) → v < n → parent_of vertices v ≡ None → chain vertices n (Some v) ≡ v ∷ []
  chain_root zero v lt root = absurd (omega arith)
  chain_root (suc m) v lt root = ap (λ o. v ∷ chain vertices m o) root ∙ ap (λ l. v ∷ l) (chain-None vertices m)

  module _ (names : List (List ℕ)) where
    -- the path of a root is its step
    pub path_root : (v : ℕ) → v < length vertices → parent_of vertices v ≡ None →
        path_in vertices names v ≡ name_step names v
    path_root v lt root =
        ap (λ l. flat_map (name_step names) (reverse l)) (chain_root (length vertices) v lt root)
        ∙ append-nil (name_step names v)

    -- the path of another vertex is that of its parent and its step
    pub path_below : (v p : ℕ) → v < length vertices → parent_of vertices v ≡ Some p →
        path_in vertices names v ≡ path_in vertices names p ++ name_step names v
    path_below v p lt parent =
        let f = name_step names in
        let above = chain_of vertices p in
        ap (λ l. flat_map f (reverse l)) (chain_below (length vertices) v p refl lt parent)
        ∙ (ap (flat_map f) (reverse-append (v ∷ []) above)
        ∙ (flat_map-append f (reverse above) (v ∷ [])
        ∙ ap (λ l. flat_map f (reverse above) ++ l) (append-nil (f v))))

    -- each path ends in its vertex's step
    pub path_ends : (v : ℕ) → v < length vertices →
        (rest : List ℕ) × (path_in vertices names v ≡ rest ++ name_step names v)
    path_ends v lt = at (parent_of vertices v) refl
      where
        at : (o : Option ℕ) → parent_of vertices v ≡ o →
            (rest : List ℕ) × (path_in vertices names v ≡ rest ++ name_step names v)
        at None e = ([], path_root v lt e)
        at (Some p) e = (path_in vertices names p, path_below v p lt e)

    -- a text that ends otherwise isn't the path
    pub not_path : (v : ℕ) (text bytes : List ℕ) → v < length vertices → name_step names v ≡ 47 ∷ bytes →
        ((rest : List ℕ) → text ≢ rest ++ 47 ∷ bytes) → text ≢ path_in vertices names v
    not_path v text bytes lt step never e =
        let end = path_ends v lt in
        never end.0 (e ∙ (end.1 ∙ ap (λ l. end.0 ++ l) step))

    -- a text that ends in a root's step is its path where nothing stands before
    pub is_root_path : (v : ℕ) (text rest bytes : List ℕ) → v < length vertices → parent_of vertices v ≡ None →
        name_step names v ≡ 47 ∷ bytes → text ≡ rest ++ 47 ∷ bytes →
        (rest ≡ [] → text ≡ path_in vertices names v) × (text ≡ path_in vertices names v → rest ≡ [])
    is_root_path v text rest bytes lt root step ends = (
      (λ none. ends ∙ (ap (λ l. l ++ 47 ∷ bytes) none ∙ (sym step ∙ sym (path_root v lt root)))),
      (λ e. append_cancel_right rest [] (47 ∷ bytes) (sym ends ∙ (e ∙ (path_root v lt root ∙ step)))),
    )

    -- and one that ends in another vertex's step where what stands before is its parent's path
    pub is_path_below : (v p : ℕ) (text rest bytes : List ℕ) → v < length vertices → parent_of vertices v ≡ Some p →
        name_step names v ≡ 47 ∷ bytes → text ≡ rest ++ 47 ∷ bytes →
        (rest ≡ path_in vertices names p → text ≡ path_in vertices names v)
        × (text ≡ path_in vertices names v → rest ≡ path_in vertices names p)
    is_path_below v p text rest bytes lt parent step ends = (
      (λ is. ends ∙ (ap (λ l. l ++ 47 ∷ bytes) is
          ∙ (ap (λ l. path_in vertices names p ++ l) (sym step) ∙ sym (path_below v p lt parent)))),
      (λ e. append_cancel_right rest (path_in vertices names p) (47 ∷ bytes) (sym ends
          ∙ (e ∙ (path_below v p lt parent ∙ ap (λ l. path_in vertices names p ++ l) step)))),
    )

    -- the hash of a root's path
    pub hash_root : (v : ℕ) (bytes : List ℕ) → v < length vertices → parent_of vertices v ≡ None →
        name_step names v ≡ 47 ∷ bytes → fold mixed (mixed 0 47) bytes ≡ path_hash vertices names v
    hash_root v bytes lt root step = sym (ap (fold mixed 0) (path_root v lt root ∙ step))

    -- the hash of another vertex's path, from that of its parent's
    pub hash_below : (v p above : ℕ) (bytes : List ℕ) → v < length vertices → parent_of vertices v ≡ Some p →
        name_step names v ≡ 47 ∷ bytes → above ≡ path_hash vertices names p →
        fold mixed (mixed above 47) bytes ≡ path_hash vertices names v
    hash_below v p above bytes lt parent step is =
        ap (λ h. fold mixed (mixed h 47) bytes) is ∙ sym (ap (fold mixed 0) (path_below v p lt parent
        ∙ ap (λ l. path_in vertices names p ++ l) step) ∙ fold-append mixed 0 (path_in vertices names p) (47 ∷ bytes))

-- the step of a vertex whose name was read
pub step_read : (names : List (List ℕ)) (v : ℕ) (name bytes : List ℕ) → v < length names →
    name ≡ get_or names v name → bytes ≡ name → name_step names v ≡ 47 ∷ bytes
step_read names v name bytes lt read same =
    ap (λ o. 47 ∷ unwrap_or o []) (slice_get_read names (length names) v name refl lt read)
    ∙ ap (λ l. 47 ∷ l) (sym same)

-- a text that doesn't end so
pub no_suffix : (text suffix rest : List ℕ) →
    pointwise nat_eq (drop (length text - length suffix) text) suffix ≡ false → text ≢ rest ++ suffix
no_suffix text suffix rest differ e =
    let n : length text ≡ length rest + length suffix = ap length e ∙ length-append rest suffix in
    let m : length text - length suffix ≡ length rest = omega arith in
    other_text _ _ (sym differ)
    (ap (λ k. drop k text) m ∙ (ap (drop (length rest)) e ∙ drop-append_seam rest suffix))

-- a text that does
pub has_suffix : (k : ℕ) (text suffix before : List ℕ) →
    pointwise nat_eq (drop k text) suffix ≡ true → before ≡ take k text → text ≡ before ++ suffix
has_suffix k text suffix before same is =
    sym (take-append-drop k text) ∙ (ap (λ l. l ++ drop k text) (sym is)
    ∙ ap (λ l. before ++ l) (same_text (drop k text) suffix (sym same)))

-- of the first so many numbers the last of a bucket, by bucket numbers that agree
last_same : (of new : ℕ → ℕ) (before a b : ℕ) (found : Option ℕ) → ((u : ℕ) → u < before → of u ≡ new u) → a ≡ b →
    IsLastIn of before a found → IsLastIn new before b found
last_same of new before a b None same is none = λ u lt e. none u lt (same u lt ∙ (e ∙ sym is))
last_same of new before a b (Some v) same is last = (
  last.0,
  sym (same v last.0) ∙ (last.1 ∙ is),
  (λ u more lt e. last.2 u more lt (same u lt ∙ (e ∙ sym is))),
)

places_same : (of new : ℕ → ℕ) (n : ℕ) (last earlier : List (Option ℕ)) → ((u : ℕ) → u < n → of u ≡ new u) →
    HasPlacesTo of n n last earlier → HasPlacesTo new n n last earlier
places_same of new n last earlier same has = record {
  as_wide = has.as_wide;
  as_many = has.as_many;
  last = λ b found e. last_same of new n b b found same refl (has.last b found e);
  earlier = λ v found e.
      let within : v < length earlier = slice_get_within earlier v found e in
      let many : length earlier ≡ n = has.as_many in
      last_same of new v (of v) (new v) found (λ u lt. same u (omega arith)) (same v (omega arith))
      (has.earlier v found e);
}

-- the places of the hashes are those of the vertices
pub places_by_paths : (vertices : List Vertex) (names : List (List ℕ)) (hashes : List ℕ)
    (last earlier : List (Option ℕ)) → HasHashes vertices names (length vertices) hashes →
    HasPlacesTo (bucket_in hashes) (length hashes) (length hashes) last earlier →
    HasPlaces vertices names last earlier
places_by_paths vertices names hashes last earlier has places =
    let many : length hashes ≡ length vertices = has.as_many in
    subst (λ (n : ℕ). HasPlacesTo (path_bucket vertices names) n n last earlier) many
    (places_same (bucket_in hashes) (path_bucket vertices names) (length hashes) last earlier
    (λ u lt. ap (λ h. h % length hashes) (has.each u (omega arith))
    ∙ ap (λ n. path_hash vertices names u % n) many)
    places)

-- one number more, which falls into another bucket
last_more : (of : ℕ → ℕ) (v b : ℕ) (found : Option ℕ) → of v ≢ b → IsLastIn of v b found → IsLastIn of (v + 1) b found
last_more of v b None differ none = λ u lt e.
    elim (cases_eq u v) [
      | inl same ↦ differ (ap of (sym same) ∙ e)
      | inr other ↦ none u (omega arith) e
    ]
last_more of v b (Some w) differ last =
    let low : w < v = last.0 in (
      omega arith,
      last.1,
      (λ u more lt e. elim (cases_eq u v) [
        | inl same ↦ differ (ap of (sym same) ∙ e)
        | inr other ↦ last.2 u more (omega arith) e
      ]),
    )

-- and one that falls into this one
last_here : (of : ℕ → ℕ) (v b : ℕ) → of v ≡ b → IsLastIn of (v + 1) b (Some v)
last_here of v b is = (omega arith, is, (λ u more lt e. absurd (omega arith)))

-- one number more is chained
pub places_more : (of : ℕ → ℕ) (buckets v bucket : ℕ) (last earlier grown : List (Option ℕ)) (found : Option ℕ) →
    bucket ≡ of v → slice_get last bucket ≡ Some found → grown ≡ earlier ++ found ∷ [] →
    HasPlacesTo of buckets v last earlier → HasPlacesTo of buckets (v + 1) (set last bucket (Some v)) grown
places_more of buckets v bucket last earlier grown found is read pushed has =
    let within : bucket < length last = slice_get_within last bucket found read in
    record {
      as_wide = length-set last bucket (Some v) ∙ has.as_wide;
      as_many = ap length pushed ∙ (length_push earlier found ∙ ap (λ n. n + 1) has.as_many);
      last = λ b there e.
          let b_in : b < length (set last bucket (Some v)) = slice_get_within (set last bucket (Some v)) b there e in
          let long = length-set last bucket (Some v) in
          let value : get_or (set last bucket (Some v)) b None ≡ there =
          get_or_from_slice_get (set last bucket (Some v)) b there None e in
          elim (cases_eq b bucket) [
            | inl same ↦ (
                let now : Some v ≡ there = sym (get_or-set_same last bucket (Some v) None within)
                ∙ (ap (λ i. get_or (set last bucket (Some v)) i None) (sym same) ∙ value) in
                subst (λ (o : Option ℕ). IsLastIn of (v + 1) b o) now
                (last_here of v b (sym is ∙ sym same)))
            | inr differ ↦ (
                let old : get_or last b None ≡ there =
                sym (get_or-set_other last bucket b (Some v) None differ) ∙ value in
                let lt : b < length last = omega arith in
                last_more of v b there (λ e2. differ (sym e2 ∙ sym is))
                (has.last b there (slice_get-get_or last b None lt ∙ ap Some old)))
          ];
      earlier = λ u other e.
          elim (push_cases earlier found other u (sym (ap (λ l. slice_get l u) pushed) ∙ e)) [
            | inl old ↦ has.earlier u other old.1
            | inr new ↦ (
                let at : u ≡ v = new.0 ∙ has.as_many in
                let was : IsLastIn of v bucket found = has.last bucket found read in
                subst (λ (w : ℕ). IsLastIn of w (of w) other) (sym at)
                (subst (λ (o : Option ℕ). IsLastIn of v (of v) o) (sym new.1)
                (subst (λ (b : ℕ). IsLastIn of v b found) is was)))
          ];
    }

-- the last of a path's bucket is at or behind each vertex with that path, of those before
pub ahead_from : (vertices : List Vertex) (names : List (List ℕ)) (path : List ℕ) (before bucket : ℕ)
    (found : Option ℕ) → before ≤ length vertices → bucket ≡ fold mixed 0 path % length vertices →
    ((u : ℕ) → before ≤ u → u < length vertices → path ≢ path_in vertices names u) →
    IsLastIn (path_bucket vertices names) before bucket found → IsAhead vertices names path found
ahead_from vertices names path before bucket None most is behind none = λ u lt e.
    elim (cases_lt u before) [
      | inl less ↦ none u less (ap (λ l. fold mixed 0 l % length vertices) (sym e) ∙ sym is)
      | inr more ↦ behind u more lt e
    ]
ahead_from vertices names path before bucket (Some v) most is behind last =
    let low : v < before = last.0 in (
      omega arith,
      last.1 ∙ is,
      (λ u later lt e. elim (cases_lt u before) [
        | inl less ↦ last.2 u later less (ap (λ l. fold mixed 0 l % length vertices) (sym e) ∙ sym is)
        | inr more ↦ behind u more lt e
      ]),
    )

-- past a vertex whose path is another
pub ahead_next : (vertices : List Vertex) (names : List (List ℕ)) (path : List ℕ) (v : ℕ) (next : Option ℕ) →
    IsAhead vertices names path (Some v) → path ≢ path_in vertices names v →
    IsLastIn (path_bucket vertices names) v (path_bucket vertices names v) next → IsAhead vertices names path next
ahead_next vertices names path v next ahead differ last =
    let within : v < length vertices = ahead.0 in
    ahead_from vertices names path v (path_bucket vertices names v) next (omega arith) ahead.1
    (λ u le lt e. elim (cases_eq v u) [
      | inl same ↦ differ (e ∙ ap (path_in vertices names) (sym same))
      | inr other ↦ ahead.2 u (omega arith) lt e
    ])
    last

-- whether nothing is left
pub none_left : (rest : List ℕ) (r : Bool) → r ≡ (length rest == 0) → (IsTrue r → rest ≡ []) × (rest ≡ [] → IsTrue r)
none_left rest r is = (
  (λ h. none rest (eqb-true (length rest) 0 (sym is ∙ h))),
  (λ e. is ∙ eq-eqb (length rest) 0 (ap length e)),
)
  where
    none : (rest : List ℕ) → length rest ≡ 0 → rest ≡ []
    none [] e = refl
    none (x ∷ xs) e = absurd (omega arith)

-- what stands before a step, from what stands before its name
pub step_before : (text name before : List ℕ) (found : Option (Bor (List ℕ))) → text ≡ before ++ name →
    MatchOption found (pointwise nat_eq (drop (length before - 1) before) (47 ∷ []) ≡ false)
    (λ x. (pointwise nat_eq (drop (length before - 1) before) (47 ∷ []) ≡ true)
    × (x.now ≡ take (length before - 1) before) × (length x.now + 1 ≡ length before)) →
    MatchOption found ((rest : List ℕ) → text ≢ rest ++ 47 ∷ name) (λ rest. text ≡ rest.now ++ 47 ∷ name)
step_before text name before None is none = λ rest e.
    no_suffix before (47 ∷ []) rest none (append_cancel_right before (rest ++ 47 ∷ []) name
    (sym is ∙ (e ∙ sym (append_assoc rest (47 ∷ []) name))))
step_before text name before (Some rest) is has =
    is ∙ (ap (λ l. l ++ name) (has_suffix (length before - 1) before (47 ∷ []) rest.now has.0 has.1)
    ∙ append_assoc rest.now (47 ∷ []) name)

-- a text that doesn't end in the name doesn't end in its step
pub no_step : (text name rest : List ℕ) →
    pointwise nat_eq (drop (length text - length name) text) name ≡ false → text ≢ rest ++ 47 ∷ name
no_step text name rest differ e =
    no_suffix text name (rest ++ 47 ∷ []) differ (e ∙ sym (append_assoc rest (47 ∷ []) name))

-- nothing is chained yet
pub places_none : (of : ℕ → ℕ) (buckets : ℕ) (last earlier : List (Option ℕ)) → AreEmptyBuckets last buckets →
    earlier ≡ [] → HasPlacesTo of buckets 0 last earlier
places_none of buckets last earlier empty none = record {
  as_wide = empty.as_many;
  as_many = ap length none;
  last = λ b found e. subst (λ (o : Option ℕ). IsLastIn of 0 b o) (sym (empty.each b found e))
      (λ u lt e2. absurd (omega arith));
  earlier = λ v found e.
      let within : v < length earlier = slice_get_within earlier v found e in
      let long : length earlier ≡ 0 = ap length none in
      absurd (omega arith);
}

-- the one before a number stands before it
pub last_less : (of : ℕ → ℕ) (v b : ℕ) (found : Option ℕ) → IsLastIn of v b found →
    option_map_or (λ u. u + 1) found 0 < v + 1
last_less of v b None last = omega arith
last_less of v b (Some u) last = let low : u < v = last.0 in omega arith

-- the places of a result
pub if_places : {E : Type 0} (vertices : List Vertex) (names : List (List ℕ)) (hashes : List ℕ) (r : Result Places E) →
    HasHashes vertices names (length vertices) hashes →
    IfOk r (λ places. HasPlacesTo (bucket_in hashes) (length hashes) (length hashes) places.last.items
    places.earlier.items) → IfOk r (λ places. HasPlaces vertices names places.last.items places.earlier.items)
if_places vertices names hashes (Ok places) has known =
    places_by_paths vertices names hashes places.last.items places.earlier.items has known
if_places vertices names hashes (Err e) has known = tt
