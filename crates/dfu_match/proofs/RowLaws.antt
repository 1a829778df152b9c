-- What rows of how much vertices serve of a need come to.
use Rattle.std.proofs.Common.{◌≡◌, ℕ, zero, suc, ◌+◌, ◌-◌, ◌*◌, ◌<◌, ◌≤◌, List, [], ◌∷◌, ◌++◌, length, ◌⊎◌, inl, inr}
use Rattle.std.proofs.Common.{Some, MatchOption, Contains, slice_get, slice_set, refl, sym, ◌∙◌, ap, subst, arith}
use Rattle.std.proofs.lemmas.Bool.{cases_lt}
use Rattle.std.proofs.lemmas.Bool.Decides.{leb_tells}
use Rattle.std.proofs.lemmas.List.Elements.{Contains-push_cases}
use Rattle.std.proofs.lemmas.List.Sums.{sum_by-cons}
use Rattle.std.proofs.lemmas.Option.{slice_get_within, get_or_from_slice_get}
use Rattle.std.proofs.Math.Seq.{drop-nil}
use Rattle.flux_defs.specs.declared.vertices.Vertex.{Vertex}
use Rattle.flux_defs.specs.declared.claims.Claim.{Claim}
use Rattle.flux_defs.specs.declared.claims.Window.{Window}
use Rattle.flux_defs.specs.declared.requests.Need.{Need, Vert', Pool, Spread'}
use Rattle.flux_defs.specs.Graph.{ResourceGraph, Scope, Everywhere}
use Rattle.flux_defs.specs.Later.{ReachesOver}
use Rattle.flux_defs.specs.Lowest.{CanServe}
use Rattle.flux_defs.specs.Needs.{amount_of, IsOfNeed, IsValidNeed}
use Rattle.flux_defs.specs.Present.{Present, InEach}
use Rattle.flux_laws.proofs.Filling.{CanFill}
use Rattle.flux_laws.proofs.FitLaws.{serves_less}
use Rattle.flux_laws.proofs.Takes.{takes_less}
use Rattle.graph_laws.proofs.Containment.{in_graph}
use Rattle.list_laws.proofs.Lists.{contains_none}
use Rattle.match_laws.specs.Offers.{SomeGroup}
use Rattle.match_laws.proofs.NeedLists.{group_to, server}
use Rattle.match_laws.proofs.Walk.{Lacks, NoneBetween, lacks_over, lacks_next, lacks_end}
use Rattle.dfu_match.specs.declared.knowing.Row.{Row}
use Rattle.dfu_match.specs.declared.knowing.Known.{Known}
use Rattle.dfu_match.specs.Searches.{open_to}
use Rattle.dfu_match.specs.Walks.{ServesNone}
use Rattle.dfu_match.specs.Rows.{whole_of, NoneOfNeed, StandFrom, IsRowOf, Knows, bound_at, served_most}
use Rattle.dfu_match.specs.Rows.{IsNone, KeepsLefts, IsPut, IsNoted}
use Rattle.dfu_match.proofs.LeftLaws.{keeps_same}
use Rattle.dfu_match.proofs.ReachLaws.{reach_all, reach_later}

module _ (vertices : List Vertex) (need : Need) where
  -- two stretches with none of the need are one
  none_both : (low mid to : ℕ) → NoneOfNeed vertices need low mid → NoneOfNeed vertices need mid to →
      NoneOfNeed vertices need low to
  none_both low mid to a b v lo hi is = elim (cases_lt v mid) [
    | inl before ↦ a v lo before is
    | inr after ↦ b v after hi is
  ]

  -- rows stand as far as the vertices after them are none of the need
  stand_further : (low from to : ℕ) (rows : List Row) → NoneOfNeed vertices need from to →
      StandFrom vertices need low rows from → StandFrom vertices need low rows to
  stand_further low from to [] none stand = none_both low from to stand none
  stand_further low from to (row ∷ rows) none stand =
      (stand.0, stand_further (row.vertex + 1) from to rows none stand.1)

  -- one more row behind them
  stand_push : (low from past : ℕ) (rows : List Row) (row : Row) → NoneOfNeed vertices need from row.vertex →
      NoneOfNeed vertices need (row.vertex + 1) past → StandFrom vertices need low rows from →
      StandFrom vertices need low (rows ++ row ∷ []) past
  stand_push low from past [] row before after stand = (none_both low from row.vertex stand before, after)
  stand_push low from past (first ∷ rows) row before after stand =
      (stand.0, stand_push (first.vertex + 1) from past rows row before after stand.1)

  -- a row in the place of one of the same vertex
  stand_set : (low to i : ℕ) (rows : List Row) (was row : Row) → slice_get rows i ≡ Some was →
      was.vertex ≡ row.vertex → StandFrom vertices need low rows to →
      StandFrom vertices need low (slice_set rows i row) to
  stand_set low to i [] was row at same stand = absurd (cc)
  stand_set low to zero (first ∷ rows) was row at same stand =
      let e : first ≡ was = cc in
      let v : first.vertex ≡ row.vertex = ap (λ r. r.vertex) e ∙ same in (
        subst (NoneOfNeed vertices need low) v stand.0,
        subst (λ (u : ℕ). StandFrom vertices need (u + 1) rows to) v stand.1,
      )
  stand_set low to (suc i) (first ∷ rows) was row at same stand =
      (stand.0, stand_set (first.vertex + 1) to i rows was row at same stand.1)

  -- each vertex of the need before a row's, or before where the rows reach to, has a row before that one
  row_before : (low to j position v : ℕ) (rows : List Row) → StandFrom vertices need low rows to →
      MatchOption (slice_get rows j) (position ≡ to) (λ row. position ≡ row.vertex) → IsOfNeed vertices need v →
      low ≤ v → v < position →
      (k : ℕ) × (row : Row) × (k < j) × (slice_get rows k ≡ Some row) × (row.vertex ≡ v)
  row_before low to j position v [] stand at is lo hi = absurd (stand v lo (omega (arith, at, hi)) is)
  row_before low to zero position v (row ∷ rows) stand at is lo hi = absurd (stand.0 v lo (omega (arith, at, hi)) is)
  row_before low to (suc j) position v (row ∷ rows) stand at is lo hi = elim (cases_lt v row.vertex) [
    | inl before ↦ absurd (stand.0 v lo before is)
    | inr after ↦ elim (cases_lt row.vertex v) [
      | inl behind ↦
          let found = row_before (row.vertex + 1) to j position v rows stand.1 at is (omega (arith, behind)) hi in
          (suc found.0, found.1, (let lt = found.2 in omega (arith, lt)), found.3, found.4)
      | inr same ↦ (zero, row, omega arith, refl, omega (arith, after, same))
    ]
  ]

  -- and one behind another row, where the vertex is behind that row's
  pub row_between : (low to i j position v : ℕ) (rows : List Row) (was : Row) → slice_get rows i ≡ Some was → i ≤ j →
      StandFrom vertices need low rows to →
      MatchOption (slice_get rows j) (position ≡ to) (λ row. position ≡ row.vertex) → IsOfNeed vertices need v →
      was.vertex < v → v < position →
      (k : ℕ) × (row : Row) × (i < k) × (k < j) × (slice_get rows k ≡ Some row) × (row.vertex ≡ v)
  row_between low to i j position v [] was there lt stand at is lo hi = absurd (cc)
  row_between low to zero zero position v (row ∷ rows) was there lt stand at is lo hi =
      let first : row ≡ was = cc in
      let same : row.vertex ≡ was.vertex = ap (λ (r : Row). r.vertex) first in
      absurd (omega (arith, same, at, lo, hi))
  row_between low to (suc i) zero position v (row ∷ rows) was there lt stand at is lo hi = absurd (omega (arith, lt))
  row_between low to zero (suc j) position v (row ∷ rows) was there lt stand at is lo hi =
      let first : row ≡ was = cc in
      let found = row_before (row.vertex + 1) to j position v rows stand.1 at is (rw first (omega (arith, lo))) hi in
      (suc found.0, found.1, omega arith, (let few = found.2 in omega (arith, few)), found.3, found.4)
  row_between low to (suc i) (suc j) position v (row ∷ rows) was there lt stand at is lo hi =
      let found = row_between (row.vertex + 1) to i j position v rows was there (omega (arith, lt)) stand.1 at is lo
      hi in (
        suc found.0,
        found.1,
        (let few = found.2 in omega (arith, few)),
        (let few = found.3 in omega (arith, few)),
        found.4,
        found.5,
      )

-- the row at an index is one of them
row_there : (rows : List Row) (i : ℕ) (row : Row) → slice_get rows i ≡ Some row → Contains rows row
row_there rows i row at = (i, slice_get_within rows i row at, get_or_from_slice_get rows i row row at)

-- an item of a list one of whose items was set is an item of the old one, or the new item
set_cases : (rows : List Row) (i : ℕ) (row x : Row) → Contains (slice_set rows i row) x → Contains rows x ⊎ (row ≡ x)
set_cases [] i row x h = inl h
set_cases (first ∷ rows) zero row x (zero, lt, e) = inr e
set_cases (first ∷ rows) zero row x (suc k, lt, e) = inl (suc k, lt, e)
set_cases (first ∷ rows) (suc i) row x (zero, lt, e) = inl (zero, omega arith, e)
set_cases (first ∷ rows) (suc i) row x (suc k, lt, e) = elim (set_cases rows i row x (k, omega (arith, lt), e)) [
  | inl old ↦ inl (suc old.0, (let few = old.1 in omega (arith, few)), old.2)
  | inr new ↦ inr new
]

-- one need stands at an index
same_need : (needs : List Need) (own : ℕ) (a b : Need) → slice_get needs own ≡ Some a → slice_get needs own ≡ Some b →
    a ≡ b
same_need needs own a b e f = let both : Some a ≡ Some b = sym e ∙ f in cc

module _ (vertices : List Vertex) (stands : Present → Type 0) (barred : List ℕ) (needs : List Need) where
  -- no rows, up to the first vertex
  pub knows_nothing : (w : Window) (known : Known) → known.rows.items ≡ [] → known.end ≡ 0 →
      Knows vertices stands barred needs w known
  knows_nothing w known none start = record {
    rows = λ need is row there. absurd (contains_none row (subst (λ (rs : List Row). Contains rs row) none there));
    order = λ need is. rw (none, start) (λ v lo hi of. absurd (omega (arith, hi)));
    lefts = λ need is. rw none (λ b left at t lo hi some. rw drop-nil (omega arith), omega arith);
  }

  -- over a later window that ends no sooner
  row_later : (w later : Window) (need : Need) (row : Row) → w.to ≤ later.to →
      IsRowOf vertices stands barred w need row → IsRowOf vertices stands barred later need row
  row_later w later need row le is = record {
    of_need = is.of_need;
    bounds = λ lt present here other reach.
        is.bounds lt present here other (reach.0, (let b = reach.1 in omega (arith, b, le)), reach.2);
  }

  -- and so all that is known
  pub knows_later : (w later : Window) (known : Known) → w.to ≤ later.to → Knows vertices stands barred needs w known →
      Knows vertices stands barred needs later known
  knows_later w later known le k = record {
    rows = λ need is row there. row_later w later need row le (k.rows need is row there);
    order = k.order;
    lefts = k.lefts;
  }

  -- a row is of the own need that is known
  pub row_known : (w : Window) (known : Known) (own : ℕ) (need : Need) (row : Row) → slice_get needs own ≡ Some need →
      known.own ≡ own → Contains known.rows.items row → Knows vertices stands barred needs w known →
      IsRowOf vertices stands barred w need row
  row_known w known own need row is same there k =
      k.rows need (ap (slice_get needs) same ∙ is) row there

  -- what is known is told of an own need, rows and an end
  abbrev KnowsRows : Window → ℕ → List Row → ℕ → Type 0
  KnowsRows w own rows end =
      ((need : Need) → slice_get needs own ≡ Some need → (row : Row) → Contains rows row →
      IsRowOf vertices stands barred w need row)
      × ((need : Need) → slice_get needs own ≡ Some need → StandFrom vertices need 0 rows end)

  -- and is so of what has them, and keeps what is told of what they leave
  knows_of : (w : Window) (old new : Known) (rows : List Row) (end : ℕ) → new.own ≡ old.own →
      new.rows.items ≡ rows → new.end ≡ end → KeepsLefts old new → Knows vertices stands barred needs w old →
      KnowsRows w old.own rows end → Knows vertices stands barred needs w new
  knows_of w old new rows end a b c keeps was k = record {
    rows = rw (a, b) k.0;
    order = rw (a, b, c) k.1;
    lefts = λ need is. keeps need (was.lefts need (ap (slice_get needs) (sym a) ∙ is));
  }

  -- nothing has changed but what is told of what the rows leave
  knows_same : (w : Window) (old new : Known) → new.own ≡ old.own → new.rows.items ≡ old.rows.items →
      new.end ≡ old.end → KeepsLefts old new → Knows vertices stands barred needs w old →
      Knows vertices stands barred needs w new
  knows_same w old new a b c keeps k =
      knows_of w old new old.rows.items old.end a b c keeps k (k.rows, k.order)

  -- a row has come in the place of one of the same vertex
  pub knows_put : (w : Window) (own : ℕ) (row : Row) (old new : Known) (need : Need) → slice_get needs own ≡ Some need →
      new.own ≡ old.own → IsPut own row old new → IsRowOf vertices stands barred w need row →
      Knows vertices stands barred needs w old → Knows vertices stands barred needs w new
  knows_put w own row old new need at same (keeps, inl put) is k = knows_same w old new same put.0 put.1 keeps k
  knows_put w own row old new need at same (keeps, inr put) is k =
      knows_of w old new (slice_set old.rows.items put.0 row) old.end same put.4 put.5 keeps k (
        λ other there x within. elim (set_cases old.rows.items put.0 row x within) [
          | inl before ↦ k.rows other there x before
          | inr this ↦ subst (IsRowOf vertices stands barred w other) this
              (subst (λ (n : Need). IsRowOf vertices stands barred w n row)
              (same_need needs own need other at (ap (slice_get needs) (sym put.6) ∙ there)) is)
        ],
        λ other there. stand_set vertices other 0 old.end put.0 old.rows.items put.1 row put.2 put.3
            (k.order other there),
      )

  -- or behind the others, which were of the vertices before `from`
  pub knows_noted : (w : Window) (own from past : ℕ) (row : Row) (old new : Known) (need : Need) →
      slice_get needs own ≡ Some need → new.own ≡ old.own → IsNoted own from past row old new →
      NoneOfNeed vertices need from row.vertex → NoneOfNeed vertices need (row.vertex + 1) past →
      IsRowOf vertices stands barred w need row →
      Knows vertices stands barred needs w old → Knows vertices stands barred needs w new
  knows_noted w own from past row old new need at same (inl put) before after is k =
      knows_put w own row old new need at same put is k
  knows_noted w own from past row old new need at same (inr noted) before after is k =
      knows_of w old new (old.rows.items ++ row ∷ []) past same noted.1 noted.3 noted.0 k (
        λ other there x within. elim (Contains-push_cases old.rows.items row x within) [
          | inl first ↦ k.rows other there x first
          | inr this ↦ subst (IsRowOf vertices stands barred w other) this
              (subst (λ (n : Need). IsRowOf vertices stands barred w n row)
              (same_need needs own need other at (ap (slice_get needs) (sym noted.4) ∙ there)) is)
        ],
        λ other there.
            let e = same_need needs own need other at (ap (slice_get needs) (sym noted.4) ∙ there) in
            subst (λ (n : Need). StandFrom vertices n 0 (old.rows.items ++ row ∷ []) past) e
            (stand_push vertices need 0 from past old.rows.items row before after
            (subst (StandFrom vertices need 0 old.rows.items) noted.2
            (k.order need (ap (slice_get needs) noted.4 ∙ at)))),
      )

  -- the end has come to where a stretch with none of the need ends
  pub knows_passed : (w : Window) (own from to : ℕ) (old new : Known) (need : Need) → slice_get needs own ≡ Some need →
      new.own ≡ old.own → new.rows.items ≡ old.rows.items → new.blocks.items ≡ old.blocks.items →
      ((new.end ≡ old.end) ⊎ ((old.end ≡ from) × (new.end ≡ to) × (old.own ≡ own))) →
      NoneOfNeed vertices need from to →
      Knows vertices stands barred needs w old → Knows vertices stands barred needs w new
  knows_passed w own from to old new need at same rows blocks (inl end) none k =
      knows_same w old new same rows end (keeps_same old new rows blocks) k
  knows_passed w own from to old new need at same rows blocks (inr end) none k =
      knows_of w old new old.rows.items to same rows end.1 (keeps_same old new rows blocks) k (
        k.rows,
        λ other there.
            let e = same_need needs own need other at (ap (slice_get needs) (sym end.2) ∙ there) in
            subst (λ (n : Need). StandFrom vertices n 0 old.rows.items to) e
            (stand_further vertices need 0 from to old.rows.items none
            (subst (StandFrom vertices need 0 old.rows.items) end.0
            (k.order need (ap (slice_get needs) end.2 ∙ at)))),
      )

  -- nothing is known of the other need
  pub knows_turned : (w : Window) (own : ℕ) (old new : Known) → new.own ≡ own →
      (((old.own ≡ own) × (new.rows.items ≡ old.rows.items) × (new.end ≡ old.end)
      × (new.blocks.items ≡ old.blocks.items))
      ⊎ ((new.rows.items ≡ []) × (new.end ≡ 0))) →
      Knows vertices stands barred needs w old → Knows vertices stands barred needs w new
  knows_turned w own old new same (inl kept) k =
      knows_same w old new (same ∙ sym kept.0) kept.1 kept.2 (keeps_same old new kept.1 kept.3) k
  knows_turned w own old new same (inr gone) k = knows_nothing w new gone.0 gone.1

-- at least 1 is ever asked of a vertex
whole_some : (vertices : List Vertex) (need : Need) → IsValidNeed vertices need → 1 ≤ whole_of need
whole_some vertices (Vert' kind count hold m needs) v = omega arith
whole_some vertices (Pool kind quantity) v = v.0
whole_some vertices (Spread' count m needs) v = v.0

-- a row of nothing tells that the vertex serves nothing over the window itself
row_none : (g : ResourceGraph) (stands : Present → Type 0) (barred : List ℕ) (w : Window) (need : Need)
    (row : Row) → IsValidNeed g.vertices need → IsRowOf g.vertices stands barred w need row → row.most ≡ 0 →
    w.from ≤ row.moment → w.from < w.to → InEach stands (λ present. (scope : Scope) (q : ℕ) → 1 ≤ q →
    CanServe g.vertices (open_to g.vertices present barred w) scope need row.vertex q → ⊥)
row_none g stands barred w need row valid is none le opens present here scope q some can =
    let whole = whole_some g.vertices need valid in
    is.bounds (omega (arith, none, whole)) present here w (reach_all w row.moment le opens) scope q
    (omega (arith, none, some)) can

-- and so does one of those that are known
pub none_at : (g : ResourceGraph) (stands : Present → Type 0) (barred : List ℕ) (needs : List Need) (w : Window)
    (known : Known) (own : ℕ) (need : Need) → IsValidNeed g.vertices need → slice_get needs own ≡ Some need →
    known.own ≡ own → Knows g.vertices stands barred needs w known → w.from < w.to →
    InEach stands (λ present. (scope : Scope) (v q : ℕ) → 1 ≤ q →
    CanServe g.vertices (open_to g.vertices present barred w) scope need v q →
    (i : ℕ) (row : Row) → slice_get known.rows.items i ≡ Some row → row.vertex ≡ v → IsNone w.from row → ⊥)
none_at g stands barred needs w known own need valid of_own same knows opens present here scope v q some can i row at is
    none =
    row_none g stands barred w need row valid
    (row_known g.vertices stands barred needs w known own need row of_own same (row_there known.rows.items i row at)
    knows)
    none.0 none.1 opens present here scope q some
    (subst (λ (u : ℕ). CanServe g.vertices (open_to g.vertices present barred w) scope need u q) (sym is) can)

module _ (g : ResourceGraph) (stands : Present → Type 0) (barred : List ℕ) (w other : Window) (need : Need)
    (until : ℕ) (reach : ReachesOver w until other) (present : Present) (here : stands present) where
  abbrev ok : Claim → Type 0
  ok = open_to g.vertices present barred other

  abbrev can : ℕ → ℕ → Type 0
  can = CanServe g.vertices ok Everywhere need

  -- no vertex serves more than is ever asked of one, where that is less than all of the need
  none_past_whole : (asked : Need) (n v q : ℕ) → whole_of asked ≤ n → n < amount_of asked → n < q →
      CanServe g.vertices ok Everywhere asked v q → ⊥
  none_past_whole (Vert' kind count hold m needs) n v q le few lt c =
      let one : q ≡ 1 = c.1.0 in omega (arith, le, lt, one)
  none_past_whole (Pool kind quantity) n v q le few lt c = omega (arith, le, few)
  none_past_whole (Spread' count m needs) n v q le few lt c = omega (arith, le, few)

  -- no vertex of a stretch with none of the need serves
  none_serves : (low to : ℕ) → NoneOfNeed g.vertices need low to → NoneBetween can low to
  none_serves low to none v q lo hi some c = none v lo hi (server g.vertices ok Everywhere need v q c).0

  -- the vertex of a row serves no more than what the row leaves it, where that is less than all of the need
  at_most : (row : Row) → IsRowOf g.vertices stands barred w need row → bound_at need until row < amount_of need →
      (q : ℕ) → bound_at need until row < q → can row.vertex q → ⊥
  at_most row is few q lt c = elim (leb_tells until row.moment) [
    | inl within ↦
        let same : bound_at need until row ≡ row.most = rw within.0 refl in
        elim (cases_lt row.most (whole_of need)) [
          | inl less ↦ is.bounds less present here other (reach_later w other until row.moment within.1 reach)
              Everywhere q
              (omega (arith, same, lt)) c
          | inr all ↦
              none_past_whole need (bound_at need until row) row.vertex q (omega (arith, same, all)) few lt c
        ]
    | inr past ↦
        let same : bound_at need until row ≡ whole_of need = rw past.0 refl in
        none_past_whole need (bound_at need until row) row.vertex q (omega (arith, same)) few lt c
  ]

  -- down the rows something is lacking, and so at the end
  down_rows : (rows : List Row) (low lacking : ℕ) → StandFrom g.vertices need low rows (length g.vertices) →
      ((row : Row) → Contains rows row → IsRowOf g.vertices stands barred w need row) → lacking ≤ amount_of need →
      served_most need until rows < lacking → Lacks can (1 * amount_of need) low lacking →
      CanFill can 0 (1 * amount_of need) → ⊥
  down_rows [] low lacking stand each le few lacks =
      lacks_end can (serves_less g.vertices ok (takes_less _ _) Everywhere need) (1 * amount_of need) low lacking
      (λ v q lo some c. let s = server g.vertices ok Everywhere need v q c in
      stand v lo (in_graph g.vertices Everywhere v s.1) s.0) few lacks
  down_rows (row ∷ rows) low lacking stand each le few lacks =
      let total = 1 * amount_of need in
      let n = bound_at need until row in
      let sum : served_most need until (row ∷ rows) ≡ n + served_most need until rows =
      sum_by-cons (bound_at need until) row rows in
      down_rows rows (row.vertex + 1) (lacking - n) stand.1
      (λ r within. each r (suc within.0, (let lt = within.1 in omega (arith, lt)), within.2)) (omega (arith, le))
      (omega (arith, few, sum))
      (lacks_next can (serves_less g.vertices ok (takes_less _ _) Everywhere need) total row.vertex lacking n
      (at_most row (each row (0, omega arith, refl)) (omega (arith, few, sum, le)))
      (lacks_over can total low row.vertex lacking (none_serves low row.vertex stand.0) lacks))

-- rows of all vertices of a need which leave less than its amount tell that it has no group
pub rows_refute : (g : ResourceGraph) (stands : Present → Type 0) (barred : List ℕ) (w other : Window) (need : Need)
    (rows : List Row) (until : ℕ) → IsValidNeed g.vertices need →
    StandFrom g.vertices need 0 rows (length g.vertices) →
    ((row : Row) → Contains rows row → IsRowOf g.vertices stands barred w need row) → ReachesOver w until other →
    served_most need until rows < amount_of need →
    InEach stands (λ present. SomeGroup g.vertices (open_to g.vertices present barred other) Everywhere need
    (1 * amount_of need) → ⊥)
rows_refute g stands barred w other need rows until valid stand each reach few present here group =
    let total : 1 * amount_of need ≡ amount_of need = omega arith in
    down_rows g stands barred w other need until reach present here rows 0 (amount_of need) stand each (omega arith) few
    (λ f. subst (CanFill (can g stands barred w other need until reach present here) 0) total f)
    (group_to g.vertices (open_to g.vertices present barred other) Everywhere need (1 * amount_of need) group)

-- the row of a vertex of the need among vertices that serve nothing until a moment
pub none_row : (vertices : List Vertex) (stands : Present → Type 0) (barred : List ℕ) (w : Window) (need : Need)
    (v moment top past : ℕ) → IsOfNeed vertices need v → top ≤ v → v < past →
    (InEach stands (λ present. (other : Window) → ReachesOver w moment other →
    ServesNone vertices (open_to vertices present barred other) need top past)) →
    IsRowOf vertices stands barred w need (record { vertex = v; most = 0; moment = moment })
none_row vertices stands barred w need v moment top past is lo hi none = record {
  of_need = is;
  bounds = λ some present here other reach scope q lt can. none present here other reach scope v q lo hi
      (omega (arith, lt))
      can;
}
