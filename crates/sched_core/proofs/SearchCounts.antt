-- How many steps a search takes.
use Rattle.std.proofs.Common.{◌≡◌, ℕ, zero, suc, ◌+◌, ◌-◌, ◌*◌, ◌<◌, ◌≤◌, Bool, true, false, cond, ◌||◌, List, [], ◌∷◌}
use Rattle.std.proofs.Common.{length, get_or, map, is_some, Some, None, Option, ◌⊎◌, slice_get, refl, sym, ◌∙◌, ap}
use Rattle.std.proofs.Common.{subst, arith, true≢false, Contains}
use Rattle.std.specs.Prelude.{IsSome, Any}
use Rattle.std.specs.List.{list_any}
use Rattle.std.specs.Ordering.{nat_cmp, eq_by_cmp}
use Rattle.std.specs.FinMap.{FinMap, get, len, remove, entries, get-entries, get-remove, len-entries, len-remove}
use Rattle.std.specs.FinMap.{contains_key}
use Rattle.std.specs.FinMap.Entries.{find, is_some-find}
use Rattle.std.proofs.lemmas.Cmp.{nat_cmp_total, eq_by_cmp_equiv}
use Rattle.std.proofs.Math.Nat.{mul-le-mul_left}
use Rattle.std.specs.Prelude.{codes, Result, Ok, Err}
use Rattle.std.specs.Result.{IsErr}
use Rattle.flux_defs.specs.declared.verdicts.Verdict.{Verdict}
use Rattle.std.specs.Option.{IsSomeAnd}
use Rattle.flux_defs.specs.declared.vertices.Vertex.{Vertex}
use Rattle.flux_defs.specs.declared.requests.Ask.{Ask}
use Rattle.flux_defs.specs.declared.journal.Command.{Command}
use Rattle.flux_defs.specs.declared.journal.Command.TheVariants as command
use Rattle.flux_defs.specs.Asks.{window_of}
use Rattle.flux_defs.specs.Digits.{dig}
use Rattle.flux_defs.proofs.DigitLaws.{dig_mono}
use Rattle.flux_defs.specs.Scheduler.{present_of}
use Rattle.flux_defs.specs.Present.{Present, InEach, IsUpWith}
use Rattle.resource_graph.specs.NamedGraph.{NamedGraph}
use Rattle.book_laws.specs.Grouped.{count_claims}
use Rattle.earliest_search.proofs.TriedLaws.{enough_more, tries_along, tries_later}
use Rattle.book_state.specs.Books.{graph_of, rules_of, accounts_of, rows_of, moment_of, StandsFor, IsPairKept}
use Rattle.book_state.specs.Books.{IsTotalKept, cost_of}
use Rattle.sched_core.specs.declared.held.Site.{Site}
use Rattle.sched_core.specs.declared.held.Kept.{Kept}
use Rattle.sched_core.specs.declared.finding.Starts.{Starts}
use Rattle.sched_core.specs.declared.finding.Starts.TheVariants as starts
use Rattle.sched_core.specs.Courses.{left_by, journal_in, vertices_at, graph_at, setting_in, pair_of, IsCore}
use Rattle.sched_core.specs.SearchCosts.{SearchTakes, CommandTakes, CourseTakes, IsKindKeptAt, last_in, satisfy_most}
use Rattle.sched_core.proofs.Searched.{has_row}

-- a map of no more keys than the list that has them
module _ {X : Type 0} where
  none_left : (m : FinMap nat_cmp X) → ((k : ℕ) → IsSome (get m k) → ⊥) → (es : List (ℕ × X)) → entries m ≡ es → len m
      ≡ 0
  none_left m none [] e = len-entries m ∙ ap length e
  none_left m none (x ∷ es) e = absurd (none x.0 (
      ap is_some (get-entries m x.0 ∙ ap (find nat_cmp x.0) e)
      ∙ (is_some-find nat_cmp x.0 (x ∷ es)
      ∙ ap (λ b. b || list_any (eq_by_cmp nat_cmp x.0) (map (λ y. y.0) es)) ((eq_by_cmp_equiv nat_cmp_total).refl
      x.0))))

  pub len_within : (ks : List ℕ) (m : FinMap nat_cmp X) → ((k : ℕ) → IsSome (get m k) → Contains ks k) → len m ≤
      length ks
  len_within [] m has = let e = none_left m (λ k some. let c = has k some in let lt : c.0 < 0 = c.1 in omega (
    arith,
    lt,
  )) (entries m) refl in omega (arith, e)
  len_within (x ∷ ks) m has =
      let rest = len_within ks (remove m x) (λ k some. in_rest k (eq_by_cmp nat_cmp k x) refl some) in
      let one = fewer (contains_key m x) (len m) in
      let e = len-remove nat_cmp_total m x in
      omega (arith, rest, one, e)
    where
      fewer : (b : Bool) (n : ℕ) → n ≤ cond b (n - 1) n + 1
      fewer true n = omega arith
      fewer false n = omega arith

      later : (k : ℕ) → eq_by_cmp nat_cmp k x ≡ false → Contains (x ∷ ks) k → Contains ks k
      later k other c = at c.0 c.1 c.2
        where
          at : (i : ℕ) → i < length (x ∷ ks) → get_or (x ∷ ks) i k ≡ k → Contains ks k
          at zero lt e = absurd (true≢false (sym ((eq_by_cmp_equiv nat_cmp_total).refl k) ∙ (ap (λ y. eq_by_cmp
              nat_cmp k y) (sym e) ∙ other)))
          at (suc i) lt e = (i, omega arith, e)

      in_rest : (k : ℕ) (b : Bool) → eq_by_cmp nat_cmp k x ≡ b → IsSome (get (remove m x) k) → Contains ks k
      in_rest k true e some = absurd (true≢false (sym some ∙ ap is_some (get-remove nat_cmp_total m x k ∙ ap (λ c.
          cond c None (get m k)) e)))
      in_rest k false e some = later k e (has k (ap is_some (sym (get-remove nat_cmp_total m x k ∙ ap (λ c. cond c
          None (get m k)) e)) ∙ some))

-- on want of memory all is tried
pub last_err : {E : Type 0} (horizon : ℕ) (r : Result Verdict E) → IsErr r → last_in horizon r ≡ horizon
last_err horizon (Ok v) h = absurd (true≢false (sym h))
last_err horizon (Err e) h = refl

any_map : {X Y : Type 0} (f : X → Y) (P : Y → Type 0) (xs : List X) → Any P (map f xs) → Any (λ x. P (f x)) xs
any_map f P [] (i, y, lt, e, p) = absurd (omega arith)
any_map f P (x ∷ xs) (zero, y, lt, e, p) = (0, x, omega arith, refl, subst P (sym e) p)
any_map f P (x ∷ xs) (suc i, y, lt, e, p) =
    let r = any_map f P xs (i, y, omega arith, e, p) in
    (suc r.0, r.1, (let less : r.0 < length xs = r.2 in omega arith), r.3, r.4)

some_along : {X : Type 0} (o : Option X) (P Q : X → Type 0) → ((x : X) → P x → Q x) → IsSomeAnd o P → IsSomeAnd o Q
some_along None P Q along h = elim h [ ]
some_along (Some x) P Q along h = along x h

-- what the setting's rules keep, the book keeps
keeps_at : (site : Site) (kept : Kept) → graph_of kept.book ≡ graph_at site → (v kind : ℕ) →
    IsKindKeptAt (setting_in site kept) v kind → IsTotalKept kept.book v kind
keeps_at site kept same v kind h =
    let rules = rules_of kept.book in
    subst (λ (n : NamedGraph). IsSomeAnd (slice_get n.resources.vertices v) (λ x. IsPairKept n rules x.kind kind)) (sym
    same)
    (some_along (slice_get (vertices_at site) v) _ _ (λ x. some_along (slice_get (graph_at site).resources.kinds
    x.kind) _ _
    (λ high. some_along (slice_get (graph_at site).resources.kinds kind) _ _
    (λ low any. any_map pair_of (λ pair. (pair.1 ≡ low) × ((pair.0 ≡ high) ⊎ (pair.0 ≡ codes "ALL"))) rules any))) h)

module _ (vertices : List Vertex) (present : Present) (horizon moment : ℕ) where
  -- nothing is searched
  pub search_none : (keeps : ℕ → ℕ → Type 0) (cost : ℕ) (at : Starts) (ask : Ask) (last old new : ℕ) → new ≤ old →
      SearchTakes vertices present keeps cost horizon moment at ask last old new
  search_none keeps cost starts.Now ask last old new le = λ looks enough. omega (arith, le)
  search_none keeps cost starts.Earliest ask last old new le = λ tried looks has enough. omega (arith, le)

  -- fewer steps before
  pub search_later : (keeps : ℕ → ℕ → Type 0) (cost : ℕ) (at : Starts) (ask : Ask) (last old start new : ℕ) → start ≤
      old →
      SearchTakes vertices present keeps cost horizon moment at ask last start new →
      SearchTakes vertices present keeps cost horizon moment at ask last old new
  search_later keeps cost starts.Now ask last old start new le takes = λ looks enough.
      let t = takes looks enough in omega (arith, le, t)
  search_later keeps cost starts.Earliest ask last old start new le takes =
      tries_later vertices present horizon ask moment keeps cost last last old start new (omega arith) le takes

  -- more totals are kept, and an answer costs less
  module _ (few more : ℕ → ℕ → Type 0) (along : (v kind : ℕ) → few v kind → more v kind) (cost most : ℕ)
      (le : cost ≤ most) where
    search_along : (at : Starts) (ask : Ask) (last old new : ℕ) →
        SearchTakes vertices present more cost horizon moment at ask last old new →
        SearchTakes vertices present few most horizon moment at ask last old new
    search_along starts.Now ask last old new takes = λ looks enough.
        let t = takes looks (enough_more vertices present (window_of horizon ask moment) few more along ask.needs looks
        enough) in
        let more' : looks * cost ≤ looks * most = mul-le-mul_left looks le in
        omega (arith, t, more')
    search_along starts.Earliest ask last old new takes =
        tries_along vertices present horizon ask moment few more along cost most last old new le takes

    command_along : (find finds : ℕ) → find ≤ finds → (c : Command) (last old new : ℕ) →
        CommandTakes vertices present more cost horizon moment find c last old new →
        CommandTakes vertices present few most horizon moment finds c last old new
    command_along find finds fewer (command.Allocate id ask) last old new takes =
        search_later few most starts.Now ask last (old + finds + satisfy_most vertices ask)
        (old + find + satisfy_most vertices ask) new (omega (arith, fewer))
        (search_along starts.Now ask last (old + find + satisfy_most vertices ask) new takes)
    command_along find finds fewer (command.Reserve id ask) last old new takes =
        search_later few most starts.Earliest ask last (old + finds + satisfy_most vertices ask)
        (old + find + satisfy_most vertices ask) new (omega (arith, fewer))
        (search_along starts.Earliest ask last (old + find + satisfy_most vertices ask) new takes)
    command_along find finds fewer (command.Satisfy ask) last old new takes = takes
    command_along find finds fewer (command.Cancel id) last old new takes = tt
    command_along find finds fewer (command.Info id) last old new takes = tt
    command_along find finds fewer (command.Advance to) last old new takes = tt
    command_along find finds fewer (command.Invalid why) last old new takes = tt

-- what is taken over the book is taken in the state of the course
pub course_takes : (site : Site) (kept : Kept) → IsCore site kept → (c : Command) (last old new : ℕ) →
    InEach (IsUpWith (StandsFor kept.book)) (λ present.
    CommandTakes (vertices_at site) present (IsTotalKept kept.book) (cost_of kept.book) site.horizon
    (moment_of kept.book) (16 * dig (len (rows_of kept.book) + 2)) c last old new) →
    CourseTakes (record { setting = setting_in site kept; journal = journal_in kept }) c last old new
course_takes site kept core c last old new takes =
    let s = left_by (journal_in kept) in
    let of = core.book-of in
    let digits = dig (2 * count_claims s.jobs + length s.used + 4) in
    let count : (accounts_of kept.book).count ≡ count_claims s.jobs = of.jobs.accounts_are.count in
    let few : len (rows_of kept.book) ≤ length s.used = len_within s.used (rows_of kept.book)
    (λ k some. (has_row (journal_in kept) s k (get (rows_of kept.book) k) (of.table k)).0 some) in
    let view : cost_of kept.book ≤ 512 * digits =
    mul-le-mul_left 512 (dig_mono (2 * (accounts_of kept.book).count + len (rows_of kept.book) + 4)
    (2 * count_claims s.jobs + length s.used + 4) (omega (arith, count, few))) in
    let find : 16 * dig (len (rows_of kept.book) + 2) ≤ 16 * digits =
    mul-le-mul_left 16 (dig_mono (len (rows_of kept.book) + 2) (2 * count_claims s.jobs + length s.used + 4)
    (omega (arith, few))) in
    command_along (vertices_at site) (present_of s) site.horizon s.moment (IsKindKeptAt (setting_in site kept))
    (IsTotalKept kept.book) (keeps_at site kept core.graph-is) (cost_of kept.book) (512 * digits) view
    (16 * dig (len (rows_of kept.book) + 2)) (16 * digits) find c last old new
    (subst (λ m. CommandTakes (vertices_at site) (present_of s) (IsTotalKept kept.book) (cost_of kept.book)
    site.horizon m
    (16 * dig (len (rows_of kept.book) + 2)) c last old new) of.moment (takes (present_of s) (of.jobs, refl)))
