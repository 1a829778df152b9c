-- From the accounts of a book to the book.
use Rattle.std.proofs.Common.{◌≡◌, ℕ, ◌+◌, ◌*◌, ◌<◌, ◌≤◌, List, [], ◌∷◌, ◌++◌, length, Option, Some, None, IfSome}
use Rattle.std.proofs.Common.{MatchOption}
use Rattle.std.proofs.Common.{slice_get, sym, ap, subst, arith}
use Rattle.std.specs.Option.{IsSomeAnd}
use Rattle.std.specs.FinMap.{len}
use Rattle.flux_defs.specs.declared.vertices.Vertex.{Vertex}
use Rattle.flux_defs.specs.declared.claims.Job.{Job}
use Rattle.flux_defs.specs.declared.claims.Window.{Window}
use Rattle.flux_defs.specs.Digits.{dig}
use Rattle.flux_defs.specs.Jobs.{SomeMoment}
use Rattle.flux_defs.specs.Free.{IsTooLittle, IsTooLittleAt}
use Rattle.flux_defs.specs.Later.{IsSoUntil, ReachesOver}
use Rattle.flux_defs.specs.Views.{MayBeAsked}
use Rattle.plain_jobs.proofs.Later.{so_through}
use Rattle.resource_graph.specs.NamedGraph.{NamedGraph, IsWhole}
use Rattle.prune_filters.specs.Filters.{IsKept}
use Rattle.prune_filters.specs.Amples.{IsNextAmpleOrNone}
use Rattle.planner_min_tree.specs.Plans as Plans
use Rattle.planner_min_tree.specs.Plans.{Plan}
use Rattle.vertex_planners.specs.Lists.{items_of}
use Rattle.vertex_planners.specs.Work.{CostWithin}
use Rattle.vertex_accounts.specs.declared.books.Accounts.{Accounts}
use Rattle.vertex_accounts.specs.Costs.{look_most, closed_most, accounts_most}
use Rattle.vertex_accounts.specs.Books.{AreAccountsOf, AreAccounts, HasPlace, HasTotals, types_of}
use Rattle.vertex_accounts.specs.Moments.{IsMomentOrNone, IsThroughOrNone}
use Rattle.book_state.specs.declared.held.Kept.{Kept}
use Rattle.book_state.specs.Books.{graph_of, vertices_of, rules_of, accounts_of, rows_of, IsPairKept, IsTotalKept}
use Rattle.book_state.specs.Books.{StandsFor, IsBook, MayAdd, cost_of, change_cost_of}
use Rattle.flux_defs.specs.Closed.{no_bars}
use Rattle.flux_defs.specs.Available.{IsAvailable}
use Rattle.flux_defs.specs.Present.{Present, up_with, IsUpWith}
use Rattle.flux_defs.proofs.Presents.{as_up}
use Rattle.list_laws.proofs.Values.{value_of}
use Rattle.book_laws.specs.Amounts.{TakesFromPool}
use Rattle.book_laws.specs.TotalLaws.{AreFair}
use Rattle.book_laws.proofs.Adding.{fair_added}
use Rattle.book_state.proofs.BookLaws.{both_of}
use Rattle.book_state.proofs.CostLaws.{change_cost, all_cost, all_change, times_cost, times_change, answer_covered}
use Rattle.book_state.proofs.CostLaws.{ample_covered, next_covered, change_covered}

module _ (g : NamedGraph) (a : Accounts Plan) (book : Kept) (eg : g ≡ graph_of book) (ea : a ≡ accounts_of book) where
  pub accounts_at : (jobs : List Job) →
      StandsFor book jobs → AreAccounts (λ (p : Plan). p.total) Plans.StandsFor g.resources.vertices jobs a
  accounts_at jobs x =
      subst (AreAccounts (λ (p : Plan). p.total) Plans.StandsFor g.resources.vertices jobs) (sym ea)
      (subst (λ (h : NamedGraph). AreAccounts
      (λ (p : Plan). p.total) Plans.StandsFor h.resources.vertices jobs (accounts_of book)) (sym eg) x.accounts_are)

  pub graph_at : IsBook book → AreAccountsOf g.resources.vertices a
  graph_at is = (accounts_at is.0 is.1).graph

  pub answer_at : (Q : List Vertex → List Job → Type 0) → ((jobs : List Job) →
      AreAccounts (λ (p : Plan). p.total) Plans.StandsFor g.resources.vertices jobs a → Q g.resources.vertices jobs) →
      (jobs : List Job) → StandsFor book jobs → Q (vertices_of book) jobs
  answer_at Q f jobs x = subst (λ (h : NamedGraph). Q h.resources.vertices jobs) eg (f jobs (accounts_at jobs x))

  -- the same of all that may stand: the jobs, and every vertex up
  pub present_at : (Q : List Vertex → Present → Type 0) → ((jobs : List Job) →
      AreAccounts (λ (p : Plan). p.total) Plans.StandsFor g.resources.vertices jobs a →
      Q g.resources.vertices (up_with jobs)) →
      (present : Present) → IsUpWith (StandsFor book) present → Q (vertices_of book) present
  present_at Q f present is = as_up (Q (vertices_of book)) present is.1
      (answer_at (λ vs jobs. Q vs (up_with jobs)) f present.jobs is.0)

  -- what follows from any jobs for which the book stands
  pub any_at : IsBook book → (Q : Type 0) → ((jobs : List Job) →
      AreAccounts (λ (p : Plan). p.total) Plans.StandsFor g.resources.vertices jobs a → Q) → Q
  any_at is Q f = f is.0 (accounts_at is.0 is.1)

  pub place_at : (kind place : ℕ) → HasPlace (accounts_of book) kind place → HasPlace a kind place
  place_at kind place is = subst (λ (x : Accounts Plan). HasPlace x kind place) (sym ea) is

  pub asked_at : (v : ℕ) (w : Window) → MayBeAsked (vertices_of book) v w → MayBeAsked g.resources.vertices v w
  asked_at v w asked = record {
    within = subst (λ (h : NamedGraph). v < length h.resources.vertices) (sym eg) asked.within;
    opens = asked.opens;
  }

  pub work_at : IsBook book → IsWhole g → (old new : ℕ) →
      ((n : ℕ) → CostWithin (λ (p : Plan). 16 * dig (length p.points + 2)) n (items_of a.planners) →
      new ≤ old + (closed_most (length g.resources.vertices) n + 2 * n)) → new ≤ old + cost_of book
  work_at is whole old new work =
      let at = accounts_at is.0 is.1 in
      let w = work (16 * dig (2 * a.count + 2)) (all_cost a g.resources.vertices is.0 at) in
      let c = answer_covered (length g.resources.vertices) a.count (len (rows_of book)) whole.valid.few in
      let same = ap (λ (x : Accounts Plan). 512 * dig (2 * x.count + len (rows_of book) + 4)) ea in
      omega (arith, w, c, same)

  pub ample_at : IsBook book → IsWhole g → (old new : ℕ) →
      ((n : ℕ) → CostWithin (λ (p : Plan). 16 * dig (length p.points + 2)) n (items_of a.planners) →
      new ≤ old + (16 * dig (length a.times.points + 2) + 1 + look_most (length g.resources.vertices) n)) →
      new ≤ old + cost_of book
  ample_at is whole old new work =
      let at = accounts_at is.0 is.1 in
      let w = work (16 * dig (2 * a.count + 2)) (all_cost a g.resources.vertices is.0 at) in
      let t = times_cost a g.resources.vertices is.0 at (len (rows_of book)) is.1.few in
      let c = ample_covered (length g.resources.vertices) a.count (len (rows_of book)) whole.valid.few in
      let same = ap (λ (x : Accounts Plan). 512 * dig (2 * x.count + len (rows_of book) + 4)) ea in
      omega (arith, w, t, c, same)

  pub ample_later_at : IsBook book → (kind amount after : ℕ) (found : Option ℕ) →
      ((jobs : List Job) → AreAccounts (λ (p : Plan). p.total) Plans.StandsFor g.resources.vertices jobs a →
      IsNextAmpleOrNone g.resources.vertices (up_with jobs) kind amount after found) →
      IfSome found (λ t. after < t)
  ample_later_at is kind amount after found answer = later found (answer is.0 (accounts_at is.0 is.1))
    where
      later : (o : Option ℕ) →
          IsNextAmpleOrNone g.resources.vertices (up_with is.0) kind amount after o → IfSome o (λ t. after < t)
      later None h = tt
      later (Some t) h = h.later

  -- a job of so many claims more or less
  pub change_at : IsBook book → IsWhole g → (claims old mid new : ℕ) →
      ((most : ℕ) → CostWithin change_cost most (items_of a.planners) →
      mid ≤ old + (accounts_most (length g.resources.vertices) most (types_of a) claims + change_cost a.times)) →
      new ≤ mid + 256 * dig (len (rows_of book) + 2) → new ≤ old + change_cost_of book claims
  change_at is whole claims old mid new work row =
      let at = accounts_at is.0 is.1 in
      let rules = length (rules_of book) in
      let types : types_of a ≤ rules = subst (λ (x : Accounts Plan). types_of x ≤ rules) (sym ea) is.1.types in
      let covered = change_covered (length g.resources.vertices) a.count
      (len (rows_of book)) (types_of a) rules claims (change_cost a.times) old mid new
      whole.valid.few types (times_change a g.resources.vertices is.0 at (len (rows_of book)) is.1.few)
      (work (256 * dig (2 * a.count + 2)) (all_change a g.resources.vertices is.0 at)) row in
      subst (λ (x : Accounts Plan).
      new ≤ old + 8192 * (claims + 1) * (1 + rules) * dig (2 * x.count + len (rows_of book) + 4)) ea covered

-- the accounts keep totals of each type of which the rules keep one at some vertex
pub kind_kept : (a : Accounts Plan) (book : Kept) → a ≡ accounts_of book → (jobs : List Job) → StandsFor book jobs →
    (v kind : ℕ) → IsTotalKept book v kind → HasTotals a kind
kind_kept a book ea jobs is v kind keeps =
    let kinds = (graph_of book).resources.kinds in
    let rules = rules_of book in
    let (x, at, pair) =
    value_of (slice_get (vertices_of book) v) (λ x. IsPairKept (graph_of book) rules x.kind kind) keeps in
    let (high, upper, some) =
    value_of (slice_get kinds x.kind) (λ high. IsSomeAnd (slice_get kinds kind) (λ low. IsKept rules high low)) pair in
    let (low, lower, rule) = value_of (slice_get kinds kind) (λ low. IsKept rules high low) some in
    subst (λ (b : Accounts Plan). HasTotals b kind) (sym ea)
    (is.kinds kind low lower (rule.0, rule.1, rule.2, rule.3, rule.4.0))

-- a moment is told at which a total is too little, and none where it is at no moment, if it is kept
abbrev pub LittleTold : List Vertex → Window → ℕ → ℕ → ℕ → Type 0 → Option ℕ → Present → Type 0
LittleTold vertices w v kind amount Keeps found present =
    MatchOption found (Keeps → IsTooLittle vertices present w v kind amount → ⊥)
    (IsTooLittleAt vertices present v kind amount)

-- it is told until when a total is too little, and none where it is at no moment, if it is kept
abbrev pub LittleKept : List Vertex → Window → ℕ → ℕ → ℕ → Type 0 → Option ℕ → Present → Type 0
LittleKept vertices w v kind amount Keeps found present =
    MatchOption found (Keeps → IsTooLittle vertices present w v kind amount → ⊥)
    (λ m. (other : Window) → ReachesOver w m other → IsTooLittle vertices present other v kind amount)

-- what the accounts tell of a total that is too little
module _ (w : Window) (vertices : List Vertex) (jobs : List Job) (v kind amount : ℕ) where
  abbrev pub LittleOrNone : Option ℕ → Type 0
  LittleOrNone found = IsMomentOrNone w (IsTooLittleAt vertices (up_with jobs) v kind amount) found

  pub little_told : (Keeps : Type 0) → (found : Option ℕ) → LittleOrNone found →
      LittleTold vertices w v kind amount Keeps found (up_with jobs)
  little_told Keeps None none = λ keeps. none
  little_told Keeps (Some m) some = some.2

  pub little_within : (found : Option ℕ) → LittleOrNone found → IfSome found (λ m. (w.from ≤ m) × (m < w.to))
  little_within None none = tt
  little_within (Some m) some = (some.0, some.1)

-- until when it is so, of what is so from a moment of the window through another one
module _ (w : Window) (P : ℕ → Type 0) where
  pub so_until : (found : Option ℕ) → IsThroughOrNone w P found → IsSoUntil (λ other. SomeMoment other P) w found
  so_until None none = none
  so_until (Some m) so = λ other reach. so_through P w other so.0 m so.2 so.3 so.4 reach

  -- the same where it is only told of what is kept that it is so at no moment
  pub kept_until : (Keeps : Type 0) → (found : Option ℕ) → IsThroughOrNone w P found →
      MatchOption found (Keeps → SomeMoment w P → ⊥)
      (λ m. (other : Window) → ReachesOver w m other → SomeMoment other P)
  kept_until Keeps None none = λ keeps. none
  kept_until Keeps (Some m) so = so_until (Some m) so

  pub until_within : (found : Option ℕ) → IsThroughOrNone w P found → IfSome found (λ m. w.from ≤ m)
  until_within None none = tt
  until_within (Some m) so =
      let low : w.from ≤ so.0 = so.1 in
      let le : so.0 ≤ m = so.3 in
      omega (arith, low, le)

pub if_some : (found : Option ℕ) (A : Type 0) → A → IfSome found (λ _. A)
if_some None A a = tt
if_some (Some m) A a = a

-- the next point
module _ (a : Accounts Plan) (book : Kept) (ea : a ≡ accounts_of book) where
  pub accounts_in : (jobs : List Job) →
      StandsFor book jobs → AreAccounts (λ (p : Plan). p.total) Plans.StandsFor (vertices_of book) jobs a
  accounts_in jobs x =
      subst (AreAccounts (λ (p : Plan). p.total) Plans.StandsFor (vertices_of book) jobs) (sym ea) x.accounts_are

  pub next_at : IsBook book →
      (old new : ℕ) → new ≤ old + (16 * dig (length a.times.points + 2) + 1) → new ≤ old + cost_of book
  next_at is old new w =
      let t = times_cost a (vertices_of book) is.0 (accounts_in is.0 is.1) (len (rows_of book)) is.1.few in
      let c = next_covered a.count (len (rows_of book)) in
      let same = ap (λ (x : Accounts Plan). 512 * dig (2 * x.count + len (rows_of book) + 4)) ea in
      omega (arith, w, t, c, same)

-- a job that may be added oversubscribes no vertex beside the others
pub fair_with : (g : NamedGraph) (book : Kept) → g ≡ graph_of book → IsWhole g → (job : Job) →
    MayAdd book job → (jobs : List Job) → StandsFor book jobs → AreFair g.resources.vertices (jobs ++ job ∷ [])
fair_with g book eg whole job may jobs x =
    let own = subst IsWhole eg whole in
    subst (λ (h : NamedGraph). AreFair h.resources.vertices (jobs ++ job ∷ [])) (sym eg)
    (fair_added (graph_of book).resources own.valid.preorder jobs job x.accounts_are.fair
    (both_of (IsAvailable (no_bars (vertices_of book) (up_with jobs)) (record { from = job.start; to = job.end }))
    (TakesFromPool (vertices_of book)) job.claims (may.available jobs x) may.from_pools) may.separate)
