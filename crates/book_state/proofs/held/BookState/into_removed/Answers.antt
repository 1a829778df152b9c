use Rattle.std.proofs.Common.{◌≡◌, ◌++◌, ◌∷◌, Some, refl, sym, ◌∙◌, ap, subst, ◌+◌, ◌*◌, ◌≤◌, length, arith}
use Rattle.std.specs.FinMap.{get, insert, len}
use Rattle.flux_defs.specs.declared.claims.Job.{Job}
use Rattle.flux_defs.specs.Scheduler.{without_job}
use Rattle.resource_graph.specs.NamedGraph.{NamedGraph}
use Rattle.job_table.specs.Rows.{live_row, cancelled_row}
use Rattle.planner_min_tree.specs.Plans as Plans
use Rattle.planner_min_tree.specs.Plans.{Plan}
use Rattle.vertex_accounts.specs.declared.books.Accounts.{Accounts}
use Rattle.vertex_accounts.specs.Books.{AreAccounts, HasTotals, IsOnGraph, types_of}
use Rattle.book_state.specs.declared.held.Kept.{Kept}
use Rattle.book_state.specs.Filtered.{Filtered}
use Rattle.book_state.specs.Books.{graph_of, vertices_of, rules_of, rows_of, accounts_of, IsBook, StandsFor}
use Rattle.book_state.proofs.BookLaws.{moved, moved_to, removed, split_at}
use Rattle.book_state.proofs.TieLaws.{without_middle}
use Rattle.book_state.proofs.ViewLaws.{accounts_at, change_at}
use Rattle.flux_defs.specs.Digits.{dig}
use Rattle.list_laws.proofs.Lists.{all_at_middle}
use Rattle.book_state.proofs.held.BookState.into_removed.Goals as goal

pub without_job-requires-clause-on_graph : goal.without_job-requires-clause-on_graph
without_job-requires-clause-on_graph g c =
    let eg = c.graph.ensures.value ∙ ap (λ (x : Filtered). x.graph) c.deref.ensures ∙ ap graph_of c.self.view_is in
    let (jobs, x, has) = c.requires.there in
    let (before, after, e) = split_at jobs c.args.job.now has in
    let y = subst (StandsFor c.args.self) e x in
    subst (λ (h : NamedGraph). IsOnGraph h.resources.vertices c.args.job.now) (sym eg)
    (all_at_middle (IsOnGraph (vertices_of c.args.self)) before c.args.job.now after y.accounts_are.on_graph)

pub without_job-requires-clause-there : goal.without_job-requires-clause-there
without_job-requires-clause-there g c =
    let eg = c.graph.ensures.value ∙ ap (λ (x : Filtered). x.graph) c.deref.ensures ∙ ap graph_of c.self.view_is in
    let ea = ap accounts_of c.self.view_is in
    let (jobs, x, has) = c.requires.there in
    let (before, after, e) = split_at jobs c.args.job.now has in (
      before,
      after,
      accounts_at c.graph.result.now
          c.self.inside.kept.accounts c.args.self eg ea
          (before ++ c.args.job.now ∷ after) (subst (StandsFor c.args.self) e x),
    )

pub returns-clause-once : goal.returns-clause-once
returns-clause-once g c = λ before after x.
    let k = c.args.self in
    let job : Job = c.args.job.now in
    let eg = c.graph.ensures.value ∙ ap (λ (x : Filtered). x.graph) c.deref.ensures ∙ ap graph_of c.self.view_is in
    let ea = ap accounts_of c.self.view_is in
    let new : Accounts Plan = c.in_ok-accounts.accounts in
    let (at, live) = c.requires.live in
    let acc = subst (λ (h : NamedGraph).
    AreAccounts (λ (p : Plan). p.total) Plans.StandsFor h.resources.vertices (before ++ after) new) eg
    (c.in_ok-accounts.ensures.accounts before after
    (accounts_at c.graph.result.now c.self.inside.kept.accounts k eg ea (before ++ job ∷ after) x)) in
    moved (graph_of k) _ (rules_of k) _ new _ (insert (rows_of k) job.id (cancelled_row at)) _ (before ++ after)
    (ap graph_of c.self.view_is)
    (ap rules_of c.self.view_is)
    refl
    (c.in_ok-table.ensures.cancelled at
    (subst (λ (b : Kept). get (rows_of b) job.id ≡ Some (live_row at)) (sym c.self.view_is) live)
    ∙ ap (λ (b : Kept). insert (rows_of b) job.id (cancelled_row at)) c.self.view_is)
    (removed (graph_of k) (rules_of k) (accounts_of k) new (rows_of k) before job after at live acc
    (λ kind h. c.in_ok-accounts.ensures.kinds kind (subst (λ (a : Accounts Plan). HasTotals a kind) (sym ea) h))
    (c.in_ok-accounts.ensures.types ∙ ap (λ (a : Accounts Plan). types_of a) ea) x)

pub returns-clause-jobs : goal.returns-clause-jobs
returns-clause-jobs g c = λ jobs y has.
    let (before, after, e) = split_at jobs c.args.job.now has in
    let x = subst (StandsFor c.args.self) e y in
    let same : without_job c.args.job.now.id jobs ≡ before ++ after =
    ap (without_job c.args.job.now.id) e ∙ without_middle before after c.args.job.now x.ties.own in
    let k = c.args.self in
    let job : Job = c.args.job.now in
    let eg = c.graph.ensures.value ∙ ap (λ (x : Filtered). x.graph) c.deref.ensures ∙ ap graph_of c.self.view_is in
    let ea = ap accounts_of c.self.view_is in
    let new : Accounts Plan = c.in_ok-accounts.accounts in
    let (at, live) = c.requires.live in
    let acc = subst (λ (h : NamedGraph).
    AreAccounts (λ (p : Plan). p.total) Plans.StandsFor h.resources.vertices (before ++ after) new) eg
    (c.in_ok-accounts.ensures.accounts before after
    (accounts_at c.graph.result.now c.self.inside.kept.accounts k eg ea (before ++ job ∷ after) x)) in
    moved_to (graph_of k) _ (rules_of k) _ new _
    (insert (rows_of k) job.id (cancelled_row at)) _ (before ++ after) (without_job job.id jobs) same
    (ap graph_of c.self.view_is)
    (ap rules_of c.self.view_is)
    refl
    (c.in_ok-table.ensures.cancelled at
    (subst (λ (b : Kept). get (rows_of b) job.id ≡ Some (live_row at)) (sym c.self.view_is) live)
    ∙ ap (λ (b : Kept). insert (rows_of b) job.id (cancelled_row at)) c.self.view_is)
    (removed (graph_of k) (rules_of k) (accounts_of k) new (rows_of k) before job after at live acc
    (λ kind h. c.in_ok-accounts.ensures.kinds kind (subst (λ (a : Accounts Plan). HasTotals a kind) (sym ea) h))
    (c.in_ok-accounts.ensures.types ∙ ap (λ (a : Accounts Plan). types_of a) ea) x)

pub invariant_of-result : goal.invariant_of-result
invariant_of-result g c =
    let (jobs, y, has) = c.requires.there in
    let (before, after, e) = split_at jobs c.args.job.now has in
    let x = subst (StandsFor c.args.self) e y in
    let k = c.args.self in
    let job : Job = c.args.job.now in
    let eg = c.graph.ensures.value ∙ ap (λ (x : Filtered). x.graph) c.deref.ensures ∙ ap graph_of c.self.view_is in
    let ea = ap accounts_of c.self.view_is in
    let new : Accounts Plan = c.in_ok-accounts.accounts in
    let (at, live) = c.requires.live in
    let acc = subst (λ (h : NamedGraph).
    AreAccounts (λ (p : Plan). p.total) Plans.StandsFor h.resources.vertices (before ++ after) new) eg
    (c.in_ok-accounts.ensures.accounts before after
    (accounts_at c.graph.result.now c.self.inside.kept.accounts k eg ea (before ++ job ∷ after) x)) in (
      before ++ after,
      moved (graph_of k) _ (rules_of k) _ new _ (insert (rows_of k) job.id (cancelled_row at)) _ (before ++ after)
          (ap graph_of c.self.view_is)
          (ap rules_of c.self.view_is)
          refl
          (c.in_ok-table.ensures.cancelled at
          (subst (λ (b : Kept). get (rows_of b) job.id ≡ Some (live_row at)) (sym c.self.view_is) live)
          ∙ ap (λ (b : Kept). insert (rows_of b) job.id (cancelled_row at)) c.self.view_is)
          (removed (graph_of k) (rules_of k) (accounts_of k) new (rows_of k) before job after at live acc
          (λ kind h. c.in_ok-accounts.ensures.kinds kind (subst (λ (a : Accounts Plan). HasTotals a kind) (sym ea) h))
          (c.in_ok-accounts.ensures.types ∙ ap (λ (a : Accounts Plan). types_of a) ea) x),
    )

pub returns-in_err-accounts-clause-work : goal.returns-in_err-accounts-clause-work
returns-in_err-accounts-clause-work g c =
    let eg = c.graph.ensures.value ∙ ap (λ (x : Filtered). x.graph) c.deref.ensures ∙ ap graph_of c.self.view_is in
    let ea = ap accounts_of c.self.view_is in
    let is = subst IsBook c.self.view_is c.self.invariant in
    change_at c.graph.result.now c.self.inside.kept.accounts c.args.self
    eg ea is c.graph.ensures.valid
    (length c.args.job.now.claims)
    c.args.steps.now c.without_job.new.steps c.without_job.new.steps c.without_job.ensures.work (omega arith)

pub returns-in_err-table-clause-work : goal.returns-in_err-table-clause-work
returns-in_err-table-clause-work g c =
    let eg = c.graph.ensures.value ∙ ap (λ (x : Filtered). x.graph) c.deref.ensures ∙ ap graph_of c.self.view_is in
    let ea = ap accounts_of c.self.view_is in
    let is = subst IsBook c.self.view_is c.self.invariant in
    change_at c.graph.result.now c.self.inside.kept.accounts c.args.self
    eg ea is c.graph.ensures.valid
    (length c.args.job.now.claims)
    c.args.steps.now c.without_job.new.steps c.into_cancelled.new.steps c.without_job.ensures.work
    (subst (λ (b : Kept). c.into_cancelled.new.steps ≤ c.without_job.new.steps + 256 * dig (len (rows_of b) + 2))
    c.self.view_is c.into_cancelled.ensures.work)

pub returns-clause-work : goal.returns-clause-work
returns-clause-work g c =
    let eg = c.graph.ensures.value ∙ ap (λ (x : Filtered). x.graph) c.deref.ensures ∙ ap graph_of c.self.view_is in
    let ea = ap accounts_of c.self.view_is in
    let is = subst IsBook c.self.view_is c.self.invariant in
    change_at c.graph.result.now c.self.inside.kept.accounts c.args.self
    eg ea is c.graph.ensures.valid
    (length c.args.job.now.claims)
    c.args.steps.now c.without_job.new.steps c.into_cancelled.new.steps c.without_job.ensures.work
    (subst (λ (b : Kept). c.into_cancelled.new.steps ≤ c.without_job.new.steps + 256 * dig (len (rows_of b) + 2))
    c.self.view_is c.into_cancelled.ensures.work)
