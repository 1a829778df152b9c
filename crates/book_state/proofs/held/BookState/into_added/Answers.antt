use Rattle.std.proofs.Common.{◌<◌, ◌++◌, ◌∷◌, [], length, refl, sym, ◌∙◌, ap, subst, ◌+◌, ◌*◌, ◌≤◌, arith}
use Rattle.std.specs.List.{AllByRecursion}
use Rattle.std.specs.FinMap.{insert, len}
use Rattle.flux_defs.specs.declared.claims.Job.{Job}
use Rattle.flux_defs.specs.Jobs.{vertex_of}
use Rattle.resource_graph.specs.NamedGraph.{NamedGraph}
use Rattle.job_table.specs.Rows.{live_row}
use Rattle.planner_min_tree.specs.Plans as Plans
use Rattle.planner_min_tree.specs.Plans.{Plan}
use Rattle.vertex_accounts.specs.declared.books.Accounts.{Accounts}
use Rattle.vertex_accounts.specs.Books.{AreAccounts, HasTotals, types_of}
use Rattle.book_state.specs.declared.held.Kept.{Kept}
use Rattle.book_state.specs.Filtered.{Filtered}
use Rattle.book_state.specs.Books.{graph_of, rules_of, rows_of, accounts_of, IsBook}
use Rattle.book_state.proofs.BookLaws.{moved, added}
use Rattle.book_state.proofs.ViewLaws.{accounts_at, fair_with, change_at}
use Rattle.flux_defs.specs.Digits.{dig}
use Rattle.book_state.proofs.held.BookState.into_added.Goals as goal

pub with_job-requires-clause-on_graph : goal.with_job-requires-clause-on_graph
with_job-requires-clause-on_graph g c =
    let eg = c.graph.ensures.value ∙ ap (λ (x : Filtered). x.graph) c.deref.ensures ∙ ap graph_of c.self.view_is in
    record {
      begins = c.requires.begins;
      on_vertices =
          subst (λ (h : NamedGraph).
          AllByRecursion (λ d. vertex_of d < length h.resources.vertices) c.args.job.now.claims)
          (sym eg) c.requires.on_vertices;
    }

pub with_job-requires-clause-there : goal.with_job-requires-clause-there
with_job-requires-clause-there g c =
    let eg = c.graph.ensures.value ∙ ap (λ (x : Filtered). x.graph) c.deref.ensures ∙ ap graph_of c.self.view_is in
    let ea = ap accounts_of c.self.view_is in
    let is = subst IsBook c.self.view_is c.self.invariant in (
      is.0,
      accounts_at c.graph.result.now
          c.self.inside.kept.accounts c.args.self eg ea is.0 is.1,
      fair_with c.graph.result.now
          c.args.self eg c.graph.ensures.valid c.args.job.now c.requires is.0 is.1,
    )

pub returns-clause-jobs : goal.returns-clause-jobs
returns-clause-jobs g c = λ jobs x.
    let k = c.args.self in
    let job : Job = c.args.job.now in
    let G = c.graph.result.now in
    let eg = c.graph.ensures.value ∙ ap (λ (x : Filtered). x.graph) c.deref.ensures ∙ ap graph_of c.self.view_is in
    let ea = ap accounts_of c.self.view_is in
    let new : Accounts Plan = c.in_ok-accounts.accounts in
    let acc = subst (λ (h : NamedGraph).
    AreAccounts (λ (p : Plan). p.total) Plans.StandsFor h.resources.vertices (jobs ++ job ∷ []) new) eg
    (c.in_ok-accounts.ensures.accounts jobs (accounts_at G c.self.inside.kept.accounts k eg ea jobs x)
    (fair_with G k eg c.graph.ensures.valid job c.requires jobs x)) in
    moved (graph_of k) _ (rules_of k) _ new _ (insert (rows_of k) job.id (live_row c.args.at)) _ (jobs ++ job ∷ [])
    (ap graph_of c.self.view_is)
    (ap rules_of c.self.view_is)
    refl
    (c.in_ok-table.ensures.added ∙ ap (λ (b : Kept). insert (rows_of b) job.id (live_row c.args.at)) c.self.view_is)
    (added (graph_of k) (rules_of k) (accounts_of k) new (rows_of k) jobs job c.args.at c.requires.fresh acc
    (λ kind h. c.in_ok-accounts.ensures.kinds kind (subst (λ (a : Accounts Plan). HasTotals a kind) (sym ea) h))
    (c.in_ok-accounts.ensures.types ∙ ap (λ (a : Accounts Plan). types_of a) ea) x)

pub invariant_of-result : goal.invariant_of-result
invariant_of-result g c =
    let (jobs, x) = subst IsBook c.self.view_is c.self.invariant in
    let k = c.args.self in
    let job : Job = c.args.job.now in
    let G = c.graph.result.now in
    let eg = c.graph.ensures.value ∙ ap (λ (x : Filtered). x.graph) c.deref.ensures ∙ ap graph_of c.self.view_is in
    let ea = ap accounts_of c.self.view_is in
    let new : Accounts Plan = c.in_ok-accounts.accounts in
    let acc = subst (λ (h : NamedGraph).
    AreAccounts (λ (p : Plan). p.total) Plans.StandsFor h.resources.vertices (jobs ++ job ∷ []) new) eg
    (c.in_ok-accounts.ensures.accounts jobs (accounts_at G c.self.inside.kept.accounts k eg ea jobs x)
    (fair_with G k eg c.graph.ensures.valid job c.requires jobs x)) in (
      jobs ++ job ∷ [],
      moved (graph_of k) _ (rules_of k) _ new _ (insert (rows_of k) job.id (live_row c.args.at)) _ (jobs ++ job ∷ [])
          (ap graph_of c.self.view_is)
          (ap rules_of c.self.view_is)
          refl
          (c.in_ok-table.ensures.added
          ∙ ap (λ (b : Kept). insert (rows_of b) job.id (live_row c.args.at)) c.self.view_is)
          (added (graph_of k) (rules_of k) (accounts_of k) new (rows_of k) jobs job c.args.at c.requires.fresh acc
          (λ kind h. c.in_ok-accounts.ensures.kinds kind (subst (λ (a : Accounts Plan). HasTotals a kind) (sym ea) h))
          (c.in_ok-accounts.ensures.types ∙ ap (λ (a : Accounts Plan). types_of a) ea) x),
    )

pub returns-in_err-accounts-clause-work : goal.returns-in_err-accounts-clause-work
returns-in_err-accounts-clause-work g c =
    let eg = c.graph.ensures.value ∙ ap (λ (x : Filtered). x.graph) c.deref.ensures ∙ ap graph_of c.self.view_is in
    let ea = ap accounts_of c.self.view_is in
    let is = subst IsBook c.self.view_is c.self.invariant in
    change_at c.graph.result.now c.self.inside.kept.accounts c.args.self
    eg ea is c.graph.ensures.valid
    (length c.args.job.now.claims)
    c.args.steps.now c.with_job.new.steps c.with_job.new.steps c.with_job.ensures.work (omega arith)

pub returns-in_err-table-clause-work : goal.returns-in_err-table-clause-work
returns-in_err-table-clause-work g c =
    let eg = c.graph.ensures.value ∙ ap (λ (x : Filtered). x.graph) c.deref.ensures ∙ ap graph_of c.self.view_is in
    let ea = ap accounts_of c.self.view_is in
    let is = subst IsBook c.self.view_is c.self.invariant in
    change_at c.graph.result.now c.self.inside.kept.accounts c.args.self
    eg ea is c.graph.ensures.valid
    (length c.args.job.now.claims) c.args.steps.now c.with_job.new.steps c.into_new.new.steps c.with_job.ensures.work
    (subst (λ (b : Kept). c.into_new.new.steps ≤ c.with_job.new.steps + 256 * dig (len (rows_of b) + 2))
    c.self.view_is c.into_new.ensures.work)

pub returns-clause-work : goal.returns-clause-work
returns-clause-work g c =
    let eg = c.graph.ensures.value ∙ ap (λ (x : Filtered). x.graph) c.deref.ensures ∙ ap graph_of c.self.view_is in
    let ea = ap accounts_of c.self.view_is in
    let is = subst IsBook c.self.view_is c.self.invariant in
    change_at c.graph.result.now c.self.inside.kept.accounts c.args.self
    eg ea is c.graph.ensures.valid
    (length c.args.job.now.claims) c.args.steps.now c.with_job.new.steps c.into_new.new.steps c.with_job.ensures.work
    (subst (λ (b : Kept). c.into_new.new.steps ≤ c.with_job.new.steps + 256 * dig (len (rows_of b) + 2))
    c.self.view_is c.into_new.ensures.work)
