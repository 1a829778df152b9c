-- A book that has the parts of another stands for the same jobs, and the same may be done to it.
use Rattle.std.proofs.Common.{◌≡◌, ℕ, ◌+◌, ◌*◌, ◌<◌, ◌≤◌, List, length, None, refl, sym, ◌∙◌, ap, subst}
use Rattle.std.specs.List.{AllByRecursion}
use Rattle.std.specs.Ordering.{nat_cmp}
use Rattle.std.specs.FinMap.{FinMap, get, len}
use Rattle.flux_defs.specs.declared.claims.Job.{Job}
use Rattle.flux_defs.specs.Digits.{dig}
use Rattle.flux_defs.specs.Jobs.{vertex_of}
use Rattle.flux_defs.specs.Closed.{no_bars}
use Rattle.flux_defs.specs.Available.{IsAvailable}
use Rattle.flux_defs.specs.Sound.{AreAllSeparate}
use Rattle.flux_defs.specs.Present.{up_with}
use Rattle.resource_graph.specs.NamedGraph.{NamedGraph}
use Rattle.prune_filters.specs.declared.rules.Rule.{Rule}
use Rattle.job_table.specs.declared.tables.Row.{Row}
use Rattle.book_laws.specs.Amounts.{TakesFromPool}
use Rattle.planner_min_tree.specs.Plans as Plans
use Rattle.planner_min_tree.specs.Plans.{Plan}
use Rattle.vertex_accounts.specs.declared.books.Accounts.{Accounts}
use Rattle.vertex_accounts.specs.Books.{HaveSameParts}
use Rattle.vertex_accounts.proofs.PartLaws.{parts_back, same_accounts, same_totals, same_types}
use Rattle.book_state.specs.declared.held.Kept.{Kept}
use Rattle.book_state.specs.Books.{graph_of, rules_of, rows_of, accounts_of, StandsIn, StandsFor, HaveOneSetting}
use Rattle.book_state.specs.Books.{MayAdd, change_cost_of}
use Rattle.book_state.proofs.BookLaws.{moved}

pub shared_stands : (g : NamedGraph) (r : List Rule) (a b : Accounts Plan) (t : FinMap nat_cmp Row) (jobs : List Job) →
    HaveSameParts a b → StandsIn g r a t jobs → StandsIn g r b t jobs
shared_stands g r a b t jobs same x = record {
  accounts_are =
      same_accounts (λ (p : Plan). p.total) Plans.StandsFor g.resources.vertices jobs a b same x.accounts_are;
  ties = x.ties;
  few = x.few;
  kinds = λ kind name named counted. same_totals a b same kind (x.kinds kind name named counted);
  types = subst (λ (n : ℕ). n ≤ length r) (sym (same_types a b same)) x.types;
}

pub one_setting : (a b c : Kept) → HaveOneSetting a b → HaveOneSetting b c → HaveOneSetting a c
one_setting a b c first second = record {
  graph = second.graph ∙ first.graph;
  rules = second.rules ∙ first.rules;
  horizon = second.horizon ∙ first.horizon;
}

module _ (book other : Kept) (one : HaveOneSetting book other) (rows : rows_of other ≡ rows_of book)
    (same : HaveSameParts (accounts_of book) (accounts_of other)) where
  pub stands_along : (jobs : List Job) → StandsFor book jobs → StandsFor other jobs
  stands_along jobs x = moved (graph_of book) (graph_of other) (rules_of book) (rules_of other)
      (accounts_of other) (accounts_of other) (rows_of book) (rows_of other) jobs one.graph one.rules refl rows
      (shared_stands (graph_of book) (rules_of book) (accounts_of book) (accounts_of other) (rows_of book) jobs same x)

  pub stands_back : (jobs : List Job) → StandsFor other jobs → StandsFor book jobs
  stands_back jobs x = moved (graph_of other) (graph_of book) (rules_of other) (rules_of book)
      (accounts_of book) (accounts_of book) (rows_of other) (rows_of book) jobs
      (sym one.graph) (sym one.rules) refl (sym rows)
      (shared_stands (graph_of other) (rules_of other) (accounts_of other) (accounts_of book) (rows_of other) jobs
      (parts_back (accounts_of book) (accounts_of other) same) x)

  pub may_along : (job : Job) → MayAdd book job → MayAdd other job
  may_along job may = record {
    begins = may.begins;
    ends = subst (λ (n : ℕ). job.end ≤ n) (sym one.horizon) may.ends;
    on_vertices = subst (λ (h : NamedGraph). AllByRecursion (λ c. vertex_of c < length h.resources.vertices) job.claims)
        (sym one.graph) may.on_vertices;
    from_pools = subst (λ (h : NamedGraph). AllByRecursion (TakesFromPool h.resources.vertices) job.claims)
        (sym one.graph) may.from_pools;
    separate = subst (λ (h : NamedGraph). AreAllSeparate h.resources.vertices job.claims) (sym one.graph) may.separate;
    available = λ jobs x. subst (λ (h : NamedGraph). AllByRecursion
        (IsAvailable (no_bars h.resources.vertices (up_with jobs)) (record { from = job.start; to = job.end }))
        job.claims)
        (sym one.graph) (may.available jobs (stands_back jobs x));
    fresh = subst (λ (t : FinMap nat_cmp Row). get t job.id ≡ None) (sym rows) may.fresh;
  }

  pub cost_along : (claims : ℕ) → change_cost_of other claims ≡ change_cost_of book claims
  cost_along claims =
      ap (λ (r : List Rule). 8192 * (claims + 1) * (1 + length r) * dig
      (2 * (accounts_of other).count + len (rows_of other) + 4)) one.rules
      ∙ ap (λ (n : ℕ). 8192 * (claims + 1) * (1 + length (rules_of book)) * dig
      (2 * n + len (rows_of other) + 4)) same.count
      ∙ ap (λ (t : FinMap nat_cmp Row). 8192 * (claims + 1) * (1 + length (rules_of book)) * dig
      (2 * (accounts_of book).count + len t + 4)) rows
