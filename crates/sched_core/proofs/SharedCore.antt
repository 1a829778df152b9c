-- What is shared is the same core.
use Rattle.std.proofs.Common.{◌≡◌, ℕ, List, MatchOption, sym, ◌∙◌, ap, subst, ◌≤◌, length}
use Rattle.std.specs.FinMap.{FinMap, get, len}
use Rattle.std.specs.Ordering.{nat_cmp}
use Rattle.flux_defs.specs.declared.claims.Job.{Job}
use Rattle.flux_defs.specs.declared.journal.Entry.{Entry}
use Rattle.flux_defs.specs.Scheduler.{Setting}
use Rattle.flux_defs.specs.Histories.{IsLegal, HasProperCommands}
use Rattle.resource_graph.specs.NamedGraph.{NamedGraph, IsWhole}
use Rattle.prune_filters.specs.declared.rules.Rule.{Rule}
use Rattle.job_table.specs.declared.tables.Row.{Row}
use Rattle.book_state.specs.Books.{rules_of, moment_of, rows_of, StandsFor, HaveOneSetting}
use Rattle.sched_core.specs.declared.held.Site.{Site}
use Rattle.sched_core.specs.declared.held.Kept.{Kept}
use Rattle.sched_core.specs.Courses.{left_by, graph_at, vertices_at, journal_in, setting_of, setting_in, IsNew, IsRowOf}
use Rattle.sched_core.specs.Courses.{IsBookOf, IsCore}

pub same_setting : (a b : NamedGraph) (r q : List Rule) (h k l m : ℕ) → a ≡ b → r ≡ q → h ≡ k → l ≡ m →
    setting_of a.resources r h l ≡ setting_of b.resources q k m
same_setting a b r q h k l m e f i j = cc

module _ (site other : Site) (kept same : Kept) (core : IsCore site kept) (graph : graph_at other ≡ graph_at site)
    (horizon : other.horizon ≡ site.horizon) (limit : other.claim_limit ≡ site.claim_limit)
    (keeps : HaveOneSetting kept.book same.book) (journal : journal_in same ≡ journal_in kept) where
  pub same_setting_in : setting_in other same ≡ setting_in site kept
  same_setting_in =
      same_setting (graph_at other) (graph_at site) (rules_of same.book) (rules_of kept.book) other.horizon site.horizon
      other.claim_limit site.claim_limit graph keeps.rules horizon limit

  same_book : moment_of same.book ≡ moment_of kept.book → rows_of same.book ≡ rows_of kept.book →
      ((jobs : List Job) → StandsFor kept.book jobs → StandsFor same.book jobs) → IsBookOf (journal_in kept) same.book
  same_book moment rows jobs =
      let s = left_by (journal_in kept) in
      record {
        jobs = jobs s.jobs core.book-of.jobs;
        moment = moment ∙ core.book-of.moment;
        table = λ id. subst
            (λ (r : FinMap nat_cmp Row). MatchOption (get r id) (IsNew s id) (IsRowOf (journal_in kept) s id))
            (sym rows) (core.book-of.table id);
        few = subst (λ (r : FinMap nat_cmp Row). len r ≤ length (journal_in kept)) (sym rows) core.book-of.few;
      }

  pub shared_core : moment_of same.book ≡ moment_of kept.book → rows_of same.book ≡ rows_of kept.book →
      ((jobs : List Job) → StandsFor kept.book jobs → StandsFor same.book jobs) → same.claim_count ≡ kept.claim_count →
      IsCore other same
  shared_core moment rows jobs claims = record {
    whole = subst IsWhole (sym graph) core.whole;
    graph-is = keeps.graph ∙ (core.graph-is ∙ sym graph);
    horizon-is = keeps.horizon ∙ (core.horizon-is ∙ sym horizon);
    legal = subst (λ (g : Setting). IsLegal g (journal_in same)) (sym same_setting_in)
        (subst (λ (j : List Entry). IsLegal (setting_in site kept) j) (sym journal) core.legal);
    proper = subst (λ (n : NamedGraph). HasProperCommands n.resources.vertices (journal_in same)) (sym graph)
        (subst (λ (j : List Entry). HasProperCommands (vertices_at site) j) (sym journal) core.proper);
    book-of = subst (λ (j : List Entry). IsBookOf j same.book) (sym journal) (same_book moment rows jobs);
    claims-are = claims ∙ (core.claims-are ∙ ap (λ j. (left_by j).claim_count) (sym journal));
  }
