-- What is kept before the first entry, and what every core keeps.
use Rattle.std.proofs.Common.{◌≡◌, List, [], length, refl, sym, ◌∙◌, ap, subst, arith}
use Rattle.std.specs.FinMap.{get, len, empty, get-empty, len-empty}
use Rattle.std.specs.Ordering.{nat_cmp}
use Rattle.std.proofs.lemmas.List.{take_all}
use Rattle.flux_defs.specs.declared.journal.Entry.{Entry}
use Rattle.flux_defs.specs.Scheduler.{first_state}
use Rattle.flux_defs.specs.Histories.{IsLegal, HasProperCommands}
use Rattle.flux_defs.specs.Sound.{IsSound, IsSoundThroughout}
use Rattle.resource_graph.specs.NamedGraph.{IsWhole}
use Rattle.sound_laws.proofs.Legal.{legal_keeps}
use Rattle.job_table.specs.declared.tables.Row.{Row}
use Rattle.book_state.specs.declared.held.BookState.{BookState}
use Rattle.book_state.specs.Books.{graph_of, horizon_of, moment_of, rows_of, StandsFor}
use Rattle.sched_core.specs.declared.held.Site.{Site}
use Rattle.sched_core.specs.declared.held.Kept.{Kept}
use Rattle.sched_core.specs.declared.held.Keeping.{Keeping}
use Rattle.sched_core.specs.declared.held.Keeping.TheVariants as keeping
use Rattle.sched_core.specs.Courses.{left_by, graph_at, vertices_at, journal_in, setting_in, IsBookOf, IsCore}
use Rattle.sched_core.specs.Courses.{setting_left, course_at, IsKeptAt}
use Rattle.sched_core.proofs.JobLaws.{Told}
use Rattle.list_laws.proofs.Lists.{contains_none}

book_none : (book : BookState) → moment_of book ≡ 0 → rows_of book ≡ empty → StandsFor book [] → IsBookOf [] book
book_none book moment rows jobs = record {
  jobs = jobs;
  moment = moment;
  table = λ id. subst (Told [] first_state id) (sym (ap (λ r. get r id) rows ∙ get-empty nat_cmp id))
      (record { unused = contains_none id; none = refl });
  few = (let none = ap len rows ∙ len-empty nat_cmp Row in omega (arith, none));
}

pub first_core : (site : Site) (kept : Kept) → IsWhole (graph_at site) → graph_of kept.book ≡ graph_at site →
    horizon_of kept.book ≡ site.horizon → moment_of kept.book ≡ 0 → rows_of kept.book ≡ empty →
    StandsFor kept.book [] → journal_in kept ≡ [] → kept.claim_count ≡ 0 → IsCore site kept
first_core site kept whole graph horizon moment rows jobs none claims = record {
  whole = whole;
  graph-is = graph;
  horizon-is = horizon;
  legal = subst (λ (j : List Entry). IsLegal (setting_in site kept) j) (sym none) tt;
  proper = subst (λ (j : List Entry). HasProperCommands (vertices_at site) j) (sym none) tt;
  book-of = subst (λ (j : List Entry). IsBookOf j kept.book) (sym none) (book_none kept.book moment rows jobs);
  claims-are = subst (λ (j : List Entry). kept.claim_count ≡ (left_by j).claim_count) (sym none) claims;
}

-- after each entry no vertex is oversubscribed
pub sound_throughout : (site : Site) (kept : Kept) → IsCore site kept →
    IsSoundThroughout (vertices_at site) (journal_in kept)
sound_throughout site kept core = legal_keeps (setting_in site kept) (graph_at site).names core.whole.valid
    (journal_in kept) core.proper core.legal

-- the same of what a scheduler keeps, with or without its book
pub kept_legal : (site : Site) (k : Keeping) → IsKeptAt site k →
    IsLegal (course_at site k).setting (course_at site k).journal
kept_legal site (keeping.Whole kept) core = core.legal
kept_legal site (keeping.Remains left) is = is.legal
kept_legal site keeping.Nothing is = elim is [ ]

pub kept_proper : (site : Site) (k : Keeping) → IsKeptAt site k →
    HasProperCommands (course_at site k).setting.graph.vertices (course_at site k).journal
kept_proper site (keeping.Whole kept) core = core.proper
kept_proper site (keeping.Remains left) is = is.proper
kept_proper site keeping.Nothing is = elim is [ ]

pub kept_sound : (site : Site) (k : Keeping) → IsKeptAt site k →
    IsSoundThroughout (course_at site k).setting.graph.vertices (course_at site k).journal
kept_sound site (keeping.Whole kept) core = sound_throughout site kept core
kept_sound site (keeping.Remains left) is =
    legal_keeps (setting_left site left) (graph_at site).names is.whole.valid left.journal is.proper is.legal
kept_sound site keeping.Nothing is = elim is [ ]

pub kept_last : (site : Site) (k : Keeping) → IsKeptAt site k →
    IsSound (course_at site k).setting.graph.vertices (left_by (course_at site k).journal).jobs
kept_last site k is =
    let journal = (course_at site k).journal in
    subst (λ (j : List Entry). IsSound (course_at site k).setting.graph.vertices (left_by j).jobs)
    (take_all (length journal) journal (omega arith)) (kept_sound site k is (length journal))
