use Rattle.std.proofs.Common.{refl, sym, ◌∙◌, ap, subst}
use Rattle.flux_defs.specs.Histories.{state_at}
use Rattle.flux_defs.specs.Scheduler.{State, present_of}
use Rattle.resource_graph.specs.NamedGraph.{NamedGraph}
use Rattle.book_state.specs.Books.{StandsFor}
use Rattle.overtaken_check.specs.Scans.{MayBeFound}
use Rattle.sched_core.specs.Courses.{journal_in, setting_in}
use Rattle.sched_core.proofs.Committed.{now_left, may_be_found}
use Rattle.sched_core.proofs.committing.cause.Goals as goal

pub overtaken-requires : goal.overtaken-requires
overtaken-requires g c =
    let site = c.args.site.now in
    let kept = c.args.kept.now in
    let core = c.requires.core in
    let j = journal_in kept in
    record {
      over = ap (λ n. n.resources.vertices) (core.graph-is ∙ sym c.deref.ensures);
      jobs = (subst (λ (s : State). StandsFor kept.book s.jobs) (sym (now_left j)) core.book-of.jobs, refl);
      moment = c.requires.moment;
      found = subst (λ (n : NamedGraph). MayBeFound n.resources.vertices site.horizon
          (present_of (state_at j c.args.place))
          c.args.verdict.now c.args.command.now) (sym c.deref.ensures)
          (may_be_found (setting_in site kept) (state_at j c.args.place) c.args.verdict.now c.args.command.now
          c.requires.found);
    }

pub returns-clause-answer : goal.returns-clause-answer
returns-clause-answer g c =
    c.overtaken.ensures.answer (setting_in c.args.site.now c.args.kept.now)
    (ap (λ n. n.resources.vertices) (sym c.deref.ensures)) refl
