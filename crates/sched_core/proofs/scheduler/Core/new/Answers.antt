use Rattle.std.proofs.Common.{refl, ◌∙◌, subst}
use Rattle.resource_graph.specs.NamedGraph.{IsWhole}
use Rattle.sched_core.proofs.FirstCore.{first_core}
use Rattle.sched_core.proofs.scheduler.Core.new.Goals as goal

pub invariant_of-result : goal.invariant_of-result
invariant_of-result c =
    let book = c.in_ok-book.ensures in
    first_core _ _ (subst IsWhole c.deref.ensures c.is_valid.ensures) (book.graph ∙ c.in_ok-try_clone.ensures)
    book.horizon book.moment book.rows book.jobs
    c.empty.ensures refl
