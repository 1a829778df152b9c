use Rattle.std.proofs.Common.{refl, ◌∙◌, ap}
use Rattle.sched_core.specs.Courses.{graph_at, setting_of}
use Rattle.sched_core.proofs.FirstCore.{first_core}
use Rattle.sched_core.proofs.remaking.first.Goals as goal

pub returns : goal.returns
returns c =
    let site = c.args.site.now in
    let book = c.in_ok-book.ensures in
    record {
      core = first_core site _ c.requires.whole (book.graph ∙ c.requires.graph-is) (book.horizon ∙
          c.requires.horizon-is) book.moment book.rows book.jobs c.empty.ensures refl;
      setting = ap (λ rules. setting_of (graph_at site).resources rules site.horizon site.claim_limit) book.rules;
      journal = c.empty.ensures;
    }
