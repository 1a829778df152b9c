use Rattle.std.proofs.Common.{sym, subst}
use Rattle.flux_defs.specs.Graph.{ResourceGraph}
use Rattle.sched_core.specs.Played.{AreProper}
use Rattle.trials.proofs.crowds.decided.Goals as goal

pub decide_line-requires : goal.decide_line-requires
decide_line-requires c =
    subst (λ (g : ResourceGraph). AreProper g.vertices c.args.lines.now) (sym c.loop-number.invariant) c.requires
