use Rattle.std.proofs.Common.{◌≡◌, rules, sym, subst}
use Rattle.std.specs.List.{AllByRecursion}
use Rattle.flux_defs.specs.declared.journal.Line.{Line}
use Rattle.flux_defs.specs.Graph.{ResourceGraph}
use Rattle.flux_defs.specs.Scheduler.{IsProper}
use Rattle.book_trials.proofs.plays.played.Goals as goal

pub play_script-requires-clause-proper : goal.play_script-requires-clause-proper
play_script-requires-clause-proper g c κs within =
    let same : c.in_ok-core.core.setting.graph ≡ c.deref.result.now.resources = search rules in
    subst (λ (k : ResourceGraph).
    AllByRecursion (λ lines. AllByRecursion (λ (l : Line). IsProper k.vertices l.command) lines)
    c.in_ok-script.script.lines) (sym same) c.in_ok-script.ensures.proper
