use Rattle.std.proofs.Common.{◌≡◌, Some, slice_get, sym, subst}
use Rattle.list_laws.proofs.Lists.{all_at}
use Rattle.flux_defs.specs.declared.journal.ClientLine.{ClientLine}
use Rattle.flux_defs.specs.declared.journal.Command.{Command}
use Rattle.flux_defs.specs.Scheduler.{IsProper}
use Rattle.history_scenes.proofs.scenes.line_in.Goals as goal

pub returns-clause-proper : goal.returns-clause-proper
returns-clause-proper c =
    let vertices = c.args.graph.now.resources.vertices in
    let found = c.in-Some.found.now in
    let there : slice_get c.in_ok-lines.lines 0 ≡ Some found = sym c.in-Some.ensures.value in
    let proper = all_at (λ (l : ClientLine). IsProper vertices l.command) c.in_ok-lines.lines 0 found
    c.in_ok-lines.ensures.proper there in
    subst (λ (k : Command). IsProper vertices k) (sym c.in_ok-command.ensures) proper
