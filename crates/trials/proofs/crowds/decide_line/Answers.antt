use Rattle.std.proofs.Common.{◌≡◌, Some, slice_get, sym, subst}
use Rattle.list_laws.proofs.Lists.{all_at}
use Rattle.flux_defs.specs.declared.journal.ClientLine.{ClientLine}
use Rattle.flux_defs.specs.declared.journal.Command.{Command}
use Rattle.flux_defs.specs.Scheduler.{IsProper}
use Rattle.trials.proofs.crowds.decide_line.Goals as goal

pub decide-requires : goal.decide-requires
decide-requires c =
    let vertices = c.args.core.now.setting.graph.vertices in
    let at = c.saturating_sub.result in
    let line = c.in-Some.line.now in
    let there : slice_get c.args.lines.now at ≡ Some line = sym c.in-Some.ensures.value in
    let proper = all_at (λ (l : ClientLine). IsProper vertices l.command) c.args.lines.now at line c.requires there in
    record { proper = subst (λ (k : Command). IsProper vertices k) (sym c.in_ok-command.ensures) proper }
