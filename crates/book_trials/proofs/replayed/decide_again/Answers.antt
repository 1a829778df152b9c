use Rattle.std.proofs.Common.{◌≡◌, Some, slice_get, sym, subst}
use Rattle.list_laws.proofs.Lists.{all_at}
use Rattle.flux_defs.specs.declared.journal.Command.{Command}
use Rattle.flux_defs.specs.declared.journal.Entry.{Entry}
use Rattle.flux_defs.specs.Graph.{ResourceGraph}
use Rattle.flux_defs.specs.Scheduler.{IsProper}
use Rattle.book_trials.proofs.replayed.decide_again.Goals as goal

pub decide-requires : goal.decide-requires
decide-requires c =
    let graph = c.args.core.now.setting.graph in
    let there : slice_get c.args.core.now.journal c.args.at ≡ Some c.in-Some.entry.now = sym c.in-Some.ensures in
    let proper = all_at (λ (e : Entry). IsProper graph.vertices e.command) c.args.core.now.journal c.args.at
    c.in-Some.entry.now c.is_sound.ensures.proper there in
    let copied = subst (λ (k : Command). IsProper graph.vertices k) (sym c.in_ok-command.ensures) proper in
    record {
      proper = subst (λ (k : ResourceGraph). IsProper k.vertices c.in_ok-command.command) (sym c.requires) copied;
    }
