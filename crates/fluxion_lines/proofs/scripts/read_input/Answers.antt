use Rattle.std.proofs.Common.{◌<◌, List, length, sym, ◌∙◌, ap, subst}
use Rattle.std.specs.List.{AllByRecursion}
use Rattle.flux_defs.specs.declared.journal.Line.{Line}
use Rattle.flux_defs.specs.Scheduler.{IsProper}
use Rattle.fluxion_lines.specs.Inputs.{numbered_lines}
use Rattle.flux_defs.specs.declared.journal.ClientLine.{ClientLine}
use Rattle.fluxion_lines.proofs.ScriptLaws.{few_clients, proper_lists}
use Rattle.fluxion_lines.proofs.scripts.read_input.Goals as goal

pub by_client-requires : goal.by_client-requires
by_client-requires c =
    let few = few_clients c.args.graph.now c.args.form c.args.bytes.now in
    let count = sym (c.len.ensures ∙ ap length c.in-Ok.ensures.clients) in
    subst (λ (ls : List ClientLine). AllByRecursion (λ (l : ClientLine). l.client < c.len.result) ls)
    (sym c.in-Ok.ensures.lines)
    (subst (λ n. AllByRecursion (λ (l : ClientLine). l.client < n)
    (numbered_lines c.args.graph.now c.args.form c.args.bytes.now)) count few)

pub returns-clause-proper : goal.returns-clause-proper
returns-clause-proper c =
    let vertices = c.args.graph.now.resources.vertices in
    subst (AllByRecursion (λ (lines : List Line). AllByRecursion (λ (l : Line). IsProper vertices l.command) lines))
    (sym c.in_ok-lines.ensures)
    (proper_lists (IsProper vertices) c.len.result c.in-Ok.read.lines c.in-Ok.ensures.proper)
