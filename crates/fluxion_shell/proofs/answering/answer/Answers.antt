use Rattle.std.proofs.Common.{◌≤◌, length, refl, sym, ◌∙◌, ap, subst, arith}
use Rattle.std.specs.Arc.{arc_value}
use Rattle.std.specs.List.{AllByRecursion}
use Rattle.flux_defs.specs.declared.journal.Script.{Script}
use Rattle.flux_defs.specs.declared.limits.TheConstants.{SHIPPED}
use Rattle.flux_defs.specs.Scheduler.{IsProper}
use Rattle.resource_graph.specs.NamedGraph.{NamedGraph}
use Rattle.fluxion_lines.specs.Inputs.{over_in}
use Rattle.fluxion_lines.proofs.ClientLaws.{numbers_apart, few_clients_within}
use Rattle.one_history.specs.Together.{NumbersApart}
use Rattle.asked_calls.specs.Calls.{served_held}
use Rattle.fluxion_shell.proofs.Output.{held_output}
use Rattle.fluxion_shell.proofs.answering.answer.Goals as goal

pub played-requires-clause-few : goal.played-requires-clause-few
played-requires-clause-few g c = λ κs l.
    let graph = c.args.graph in
    let form = c.args.serving.form in
    let input = c.args.input.now in
    let within = ap (λ l. over_in l graph form input) (sym c.shipped.ensures) ∙ c.in-Ok.ensures.within refl in
    let few : length c.in-Ok.script.lines ≤ SHIPPED.clients =
    subst (λ (s : Script). length s.lines ≤ SHIPPED.clients)
    (sym c.in-Ok.ensures.script) (few_clients_within SHIPPED graph form input within) in
    omega (arith, few)

pub played-requires-clause-proper : goal.played-requires-clause-proper
played-requires-clause-proper g c = λ κs l.
    subst (λ (h : NamedGraph).
    AllByRecursion (λ lines. AllByRecursion (λ l. IsProper h.resources.vertices l.command) lines)
    c.in-Ok.script.lines) (sym c.in_ok-graph.ensures.ok) c.in-Ok.ensures.proper

pub played-requires-clause-apart : goal.played-requires-clause-apart
played-requires-clause-apart g c = λ κs l.
    subst NumbersApart (sym c.in-Ok.ensures.script) (numbers_apart c.args.graph c.args.serving.form c.args.input.now)

pub returns-clause-output : goal.returns-clause-output
returns-clause-output g c =
    let graph = c.args.graph in
    let input = c.args.input.now in
    let together = c.in_ok-clients.field-0.core in
    let within = ap (λ l. over_in l graph c.args.serving.form input) (sym c.shipped.ensures)
    ∙ c.in-Ok.ensures.within refl in
    held_output (served_held c.args.serving) graph (arc_value c.in_ok-graph.graph) c.deref.result.now input
    c.in-Ok.script together
    c.in_ok-clients.field-0.clients c.entries.result.now c.in_ok-text.text c.in_ok-graph.ensures.ok c.deref.ensures
    c.in_ok-clients.ensures.together c.in-Ok.ensures.script c.in_ok-clients.ensures.clients
    c.entries.ensures
    c.in_ok-text.ensures.text c.in_ok-text.ensures.lines (c.in_ok-text.ensures.few refl) within
