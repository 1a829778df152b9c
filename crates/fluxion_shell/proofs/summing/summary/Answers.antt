use Rattle.std.proofs.Common.{sym, ◌∙◌, subst, arith}
use Rattle.std.specs.Arc.{arc_value}
use Rattle.std.specs.List.{AllByRecursion}
use Rattle.std.proofs.lemmas.Result.{IfOk-weaker}
use Rattle.flux_defs.specs.Scheduler.{IsProper}
use Rattle.resource_graph.specs.NamedGraph.{NamedGraph}
use Rattle.fluxion_lines.proofs.ClientLaws.{numbers_apart}
use Rattle.one_history.specs.Together.{NumbersApart}
use Rattle.asked_calls.specs.Calls.{served_held}
use Rattle.fluxion_shell.proofs.Summaries.{only_memory, few_clients, counts_fit, summed}
use Rattle.fluxion_shell.proofs.summing.summary.Goals as goal

pub memory_fault-requires : goal.memory_fault-requires
memory_fault-requires g c =
    only_memory c.in_ok-graph.graph c.args.commands c.in_ok-serving.serving.form c.bytes.result.now c.in-Err.fault
    c.in_ok-graph.ensures c.requires c.in_ok-serving.ensures.form (c.bytes.ensures
    ∙ c.in_ok-input.ensures) c.in-Err.ensures.over

pub played-requires-clause-few : goal.played-requires-clause-few
played-requires-clause-few g c = λ κs l.
    let few = few_clients c.in_ok-graph.graph c.args.commands c.in_ok-serving.serving.form c.bytes.result.now
    c.in-Ok.script c.requires
    (c.bytes.ensures ∙ c.in_ok-input.ensures) c.in-Ok.ensures.script in
    omega (arith, few)

pub played-requires-clause-proper : goal.played-requires-clause-proper
played-requires-clause-proper g c = λ κs l.
    subst (λ (h : NamedGraph). AllByRecursion (λ lines. AllByRecursion
    (λ l. IsProper h.resources.vertices l.command) lines)
    c.in-Ok.script.lines) (sym c.in_ok-graph-2.ensures.ok) c.in-Ok.ensures.proper

pub played-requires-clause-apart : goal.played-requires-clause-apart
played-requires-clause-apart g c = λ κs l.
    subst NumbersApart (sym c.in-Ok.ensures.script)
    (numbers_apart c.in_ok-graph.graph c.in_ok-serving.serving.form c.bytes.result.now)

pub counts_text-requires : goal.counts_text-requires
counts_text-requires g c = record {
  few = counts_fit _ _ _ c.in_ok-answered.answered.core c.in-Ok.script c.entries.result.now
      c.in_ok-answered.ensures.together c.entries.ensures;
}

pub returns : goal.returns
returns g c = IfOk-weaker c.counts_text.result _ _ (λ text is.
    summed c.args.commands (served_held c.in_ok-serving.serving) c.in_ok-graph.graph
    (arc_value c.in_ok-graph-2.graph) c.bytes.result.now
    c.in-Ok.script c.in_ok-answered.answered.core c.entries.result.now text c.requires c.in_ok-serving.ensures
    c.in_ok-graph.ensures
    c.in_ok-graph-2.ensures.ok (c.bytes.ensures
    ∙ c.in_ok-input.ensures) c.in_ok-answered.ensures.together c.in-Ok.ensures.script
    c.entries.ensures is) c.counts_text.ensures
