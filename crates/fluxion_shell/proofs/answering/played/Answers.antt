use Rattle.std.proofs.Common.{List, sym, ◌∙◌, ap, subst}
use Rattle.std.specs.List.{AllByRecursion}
use Rattle.flux_defs.specs.declared.vertices.Vertex.{Vertex}
use Rattle.flux_defs.specs.Scheduler.{IsProper}
use Rattle.resource_graph.specs.NamedGraph.{NamedGraph}
use Rattle.sched_core.specs.Courses.{Course}
use Rattle.fluxion_shell.proofs.answering.played.Goals as goal

pub play_script-requires-clause-proper : goal.play_script-requires-clause-proper
play_script-requires-clause-proper g c = λ κs l.
    let vertices = ap (λ (x : Course). x.setting.graph.vertices) c.in_ok-core.ensures
    ∙ ap (λ (h : NamedGraph). h.resources.vertices) c.in_ok-try_clone.ensures in
    subst (λ (vs : List Vertex). AllByRecursion (λ lines. AllByRecursion (λ l. IsProper vs l.command) lines)
    c.args.script.lines) (sym vertices) c.requires.proper
