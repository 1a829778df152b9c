use Rattle.resource_graph.proofs.PathLaws.{step_before, no_step, has_suffix}
use Rattle.resource_graph.proofs.paths.before_step.Goals as goal

pub returns-in-Some : goal.returns-in-Some
returns-in-Some c = step_before c.args.text.now c.args.name.now c.in-Some.before.now _
    (has_suffix _ c.args.text.now c.args.name.now c.in-Some.before.now c.in-Some.ensures.cases.0
    c.in-Some.ensures.cases.1)
    c.strip_suffix-in-Some.ensures.cases

pub returns-in-None : goal.returns-in-None
returns-in-None c = λ rest. no_step c.args.text.now c.args.name.now rest c.in-None.ensures.cases
