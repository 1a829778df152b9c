use Rattle.vertex_planners.specs.Groups.{sixteenths}
use Rattle.vertex_planners.proofs.GroupLaws.{more_group}
use Rattle.vertex_planners.proofs.planners.VertexPlanners.push_group.Goals as goal

pub returns-in-Ok-clause-ok : goal.returns-in-Ok-clause-ok
returns-in-Ok-clause-ok g c = (
  sixteenths c.in_ok-group.group 0,
  more_group c.args.self.now.groups c.args.self.now.spare.count c.push.new.self c.in_ok-group.group c.requires
      c.in-Ok.ensures.ok,
  c.in_ok-group.ensures,
)
