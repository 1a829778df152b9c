use Rattle.std.proofs.Common.{◌-◌, arith}
use Rattle.list_laws.proofs.Lists.{get_some}
use Rattle.vertex_planners.specs.Groups.{sixteenths}
use Rattle.vertex_planners.proofs.GroupLaws.{more_beside, same_length}
use Rattle.vertex_planners.proofs.planners.VertexPlanners.push_beside.Goals as goal

pub returns-in-Err-clause-len : goal.returns-in-Err-clause-len
returns-in-Err-clause-len g c =
    let new = c.change.ensures.new in
    same_length c.args.self.now.groups c.args.self.now.spare.count c.change.new.self (c.len-last.result - 1)
    new.0 new.1

pub returns-in-Ok-clause-ok : goal.returns-in-Ok-clause-ok
returns-in-Ok-clause-ok g c =
    let new = c.in-Ok.ensures.new in
    let groups = c.args.self.now.groups in
    let spare = c.args.self.now.spare.count in
    let some = c.requires.groups in
    let len = c.len-last.ensures in
    let (x, was) = get_some groups (c.len-last.result - 1) (omega (arith, some, len)) in
    let made = new.2 x was in (
      sixteenths new.0 (16 - spare),
      more_beside groups spare (c.len-last.result - 1) c.change.new.self x new.0 c.args.self.now.spare.few
          c.requires.spare some (omega (arith, len)) was new.1 made.1,
      made.0,
    )
