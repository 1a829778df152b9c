use Rattle.std.proofs.Common.{arith}
use Rattle.vertex_planners.proofs.GroupLaws.{index_in}
use Rattle.vertex_planners.proofs.items.index_of.Goals as goal

pub overflow_mul-result : goal.overflow_mul-result
overflow_mul-result g c =
    let lt = index_in c.args.planners.now c.args.slot c.args.place c.requires in omega (arith, lt)

pub overflow_add-result : goal.overflow_add-result
overflow_add-result g c =
    let lt = index_in c.args.planners.now c.args.slot c.args.place c.requires in omega (arith, lt)

pub returns-clause-within : goal.returns-clause-within
returns-clause-within g c = index_in c.args.planners.now c.args.slot c.args.place c.requires
