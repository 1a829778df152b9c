use Rattle.std.proofs.Common.{◌≡◌, take}
use Rattle.vertex_planners.proofs.groups.GroupShare.share.Given as goal

-- the planners so far are shared
abbrev pub invariant-loop-planner : goal.invariant-loop-planner
invariant-loop-planner g l = l.planners ≡ take l.planner-index l.self
