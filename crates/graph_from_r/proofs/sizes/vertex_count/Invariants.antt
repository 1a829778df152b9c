use Rattle.std.proofs.Common.{◌≡◌, take}
use Rattle.std.specs.Prelude.{min}
use Rattle.graph_from_r.specs.Sizes.{vertex_count}
use Rattle.graph_from_r.proofs.sizes.vertex_count.Given as goal

-- what was counted
abbrev pub invariant-rows : goal.invariant-rows
invariant-rows l = l.count ≡ min (vertex_count (take l.row-index l.rows)) 65537
