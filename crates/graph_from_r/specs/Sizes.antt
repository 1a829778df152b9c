-- How many vertices a resource set gives.
use Rattle.std.specs.Prelude.{ℕ, ◌+◌, ◌*◌, List, length}
use Rattle.std.specs.List.{sum_by}
use Rattle.idset_text.specs.Idsets.{ids_of}
use Rattle.resource_set_r.specs.declared.sets_read.RRow.{RRow}

-- of an element: for each rank its node, and the cores and gpus of that
abbrev pub row_size : RRow → ℕ
row_size row = length (ids_of row.ranks) * (1 + length (ids_of row.cores) + length (ids_of row.gpus))

-- the cluster, and what the elements give
abbrev pub vertex_count : List RRow → ℕ
vertex_count rows = 1 + sum_by row_size rows
