use Rattle.std.proofs.Common.{◌≡◌, min, take}
use Rattle.std.specs.Prelude.{sum_by}
use Rattle.flux_defs.specs.Jobs.{take_of}
use Rattle.plain_jobs.proofs.takes.taken_by.Given as goal

-- what the claims so far take
abbrev pub invariant-loop-claim : goal.invariant-loop-claim
invariant-loop-claim l = l.sum ≡ min (sum_by (take_of l.vertex) (take l.claim-index l.claims)) 18446744073709551615
