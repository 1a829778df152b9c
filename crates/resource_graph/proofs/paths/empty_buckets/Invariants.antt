use Rattle.std.proofs.Common.{◌≤◌, ◌-◌, vec_len}
use Rattle.resource_graph.specs.Paths.{AreEmptyBuckets}
use Rattle.resource_graph.proofs.paths.empty_buckets.Given as goal

abbrev pub invariant-loop-buckets : goal.invariant-loop-buckets
invariant-loop-buckets l = AreEmptyBuckets l.buckets.items (vec_len l.buckets) × (vec_len l.buckets ≤ l.count)

abbrev pub decreases-loop-buckets : goal.decreases-loop-buckets
decreases-loop-buckets l = l.count - vec_len l.buckets
