use Rattle.std.proofs.Common.{◌≡◌, ◌+◌, ◌<◌, ◌^◌, drop, length}
use Rattle.prune_filters.specs.Demands.{capped}
use Rattle.dfu_match.specs.Tables.{needs_all}
use Rattle.dfu_match.proofs.wanting.+totalling.Given as goal

-- the needs that are left are missing
abbrev pub invariant-count_all-loop-need : goal.invariant-count_all-loop-need
invariant-count_all-loop-need l = record {
  small : l.total < 2 ^ 64;
  left : capped (l.total + length (needs_all (drop l.need-index l.need-items))) ≡ capped
      (length (needs_all l.need-items));
}
