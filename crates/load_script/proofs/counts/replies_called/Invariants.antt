use Rattle.std.proofs.Common.{◌≡◌, ◌+◌, ◌≤◌, drop}
use Rattle.load_script.specs.Counts.{replies_called}
use Rattle.load_script.proofs.counts.replies_called.Given as goal

-- the replies that are left complete the count
abbrev pub invariant-loop-at : goal.invariant-loop-at
invariant-loop-at g l =
    (replies_called l.word l.history ≡ l.count + replies_called l.word (drop l.at l.history)) × (l.count ≤ l.at)
