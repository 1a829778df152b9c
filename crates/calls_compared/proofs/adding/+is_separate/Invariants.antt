use Rattle.std.proofs.Common.{length}
use Rattle.calls_compared.proofs.adding.+is_separate.Given as goal

abbrev pub decreases-is_separate : goal.decreases-is_separate
decreases-is_separate l = length l.others.now
