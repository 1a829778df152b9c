use Rattle.std.proofs.Common.{◌∷◌, []}
use Rattle.asked_calls.proofs.RuleTexts.{all_cores, core_rules}
use Rattle.asked_calls.proofs.calls.plain_serving.Goals as goal

pub unreachable-requires : goal.unreachable-requires
unreachable-requires c =
    let none = rw c.in_default.is at c.in_ok-rules.ensures in none (all_cores ∷ []) core_rules
