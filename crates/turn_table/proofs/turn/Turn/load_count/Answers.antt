use Rattle.std.proofs.Common.{rules}
use Rattle.turn_table.proofs.Counting.{load_allows}
use Rattle.turn_table.proofs.turn.Turn.load_count.Goals as goal

pub load-requires : goal.load-requires
load-requires g c =
    (search rules, search rules, load_allows g.V.Logged.history g.V.Logged.setting _ _ _ _ _ (search rules))
