use Rattle.std.proofs.Common.{rules}
use Rattle.turn_table.proofs.Seating.{split_allows}
use Rattle.turn_table.proofs.turn.Turn.split.Goals as goal

pub split_seat-requires : goal.split_seat-requires
split_seat-requires g c =
    (search rules, search rules, split_allows g.V.Logged.history g.V.Logged.setting _ _ _ (search rules) (search rules))
