use Rattle.std.proofs.Common.{rules}
use Rattle.turn_table.proofs.Turning.{ask_allows}
use Rattle.turn_table.proofs.turn.Turn.ask_to_wake.Goals as goal

pub compare_exchange-found-requires : goal.compare_exchange-found-requires
compare_exchange-found-requires g c =
    (search rules, search rules, ask_allows g.V.Logged.history g.V.Logged.setting _ _ _ _)
