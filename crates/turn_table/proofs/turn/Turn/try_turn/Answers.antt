use Rattle.std.proofs.Common.{rules}
use Rattle.turn_table.proofs.Turning.{take_allows}
use Rattle.turn_table.proofs.turn.Turn.try_turn.Goals as goal

pub compare_exchange-requires : goal.compare_exchange-requires
compare_exchange-requires g c = (
  search rules,
  search rules,
  take_allows g.V.Logged.history g.V.Logged.setting _ _ _ c.requires.word _ _ _ (search rules),
)
