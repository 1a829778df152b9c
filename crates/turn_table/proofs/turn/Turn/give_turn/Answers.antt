use Rattle.std.proofs.Common.{rules}
use Rattle.turn_table.proofs.Turning.{give_allows}
use Rattle.turn_table.proofs.turn.Turn.give_turn.Goals as goal

pub swap-found-requires : goal.swap-found-requires
swap-found-requires g c =
    let h = c.requires.hand in (
      search rules,
      search rules,
      give_allows g.V.Logged.history g.V.Logged.setting _ _ _ _ h.0 h.1 (search rules) (search rules) h.2 h.3,
    )
