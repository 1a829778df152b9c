use Rattle.std.proofs.Common.{rules}
use Rattle.turn_table.proofs.Seating.{join_allows, mine_joined}
use Rattle.turn_table.proofs.turn.Turn.join.Goals as goal

pub join_seat-requires : goal.join_seat-requires
join_seat-requires g c = (
  search rules,
  search rules,
  search rules,
  search rules,
  join_allows g.V.Logged.history g.V.Logged.setting _ _ _ _ _
      (search rules) (search rules) (search rules) (search rules),
)

pub returns-clause-mine : goal.returns-clause-mine
returns-clause-mine g c p =
    mine_joined p _ _ c.args.seat.now.me.0 c.args.other.me.0 _ _ c.join_seat.ensures.2 c.load_count.ensures.looked.1
