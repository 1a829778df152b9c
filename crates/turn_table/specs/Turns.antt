-- What a turn shows.
use Rattle.std.specs.Prelude.{Option}
use Rattle.atomic_table.specs.declared.shared.Seat.{Seat}
use Rattle.turn_table.specs.declared.turn.Turn.{Turn}
use Rattle.turn_table.specs.declared.view.View.{View}
use Rattle.turn_table.specs.Seats.{IsOf, HasSeenItsOwn}

module _ {V E K : Type 0} (setting : V → K) where
  -- the setting of its values
  abbrev pub setting_of : Turn V E K → K
  setting_of t = setting t.table.shared.key.value

  -- the seat is at this turn
  abbrev pub Stands : Turn V E K → Seat (Option V) (View E K) → Type 0
  Stands t s = IsOf t.table.shared.table_id (setting_of t) s

  -- the seat is at this turn, its positions rise, and it has seen the entries there
  abbrev pub Belongs : Turn V E K → Seat (Option V) (View E K) → Type 0
  Belongs t s = Stands t s × HasSeenItsOwn s
