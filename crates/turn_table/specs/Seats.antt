-- What a seat shows.
use Rattle.std.specs.Prelude.{◌≡◌, ℕ, List, length, [], ◌∷◌, Option, Some, None}
use mathlib.Core.List.{IsPrefix}
use Rattle.atomic_table.specs.Seated.{TableId}
use Rattle.atomic_table.specs.declared.shared.Seat.{Seat}
use Rattle.turn_table.specs.declared.view.View.{View}
use Rattle.turn_table.specs.declared.view.TurnPhase.TheVariants.{Idle, Holding}
use Rattle.turn_table.specs.Positions.{RisesBelow}
use Rattle.turn_table.specs.Plays.{holds, Hand}

module _ {V E K : Type 0} where
  -- the history that the seat has seen
  abbrev pub seen : Seat (Option V) (View E K) → List E
  seen s = s.me.0.seen

  -- the positions of the entries that it added, or took in with a seat that did
  abbrev pub mine : Seat (Option V) (View E K) → List ℕ
  mine s = s.me.0.mine

  -- how many shares it has
  abbrev pub share : Seat (Option V) (View E K) → ℕ
  share s = s.me.0.share

  -- the seat is one of that table, whose values have that setting
  abbrev pub IsOf : TableId → K → Seat (Option V) (View E K) → Type 0
  IsOf id k s = (s.table_id ≡ id) × (s.me.0.setting ≡ Some k)

  -- its positions rise, and it has seen the entries there
  abbrev pub HasSeenItsOwn : Seat (Option V) (View E K) → Type 0
  HasSeenItsOwn s = RisesBelow (length (seen s)) (mine s)

  -- the seat has no turn
  abbrev pub Rests : Seat (Option V) (View E K) → Type 0
  Rests s = (s.me.1 ≡ []) × (s.me.0.phase ≡ Idle) × (s.me.0.earlier ≡ [])

  -- the seat has the turn, and the value was taken out of its slot
  abbrev pub HasTurn : Seat (Option V) (View E K) → Type 0
  HasTurn s = (s.me.1 ≡ (0, None) ∷ []) × (s.me.0.phase ≡ Holding) × (s.me.0.earlier ≡ [])

  -- the seat has the turn afterwards exactly where it had it before
  abbrev pub IsTurnAsBefore : Seat (Option V) (View E K) → Seat (Option V) (View E K) → Type 0
  IsTurnAsBefore s s' = (Rests s → Rests s') × (HasTurn s → HasTurn s')

  -- the seat has in hand the slot with this value in it
  abbrev pub HasInHand : Seat (Option V) (View E K) → V → Type 0
  HasInHand s value = s.me.1 ≡ (0, Some value) ∷ []

-- the seat has the turn, and in hand the value, whose history begins with what was seen
abbrev pub Took : {V E K : Type 0} → (V → List E) → (V → K) → K → View E K → Hand V E K → Type 0
Took history setting k v m' =
    (b : _) × (m' ≡ (holds (history b) v, (0, Some b) ∷ [])) × IsPrefix v.seen (history b) × (setting b ≡ k)
    × RisesBelow (length (history b)) v.mine
