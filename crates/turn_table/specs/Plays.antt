-- What each kind of step tells, and how it changes the view of the seat that makes it.
use Rattle.std.specs.Prelude.{◌≡◌, ◌≢◌, ℕ, ◌+◌, ◌-◌, nat_lt, if◌then◌else◌, List, [], ◌∷◌, ◌++◌, length, All, Option}
use Rattle.std.specs.Prelude.{Some}
use Rattle.std.specs.List.{range_with_len}
use mathlib.Core.List.{IsPrefix}
use Rattle.atomic_table.specs.Table.{Me, Step, rest}
use Rattle.turn_table.specs.declared.view.View.{View}
use Rattle.turn_table.specs.declared.view.TurnPhase.TheVariants.{Idle, Holding, Stored}
use Rattle.turn_table.specs.Positions.{RisesBelow, merged}

-- the longer of two lists
abbrev pub longer : {E : Type 0} → List E → List E → List E
longer xs ys = if nat_lt (length xs) (length ys) then ys else xs

module _ {E K : Type 0} where
  -- all of the history is seen, and the turn had
  abbrev pub holds : List E → View E K → View E K
  holds log v = record v { seen = log; phase = Holding }

  -- the history becomes this one, and the positions that it adds are the seat's
  abbrev pub stores : List E → View E K → View E K
  stores log v =
      record v {
        seen = log;
        mine = v.mine ++ range_with_len (length v.seen) (length log - length v.seen);
        phase = Stored;
      }

  -- the turn is given up
  abbrev pub rests : View E K → View E K
  rests v = record v { phase = Idle }

  -- all of the history is seen
  abbrev pub looks : List E → View E K → View E K
  looks log v = record v { seen = log; earlier = [] }

  -- one share is given away
  abbrev pub kept_share : View E K → View E K
  kept_share v = record v { share = v.share - 1 }

  -- the view of the seat that it is given to
  abbrev pub given_share : View E K → View E K
  given_share v = record { seen = v.seen; earlier = []; mine = []; share = 1; phase = Idle; setting = v.setting }

  -- another seat is taken in
  abbrev pub joined : View E K → View E K → View E K
  joined v w =
      record v {
        seen = longer v.seen w.seen;
        earlier = v.seen ∷ w.seen ∷ (v.earlier ++ w.earlier);
        mine = merged v.mine w.mine;
        share = v.share + w.share;
      }

-- what a seat knows, and the slots that it has in hand, each with its content
abbrev pub Hand : Type 0 → Type 0 → Type 0 → Type 0
Hand V E K = Me (Option V) (View E K)

module _ {V E K : Type 0} where
  module _ (history : V → List E) (setting : V → K) where
    -- the turn was free, and was taken with the value, whose history begins with what was seen; or nothing changed
    abbrev pub IsTurnTaken : Step (Option V) → Hand V E K → ℕ → Hand V E K → Type 0
    IsTurnTaken st m found m' =
        (found ≡ 0
        → (b : V) × (m' ≡ (holds (history b) m.0, (0, Some b) ∷ m.1)) × IsPrefix m.0.seen (history b)
        × (m.0.setting ≡ Some (setting b)) × RisesBelow (length (history b)) m.0.mine)
        × (found ≢ 0 → m' ≡ m)

  module _ (history : V → List E) where
    -- the history of the value in hand is now the history of all
    abbrev pub IsCountStored : Step (Option V) → Hand V E K → ℕ → Hand V E K → Type 0
    IsCountStored st m stored m' =
        (b : V) → m.1 ≡ (0, Some b) ∷ []
        → (m' ≡ (stores (history b) m.0, m.1)) × RisesBelow (length (history b)) m'.0.mine

  -- nothing changed for the seat
  abbrev pub IsNothingTold : Step (Option V) → Hand V E K → ℕ → Hand V E K → Type 0
  IsNothingTold st m found m' = m' ≡ m

  -- the turn and the slot were given up
  abbrev pub IsTurnGiven : Step (Option V) → Hand V E K → ℕ → Hand V E K → Type 0
  IsTurnGiven st m stored m' = m' ≡ (rests m.0, rest m.1)

  -- a history of this length was seen, which begins with all that was seen before
  abbrev pub IsSeen : ℕ → Hand V E K → Hand V E K → Type 0
  IsSeen found m m' =
      (log : List E) × (m' ≡ (looks log m.0, m.1)) × (length log ≡ found) × IsPrefix m.0.seen log
      × All (λ old. IsPrefix old log) m.0.earlier × RisesBelow (length log) m.0.mine

  -- a load of the count tells this
  abbrev pub IsCountSeen : Step (Option V) → Hand V E K → ℕ → Hand V E K → Type 0
  IsCountSeen st m found m' = IsSeen found m m'
