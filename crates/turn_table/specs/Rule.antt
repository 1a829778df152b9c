-- The rule of the turn: what holds of the table between any two steps.
use Rattle.std.specs.Prelude.{◌≡◌, ◌≢◌, ◌⊎◌, ℕ, ◌<◌, List, [], ◌∷◌, length, sum_by, All, Option, Some, None}
use Rattle.std.specs.List.{range_with_len}
use mathlib.Core.Option.{some, none}
use mathlib.Core.Option as maybe
use mathlib.Core.List.{IsPrefix}
use lib.ListN.{get_elem?}
use Rattle.atomic_table.specs.Table.{State}
use Rattle.turn_table.specs.declared.view.TheConstants.{ALL_SHARES}
use Rattle.turn_table.specs.declared.view.View.{View}
use Rattle.turn_table.specs.declared.view.TurnPhase.TheVariants.{Idle}
use Rattle.turn_table.specs.Positions.{times, RisesBelow}

module _ {E K : Type 0} where
  -- the view of the first seat, where the first value has this history and this setting
  abbrev pub first_view : List E → K → View E K
  first_view log k =
      record {
        seen = log;
        earlier = [];
        mine = range_with_len 0 (length log);
        share = ALL_SHARES;
        phase = Idle;
        setting = Some k;
      }

  -- the view that a join leaves to the seat that was taken in
  abbrev pub spent : View E K
  spent = record { seen = []; earlier = []; mine = []; share = 0; phase = Idle; setting = None }

  -- What a view says is so, where the history is log and the setting is k: the history begins with what was seen, and
  -- with what was seen before a join; who has the turn has seen all; the positions rise, and the entries there were
  -- seen; only a spent view has no share.
  pub record Fits (log : List E) (k : K) (v : View E K) : Type 0 where
    pub seen : IsPrefix v.seen log
    pub earlier : All (λ old. IsPrefix old log) v.earlier
    pub current : v.phase ≢ Idle → v.seen ≡ log
    pub mine : RisesBelow (length v.seen) v.mine
    pub left : v.share ≡ 0 → v ≡ spent
    pub setting : 0 < v.share → v.setting ≡ Some k

  -- a fact of every view of the table
  abbrev pub Each : (View E K → Type 0) → List (View E K) → Type 0
  Each P views = (j : ℕ) (v : View E K) → get_elem? views j ≡ some v → P v

  -- a fact of every view but one
  abbrev pub EachOther : ℕ → (View E K → Type 0) → List (View E K) → Type 0
  EachOther i P views = (j : ℕ) (v : View E K) → j ≢ i → get_elem? views j ≡ some v → P v

  -- the view has no turn
  abbrev pub IsIdle : View E K → Type 0
  IsIdle v = v.phase ≡ Idle

  -- The views together have each position below n once and no other, and they have all the shares.
  pub record IsCounted (n : ℕ) (views : List (View E K)) : Type 0 where
    pub positions : (p : ℕ) → sum_by (λ v. times p v.mine) views ≡ times p (range_with_len 0 n)
    pub shares : sum_by (λ v. v.share) views ≡ ALL_SHARES

module _ {V E K : Type 0} (history : V → List E) (setting : V → K) (k : K) where
  -- what is at home in each slot
  abbrev Homes : Type 0
  Homes = List (maybe.Option (Option V))

  -- Nobody has the turn, and the value is at home: it stands for the history.
  pub record IsFree (log : List E) (turn : ℕ) (homes : Homes) (views : List (View E K)) : Type 0 where
    pub value : V
    pub turn_is : turn ≡ 0
    pub home : homes ≡ some (Some value) ∷ []
    pub stands_for : history value ≡ log
    pub setting_is : setting value ≡ k
    pub idle : Each IsIdle views

  -- One seat has the turn, and the slot is out with it. The turn word says no more than that.
  pub record IsTaken (turn : ℕ) (homes : Homes) (views : List (View E K)) : Type 0 where
    pub holder : ℕ
    pub holds : View E K
    pub turn_is : turn ≢ 0
    pub home : homes ≡ none ∷ []
    pub at : get_elem? views holder ≡ some holds
    pub busy : holds.phase ≢ Idle
    pub others : EachOther holder IsIdle views

  -- There is one history, log. The words are the turn and its length.
  pub record IsKept (s : State (Option V) (View E K)) : Type 0 where
    pub log : List E
    pub turn : ℕ
    pub words : s.words ≡ turn ∷ length log ∷ []
    pub fits : Each (Fits log k) s.views
    pub counted : IsCounted (length log) s.views
    pub place : IsFree log turn s.homes s.views ⊎ IsTaken turn s.homes s.views
