-- The next stretches of time, over each of which a number stays the same.
use Rattle.std.specs.Prelude.{◌≡◌, ℕ, ◌-◌, ◌<◌, ◌≤◌, ◌⊎◌, List, [], ◌∷◌}
use Rattle.planner_min_tree.specs.declared.near.Stretch.{Stretch}

-- stretches, the first of which begins at the moment
pub record Known : Type 0 where
  pub from : ℕ
  pub stretches : List Stretch

abbrev pub known : ℕ → List Stretch → Known
known from stretches = record { from = from; stretches = stretches }

-- from a moment on, stretch by stretch, the number at each moment is that of its stretch
abbrev pub AreStretches : (ℕ → ℕ) → ℕ → List Stretch → Type 0
AreStretches f from [] = Unit {0}
AreStretches f from (s ∷ stretches) =
    (from ≤ s.to) × ((m : ℕ) → from ≤ m → m < s.to → f m ≡ s.level) × AreStretches f s.to stretches

-- the moment at which the last stretch ends
abbrev pub end_of : ℕ → List Stretch → ℕ
end_of from [] = from
end_of from (s ∷ stretches) = end_of s.to stretches

-- the stretches become more, or stay: they are true of what these were true of and is so much from their end on
abbrev pub GoOn : (ℕ → ℕ) → List Stretch → ℕ → List Stretch → Type 0
GoOn g old from new = (f : ℕ → ℕ) (start : ℕ) → AreStretches f start old → end_of start old ≡ from →
    ((m : ℕ) → from ≤ m → f m ≡ g m) → AreStretches f start new

-- the number is so much at each moment from the one on and before the other
abbrev pub IsHigh : (ℕ → ℕ) → ℕ → ℕ → ℕ → Type 0
IsHigh f from to q = (m : ℕ) → from ≤ m → m < to → q ≤ f m

-- the last stretch of that time over which the number is less than so much ends there
pub record IsLastLow (f : ℕ → ℕ) (from to q end : ℕ) : Type 0 where
  pub later : from < end
  pub sooner : end ≤ to
  pub less : f (end - 1) < q
  pub high : IsHigh f end to q

-- the same, or the last before that time where the number is so much throughout it
abbrev pub IsLowEnd : (ℕ → ℕ) → ℕ → ℕ → ℕ → ℕ → ℕ → Type 0
IsLowEnd f from to q last end = (IsHigh f from to q × (end ≡ last)) ⊎ IsLastLow f from to q end

-- the first moment from the one on at which the number is so much
pub record IsFirstHigh (f : ℕ → ℕ) (from q t : ℕ) : Type 0 where
  pub later : from ≤ t
  pub high : q ≤ f t
  pub first : (m : ℕ) → from ≤ m → m < t → f m < q
