-- What spans leave free of a total.
use Rattle.std.specs.Prelude.{◌≡◌, ℕ, ◌+◌, ◌-◌, ◌<◌, ◌≤◌, Bool, ◌&&◌, nat_le, nat_lt, if◌then◌else◌, List, [], ◌∷◌}
use Rattle.std.specs.Prelude.{◌++◌, sum_by, ◌⊎◌}
use Rattle.flux_defs.specs.declared.claims.Window.{Window}
use Rattle.flux_defs.specs.Jobs.{EachMoment}
use Rattle.flux_defs.specs.Free.{IsLeastIn}
use Rattle.planner_points.specs.declared.spans.Span.{Span}

-- so much over this window
abbrev pub span_of : Window → ℕ → Span
span_of window quantity = record { window = window; quantity = quantity }

-- the moment is one of the window's, from its start on and before its end
abbrev pub is_in : Window → ℕ → Bool
is_in window m = nat_le window.from m && nat_lt m window.to

-- what the spans take at a moment
abbrev pub used_at : List Span → ℕ → ℕ
used_at spans m = sum_by (λ span. if is_in span.window m then span.quantity else 0) spans

-- what they leave of the total at a moment
abbrev pub free_at : ℕ → List Span → ℕ → ℕ
free_at total spans m = total - used_at spans m

-- so much is free at each moment of the window
abbrev pub HasRoom : ℕ → List Span → Window → ℕ → Type 0
HasRoom total spans window quantity = EachMoment window (λ m. quantity ≤ free_at total spans m)

-- so much is the least that is free over the window
abbrev pub IsLeastFree : ℕ → List Span → Window → ℕ → Type 0
IsLeastFree total spans window least = IsLeastIn window (λ m. free_at total spans m) least

-- the last moment of the window at which less than so much is free
pub record IsLastBelow (total : ℕ) (spans : List Span) (window : Window) (quantity t : ℕ) : Type 0 where
  pub later : window.from ≤ t
  pub sooner : t < window.to
  pub less : free_at total spans t < quantity
  pub last : (u : ℕ) → t < u → u < window.to → quantity ≤ free_at total spans u

-- some list of these lists has the span
abbrev pub HasSpan : (List Span → Type 0) → Span → Type 0
HasSpan StandsFor span = (before : List Span) × (after : List Span) × StandsFor (before ++ span ∷ after)

-- a span starts or ends at the moment
abbrev pub IsEnd : List Span → ℕ → Type 0
IsEnd [] t = ⊥
IsEnd (span ∷ spans) t = ((t ≡ span.window.from) ⊎ (t ≡ span.window.to)) ⊎ IsEnd spans t

-- the least start or end of a span that is later than a moment
pub record IsNextEnd (spans : List Span) (after t : ℕ) : Type 0 where
  pub later : after < t
  pub end : IsEnd spans t
  pub least : (u : ℕ) → after < u → IsEnd spans u → t ≤ u

-- so much is free from t on for so long, and all of that before the horizon ends
abbrev pub MayStart : ℕ → ℕ → List Span → ℕ → ℕ → ℕ → Type 0
MayStart total horizon spans duration quantity t =
    (t + duration ≤ horizon) × HasRoom total spans (record { from = t; to = t + duration }) quantity

-- the least moment from `from` on at which so much is free for so long
pub record IsFirstStart (total horizon : ℕ) (spans : List Span) (from duration quantity t : ℕ) : Type 0 where
  pub later : from ≤ t
  pub starts : MayStart total horizon spans duration quantity t
  pub least : (u : ℕ) → from ≤ u → MayStart total horizon spans duration quantity u → t ≤ u

-- the least moment from `from` on at which so much is free: that moment itself, or one at which a span starts or ends
pub record IsFirstFree (total : ℕ) (spans : List Span) (from quantity t : ℕ) : Type 0 where
  pub later : from ≤ t
  pub free : quantity ≤ free_at total spans t
  pub least : (u : ℕ) → from ≤ u → u < t → free_at total spans u < quantity
  pub at : (t ≡ from) ⊎ IsEnd spans t
