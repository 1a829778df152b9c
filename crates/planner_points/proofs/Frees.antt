-- The first moment at which so much is free is the asked one, or one at which a span starts or ends.
use Rattle.std.proofs.Common.{ℕ, ◌<◌, ◌≤◌, List, arith, inl, inr, Option, Some, None}
use Rattle.std.specs.Prelude.{MatchOption}
use Rattle.std.proofs.lemmas.Bool.{cases_lt}
use Rattle.planner_points.specs.declared.spans.Span.{Span}
use Rattle.planner_points.specs.Spans.{free_at, IsEnd, IsNextEnd, IsFirstFree}
use Rattle.planner_points.specs.Lists.{AreSame}
use Rattle.planner_points.proofs.Starts.{same_free}
use Rattle.planner_points.proofs.Sames.{same_leaves, same_end}

-- less is free at each moment from the one on and before the other
abbrev pub LessFrom : ℕ → List Span → ℕ → ℕ → ℕ → Type 0
LessFrom total spans quantity from t = (u : ℕ) → from ≤ u → u < t → free_at total spans u < quantity

module _ (total : ℕ) (spans : List Span) (quantity from t : ℕ) (less : LessFrom total spans quantity from t)
    (here : free_at total spans t < quantity) where
  -- less is free up to the next start or end of a span
  pub less_to_next : (next : ℕ) → IsNextEnd spans t next → LessFrom total spans quantity from next
  less_to_next next is u a b =
      elim (cases_lt u t) [
        | inl lt ↦ less u a lt
        | inr ge ↦ (let s = same_free total spans t u ge (λ e x y end. absurd (let l = is.least e x end in omega arith))
            in omega arith)
      ]

  -- and for ever where there is none
  pub less_for_ever : ((e : ℕ) → t < e → IsEnd spans e → ⊥) → (u : ℕ) → from ≤ u → free_at total spans u < quantity
  less_for_ever last u a =
      elim (cases_lt u t) [
        | inl lt ↦ less u a lt
        | inr ge ↦ (let s = same_free total spans t u ge (λ e x y end. last e x end) in omega arith)
      ]

-- lists of the same spans have the same first moment
pub first_free_same : (total : ℕ) (kept spans : List Span) (from quantity : ℕ) → AreSame kept spans →
    (found : Option ℕ) →
    MatchOption found ((t : ℕ) → from ≤ t → free_at total kept t < quantity) (IsFirstFree total kept from quantity) →
    MatchOption found ((t : ℕ) → from ≤ t → free_at total spans t < quantity) (IsFirstFree total spans from quantity)
first_free_same total kept spans from quantity same None is =
    λ t a. (let e = same_leaves total kept spans same t in let l = is t a in omega arith)
first_free_same total kept spans from quantity same (Some t) is = record {
  later = is.later;
  free = let e = same_leaves total kept spans same t in let l = is.free in omega arith;
  least = λ u a b. (let e = same_leaves total kept spans same u in let l = is.least u a b in omega arith);
  at = elim is.at [ inl e ↦ inl e | inr end ↦ inr (same_end kept spans same t end) ];
}
