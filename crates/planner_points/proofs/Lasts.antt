-- The last moment at which less than so much is free is the last of a stretch over which no span starts or ends.
use Rattle.std.proofs.Common.{◌≡◌, ℕ, ◌-◌, ◌<◌, ◌≤◌, List, sym, arith, inl, inr, Option, Some, None}
use Rattle.std.specs.Prelude.{MatchOption}
use Rattle.std.proofs.lemmas.Bool.{cases_lt}
use Rattle.flux_defs.specs.declared.claims.Window.{Window}
use Rattle.planner_points.specs.declared.spans.Span.{Span}
use Rattle.planner_points.specs.Spans.{free_at, HasRoom, IsEnd, IsLastBelow}
use Rattle.planner_points.specs.Lists.{AreSame}
use Rattle.planner_points.proofs.Starts.{same_free}
use Rattle.planner_points.proofs.Sames.{same_leaves}

-- the answer is the last moment of the window at which less than so much is free, and none where there is none
abbrev pub IsLast : ℕ → List Span → Window → ℕ → Option ℕ → Type 0
IsLast total spans window quantity found = MatchOption found (HasRoom total spans window quantity)
    (IsLastBelow total spans window quantity)

-- the window from the one moment up to the other
abbrev pub up_to : ℕ → ℕ → Window
up_to from to = record { from = from; to = to }

pub last_first : (total : ℕ) (spans : List Span) (from quantity : ℕ) →
    IsLast total spans (up_to from from) quantity None
last_first total spans from quantity m a b = absurd (omega arith)

module _ (total : ℕ) (spans : List Span) (from quantity t end : ℕ) (later : from ≤ t) (some : t < end)
    (same : (e : ℕ) → t < e → e < end → IsEnd spans e → ⊥) where
  -- over the stretch what is free is the same
  same_free_to : (u : ℕ) → t ≤ u → u < end → free_at total spans u ≡ free_at total spans t
  same_free_to u lo hi = sym (same_free total spans t u lo (λ e x y. same e x (omega arith)))

  -- less is free over the stretch
  pub last_here : free_at total spans t < quantity → IsLast total spans (up_to from end) quantity (Some (end - 1))
  last_here less = record {
    later = omega arith;
    sooner = omega arith;
    less = let e = same_free_to (end - 1) (omega arith) (omega arith) in omega arith;
    last = λ u a b. absurd (omega arith);
  }

  -- so much is free over it
  pub last_before : quantity ≤ free_at total spans t → (last : Option ℕ) →
      IsLast total spans (up_to from t) quantity last → IsLast total spans (up_to from end) quantity last
  last_before much None is = λ u a b. elim (cases_lt u t) [
    | inl lt ↦ is u a lt
    | inr ge ↦ (let e = same_free_to u ge b in omega arith)
  ]
  last_before much (Some s) is = record {
    later = is.later;
    sooner = let l = is.sooner in omega arith;
    less = is.less;
    last = λ u a b. elim (cases_lt u t) [
      | inl lt ↦ is.last u a lt
      | inr ge ↦ (let e = same_free_to u ge b in omega arith)
    ];
  }

-- lists of the same spans have the same last moment
pub last_same : (total : ℕ) (kept spans : List Span) (window : Window) (quantity : ℕ) → AreSame kept spans →
    (found : Option ℕ) → IsLast total kept window quantity found → IsLast total spans window quantity found
last_same total kept spans window quantity same None is =
    λ t a b. (let e = same_leaves total kept spans same t in let l = is t a b in omega arith)
last_same total kept spans window quantity same (Some t) is = record {
  later = is.later;
  sooner = is.sooner;
  less = let e = same_leaves total kept spans same t in let l = is.less in omega arith;
  last = λ u a b. (let e = same_leaves total kept spans same u in let l = is.last u a b in omega arith);
}
