-- The next start or end of spans, span by span.
use Rattle.std.proofs.Common.{◌≡◌, ℕ, ◌<◌, ◌≤◌, min, List, ◌∷◌, refl, sym, subst, arith, ◌⊎◌, inl, inr}
use Rattle.std.proofs.Common.{Option, Some, None}
use Rattle.std.specs.Prelude.{MatchOption}
use Rattle.std.proofs.lemmas.Bool.{cases_lt}
use Rattle.flux_defs.proofs.DigitLaws.{if_le, if_gt}
use Rattle.planner_points.specs.declared.spans.Span.{Span}
use Rattle.planner_points.specs.Spans.{IsEnd, IsNextEnd}
use Rattle.planner_points.specs.Lists.{sooner}

-- the answer is the least later moment with the fact, and none where there is no such moment
abbrev IsNextOf : (ℕ → Type 0) → ℕ → Option ℕ → Type 0
IsNextOf P after None = (t : ℕ) → after < t → P t → ⊥
IsNextOf P after (Some n) = (after < n) × P n × ((u : ℕ) → after < u → P u → n ≤ u)

one_more : (P : ℕ → Type 0) (after t : ℕ) (best : Option ℕ) → IsNextOf P after best →
    IsNextOf (λ u. (u ≡ t) ⊎ P u) after (sooner best t after)
one_more P after t None is =
    elim (cases_lt after t) [
      | inl lt ↦ subst (IsNextOf (λ u. (u ≡ t) ⊎ P u) after) (sym (if_gt {a = t} {b = after} None (Some t) lt)) (
        lt,
        inl refl,
        λ u a p. elim p [ inl e ↦ omega arith | inr q ↦ absurd (is u a q) ],
      )
      | inr ge ↦ subst (IsNextOf (λ u. (u ≡ t) ⊎ P u) after) (sym (if_le {a = t} {b = after} None (Some t) ge))
          (λ u a p. elim p [ inl e ↦ absurd (omega arith) | inr q ↦ is u a q ])
    ]
one_more P after t (Some b) is =
    elim (cases_lt after t) [
      | inl lt ↦ subst (IsNextOf (λ u. (u ≡ t) ⊎ P u) after)
          (sym (if_gt {a = t} {b = after} (Some b) (Some (min b t)) lt)) (
            let first = is.0 in omega arith,
            elim (cases_lt b t) [
              | inl less ↦ (let e : b ≡ min b t = omega arith in inr (subst P e is.1))
              | inr most ↦ inl (omega arith)
            ],
            λ u a p. elim p [ inl e ↦ omega arith | inr q ↦ (let l = is.2 u a q in omega arith) ],
          )
      | inr ge ↦ subst (IsNextOf (λ u. (u ≡ t) ⊎ P u) after)
          (sym (if_le {a = t} {b = after} (Some b) (Some (min b t)) ge)) (
            is.0,
            inr is.1,
            λ u a p. elim p [ inl e ↦ absurd (omega arith) | inr q ↦ is.2 u a q ],
          )
    ]

abbrev pub IsNext : List Span → ℕ → Option ℕ → Type 0
IsNext spans after best = MatchOption best ((t : ℕ) → after < t → IsEnd spans t → ⊥) (IsNextEnd spans after)

next_of : (spans : List Span) (after : ℕ) (best : Option ℕ) → IsNext spans after best →
    IsNextOf (IsEnd spans) after best
next_of spans after None is = is
next_of spans after (Some n) is = (is.later, is.end, is.least)

-- the next end of a list is the soonest of the first span's and the rest's
pub next_cons : (s : Span) (spans : List Span) (after : ℕ) (best : Option ℕ) → IsNext spans after best →
    IsNext (s ∷ spans) after (sooner (sooner best s.window.to after) s.window.from after)
next_cons s spans after best is =
    told _ (one_more (λ u. (u ≡ s.window.to) ⊎ IsEnd spans u) after s.window.from (sooner best s.window.to after)
    (one_more (IsEnd spans) after s.window.to best (next_of spans after best is)))
  where
    to_end : (u : ℕ) → (u ≡ s.window.from) ⊎ ((u ≡ s.window.to) ⊎ IsEnd spans u) → IsEnd (s ∷ spans) u
    to_end u (inl e) = inl (inl e)
    to_end u (inr (inl e)) = inl (inr e)
    to_end u (inr (inr h)) = inr h

    of_end : (u : ℕ) → IsEnd (s ∷ spans) u → (u ≡ s.window.from) ⊎ ((u ≡ s.window.to) ⊎ IsEnd spans u)
    of_end u (inl (inl e)) = inl e
    of_end u (inl (inr e)) = inr (inl e)
    of_end u (inr h) = inr (inr h)

    told : (best : Option ℕ) → IsNextOf (λ u. (u ≡ s.window.from) ⊎ ((u ≡ s.window.to) ⊎ IsEnd spans u)) after best →
        IsNext (s ∷ spans) after best
    told None is = λ t a h. is t a (of_end t h)
    told (Some n) is = record { later = is.0; end = to_end n is.1; least = λ u a h. is.2 u a (of_end u h) }
