-- Lists of the same spans have the same answers.
use Rattle.std.proofs.Common.{◌≡◌, ℕ, zero, suc, ◌+◌, ◌-◌, ◌<◌, ◌≤◌, nat_eq, List, [], ◌∷◌, ◌++◌, remove, slice_get}
use Rattle.std.proofs.Common.{sym, ◌∙◌, ap, arith, cond, ◌⊎◌, inl, inr, Option, Some, None}
use Rattle.std.specs.Prelude.{MatchOption, sum_by}
use Rattle.std.proofs.lemmas.Bool.{cases_lt}
use Rattle.std.proofs.lemmas.Bool.Decides.{nat_tests}
use Rattle.std.proofs.lemmas.List.Sums.{sum_by-cons, sum_by-append}
use Rattle.flux_defs.specs.declared.claims.Window.{Window}
use Rattle.planner_points.specs.declared.spans.Span.{Span}
use Rattle.planner_points.specs.Spans.{is_in, free_at, IsLeastFree, IsEnd, MayStart, IsFirstStart}
use Rattle.planner_points.specs.Lists.{AreSame, is_same, count_of}
use Rattle.planner_points.proofs.Ends.{IsNext}

-- a span more or less
pub same_with : (kept before after : List Span) (s : Span) → AreSame kept (before ++ after) →
    AreSame (kept ++ s ∷ []) (before ++ s ∷ after)
same_with kept before after s same f =
    omega (
      arith,
      same f,
      sum_by-append f kept (s ∷ []),
      sum_by-cons f s [],
      sum_by-append f before after,
      sum_by-append f before (s ∷ after),
      sum_by-cons f s after,
    )

sum_removed : (f : Span → ℕ) (spans : List Span) (at : ℕ) (s : Span) → slice_get spans at ≡ Some s →
    sum_by f (remove spans at) + f s ≡ sum_by f spans
sum_removed f [] at s e = absurd (cc)
sum_removed f (x ∷ spans) zero s e =
    let same : x ≡ s = cc in let g = ap f same in omega (arith, sum_by-cons f x spans)
sum_removed f (x ∷ spans) (suc at) s e =
    omega (arith, sum_by-cons f x spans, sum_by-cons f x (remove spans at), sum_removed f spans at s e)

pub same_without : (kept before after : List Span) (s : Span) (at : ℕ) → slice_get kept at ≡ Some s →
    AreSame kept (before ++ s ∷ after) → AreSame (remove kept at) (before ++ after)
same_without kept before after s at e same f =
    omega (
      arith,
      same f,
      sum_removed f kept at s e,
      sum_by-append f before after,
      sum_by-append f before (s ∷ after),
      sum_by-cons f s after,
    )

itself : (s : Span) → is_same s s ≡ 1
itself s = grind (arith, nat_tests)

pub same_has : (kept before after : List Span) (s : Span) → AreSame kept (before ++ s ∷ after) → 0 < count_of s kept
same_has kept before after s same =
    omega (
      arith,
      same (is_same s),
      sum_by-append (is_same s) before (s ∷ after),
      sum_by-cons (is_same s) s after,
      itself s,
    )

-- the same is free, and the same spans start and end
pub same_leaves : (total : ℕ) (kept spans : List Span) → AreSame kept spans → (m : ℕ) →
    free_at total kept m ≡ free_at total spans m
same_leaves total kept spans same m = ap (λ used. total - used) (same (λ s. cond (is_in s.window m) s.quantity 0))

at_time : ℕ → ℕ → ℕ
at_time t u = cond (nat_eq t u) 1 0

stands : ℕ → Span → ℕ
stands t s = at_time t s.window.from + at_time t s.window.to

one : (t u : ℕ) → (t ≡ u) ⊎ (at_time t u ≡ 0)
unfolding at_time
one t u = elim (cases_lt t u) [
  | inl lt ↦ inr (grind (arith, nat_tests))
  | inr ge ↦ elim (cases_lt u t) [ inl gt ↦ inr (grind (arith, nat_tests)) | inr le ↦ inl (omega arith) ]
]

here : (t u : ℕ) → t ≡ u → at_time t u ≡ 1
unfolding at_time
here t u e = grind (arith, nat_tests)

end_sum : (t : ℕ) (spans : List Span) → IsEnd spans t → 0 < sum_by (stands t) spans
unfolding stands
end_sum t [] h = absurd h
end_sum t (s ∷ spans) (inl (inl e)) = omega (arith, sum_by-cons (stands t) s spans, here t s.window.from e)
end_sum t (s ∷ spans) (inl (inr e)) = omega (arith, sum_by-cons (stands t) s spans, here t s.window.to e)
end_sum t (s ∷ spans) (inr h) = omega (arith, sum_by-cons (stands t) s spans, end_sum t spans h)

sum_end : (t : ℕ) (spans : List Span) → 0 < sum_by (stands t) spans → IsEnd spans t
unfolding stands
sum_end t [] h = absurd (omega arith)
sum_end t (s ∷ spans) h =
    elim (one t s.window.from) [
      | inl e ↦ inl (inl e)
      | inr z ↦ elim (one t s.window.to) [
        | inl e ↦ inl (inr e)
        | inr y ↦ inr (sum_end t spans (let c = sum_by-cons (stands t) s spans in omega arith))
      ]
    ]

pub same_end : (kept spans : List Span) → AreSame kept spans → (t : ℕ) → IsEnd kept t → IsEnd spans t
same_end kept spans same t end = sum_end t spans (let e = same (stands t) in let s = end_sum t kept end in omega arith)

back : (kept spans : List Span) → AreSame kept spans → AreSame spans kept
back kept spans same f = sym (same f)

-- so each answer for the one list is one for the other
pub least_same : (total : ℕ) (kept spans : List Span) (w : Window) (least : ℕ) → AreSame kept spans →
    IsLeastFree total kept w least → IsLeastFree total spans w least
least_same total kept spans w least same is = record {
  each = λ m a b. rw (← same_leaves total kept spans same m) (is.each m a b);
  reached = (
    is.reached.0,
    is.reached.1,
    is.reached.2,
    sym (same_leaves total kept spans same is.reached.0) ∙ is.reached.3,
  );
}

pub start_same : (total horizon : ℕ) (kept spans : List Span) (duration quantity t : ℕ) → AreSame kept spans →
    MayStart total horizon kept duration quantity t → MayStart total horizon spans duration quantity t
start_same total horizon kept spans duration quantity t same is = (
  is.0,
  λ m a b. rw (← same_leaves total kept spans same m) (is.1 m a b),
)

pub first_same : (total horizon : ℕ) (kept spans : List Span) (from duration quantity : ℕ) → AreSame kept spans →
    (best : Option ℕ) →
    MatchOption best ((t : ℕ) → from ≤ t → MayStart total horizon kept duration quantity t → ⊥)
    (IsFirstStart total horizon kept from duration quantity) →
    MatchOption best ((t : ℕ) → from ≤ t → MayStart total horizon spans duration quantity t → ⊥)
    (IsFirstStart total horizon spans from duration quantity)
first_same total horizon kept spans from duration quantity same None is =
    λ t a s. is t a (start_same total horizon spans kept duration quantity t (back kept spans same) s)
first_same total horizon kept spans from duration quantity same (Some t) is = record {
  later = is.later;
  starts = start_same total horizon kept spans duration quantity t same is.starts;
  least = λ u a s. is.least u a (start_same total horizon spans kept duration quantity u (back kept spans same) s);
}

pub next_same : (kept spans : List Span) (after : ℕ) → AreSame kept spans → (best : Option ℕ) → IsNext kept after best →
    IsNext spans after best
next_same kept spans after same None is = λ t a end. is t a (same_end spans kept (back kept spans same) t end)
next_same kept spans after same (Some t) is = record {
  later = is.later;
  end = same_end kept spans same t is.end;
  least = λ u a end. is.least u a (same_end spans kept (back kept spans same) u end);
}
