-- Lists of the same spans.
use Rattle.std.specs.Prelude.{◌≡◌, ℕ, ◌-◌, min, ◌&&◌, nat_le, nat_eq, if◌then◌else◌, Option, Some, None, List, sum_by}
use Rattle.std.proofs.Common.{ap, sym, ◌∙◌}
use Rattle.planner_points.specs.declared.spans.Span.{Span}
use Rattle.planner_points.specs.declared.span_list.SpanList.{SpanList}
use Rattle.planner_points.specs.Spans.{is_in, free_at}

-- each sum over the one list is that over the other, so each has every span as often as the other
abbrev pub AreSame : List Span → List Span → Type 0
AreSame some others = (f : Span → ℕ) → sum_by f some ≡ sum_by f others

-- 1 where the two spans are the same, else 0
abbrev pub is_same : Span → Span → ℕ
is_same span other =
    if nat_eq span.window.from other.window.from && nat_eq span.window.to other.window.to
    && nat_eq span.quantity other.quantity then 1 else 0

-- how often a list has the span
abbrev pub count_of : Span → List Span → ℕ
count_of span spans = sum_by (is_same span) spans

-- the one of two seconds that comes sooner, of those after a moment
abbrev pub sooner : Option ℕ → ℕ → ℕ → Option ℕ
sooner None t after = if nat_le t after then None else Some t
sooner (Some best) t after = if nat_le t after then Some best else Some (min best t)

-- lists of the same spans leave the same
abbrev pub same_free_of : (planner : SpanList) (some others : List Span) → AreSame planner.spans some →
    AreSame planner.spans others → (m : ℕ) → free_at planner.total some m ≡ free_at planner.total others m
same_free_of planner some others a b m =
    ap (λ used. planner.total - used) (sym (a (λ span. if is_in span.window m then span.quantity else 0))
    ∙ b (λ span. if is_in span.window m then span.quantity else 0))
