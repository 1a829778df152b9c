-- There are at most two points for each span.
use Rattle.std.proofs.Common.{◌≡◌, ℕ, zero, suc, ◌+◌, ◌*◌, ◌<◌, ◌≤◌, List, [], ◌∷◌, length, arith, inl, inr}
use Rattle.std.proofs.lemmas.Bool.{cases_lt}
use Rattle.flux_defs.proofs.DigitLaws.{if_le, if_gt}
use Rattle.planner_points.specs.declared.spans.Span.{Span}
use Rattle.planner_min_tree.specs.declared.points.Point.{Point}
use Rattle.planner_min_tree.specs.Points.{latest_of}
use Rattle.planner_min_tree.specs.Marks.{Tallies, at}
use Rattle.planner_min_tree.proofs.Sums.{when_until, until, until_zero, until_suc}
use Rattle.planner_min_tree.specs.Chunks.{Each}

until_both : {X Y : Type 0} (time f : X → ℕ) (start stop g : Y → ℕ) (xs : List X) (ys : List Y) →
    ((t : ℕ) → at time f t xs ≡ at start g t ys + at stop g t ys) → (m : ℕ) →
    until time f m xs ≡ until start g m ys + until stop g m ys
until_both time f start stop g xs ys h zero = omega (
  arith,
  until_zero time f xs,
  until_zero start g ys,
  until_zero stop g ys,
  h 0,
)
until_both time f start stop g xs ys h (suc m) =
    omega (
      arith,
      until_suc time f m xs,
      until_suc start g m ys,
      until_suc stop g m ys,
      h (suc m),
      until_both time f start stop g xs ys h m,
    )

one_at_most : (m u : ℕ) → when_until m u 1 ≤ 1
one_at_most m u = elim (cases_lt m u) [
  | inl lt ↦ (let e : when_until m u 1 ≡ 0 = if_gt {a = u} {b = m} _ _ lt in omega arith)
  | inr le ↦ (let e : when_until m u 1 ≡ 1 = if_le {a = u} {b = m} _ _ le in omega arith)
]

until_most : {Y : Type 0} (time : Y → ℕ) (m : ℕ) (ys : List Y) → until time (λ y. 1) m ys ≤ length ys
until_most time m [] = omega arith
until_most time m (y ∷ ys) = omega (arith, one_at_most m (time y), until_most time m ys)

points_least : (m : ℕ) (ps : List Point) → latest_of ps ≤ m → Each (λ p. 0 < p.ends) ps →
    length ps ≤ until (λ p. p.time) (λ p. p.ends) m ps
points_least m [] h some = omega arith
points_least m (p ∷ ps) h some =
    let e : when_until m p.time p.ends ≡ p.ends = if_le {a = p.time} {b = m} _ _ (omega arith) in
    omega (arith, some.0, points_least m ps (omega arith) some.1)

pub two_points : (total : ℕ) (points : List Point) (spans : List Span) → Tallies total points spans →
    length points ≤ 2 * length spans
two_points total points spans marks =
    let m = latest_of points in
    omega (
      arith,
      points_least m points (omega arith) marks.some,
      until_both (λ (p : Point). p.time) (λ p. p.ends) (λ (s : Span). s.window.from) (λ s. s.window.to)
          (λ s. 1) points spans marks.ends m,
      until_most (λ (s : Span). s.window.from) m spans,
      until_most (λ (s : Span). s.window.to) m spans,
    )
