-- The first moment from one on at which so much is free, by the points.
use Rattle.std.proofs.Common.{◌≡◌, ℕ, ◌<◌, ◌≤◌, List, [], ◌∷◌, refl, sym, ◌∙◌, subst, arith, inl, inr, Option, Some}
use Rattle.std.proofs.Common.{None}
use Rattle.std.specs.Prelude.{MatchOption}
use Rattle.std.proofs.lemmas.Bool.{cases_lt}
use Rattle.flux_defs.proofs.DigitLaws.{if_le, if_gt}
use Rattle.planner_points.specs.declared.spans.Span.{Span}
use Rattle.planner_points.specs.Spans.{free_at, IsFirstFree}
use Rattle.planner_min_tree.specs.declared.points.Point.{Point}
use Rattle.planner_min_tree.specs.Chunks.{Each}
use Rattle.planner_min_tree.specs.Points.{past, value_at, first_rise, rise_after}
use Rattle.planner_min_tree.specs.Marks.{IsRising, Marks, ends_at}
use Rattle.planner_min_tree.proofs.Sums.{now_at, at_none, each_of}
use Rattle.planner_min_tree.proofs.Nexts.{some_end}

-- the number before the first point is that at the start
early_value : (m : ℕ) (ps : List Point) (x : ℕ) → Each (λ p. m < p.time) ps → value_at m ps x ≡ x
early_value m [] x later = refl
early_value m (p ∷ ps) x later = if_gt {a = p.time} {b = m} _ _ later.0

-- the moment is the time of a point, it is the first at which the number is so much, and before it the number is less
pub record IsRise (ps : List Point) (x q t : ℕ) : Type 0 where
  pub high : q ≤ value_at t ps x
  pub point : 0 < ends_at ps t
  pub less : (u : ℕ) → u < t → value_at u ps x < q

-- a moment with a point isn't before the first of them
not_early : (m t : ℕ) (ps : List Point) → Each (λ p. m < p.time) ps → 0 < ends_at ps t → m < t
not_early m t ps later some = elim (cases_lt m t) [
  | inl lt ↦ lt
  | inr ge ↦ (
      let far = each_of (λ (p : Point) (h : m < p.time). let f : t < p.time = omega arith in f) ps later in
      let none = at_none (λ (p : Point). p.time) (λ p. p.ends) t ps far in
      absurd (omega arith))
]

rise_is : (ps : List Point) (x q t : ℕ) → IsRising ps → Each (λ p. 0 < p.ends) ps → x < q →
    first_rise q ps x ≡ Some t → IsRise ps x q t
rise_is [] x q t rise some less e = absurd (cc)
rise_is (p ∷ ps) x q t rise some less e =
    let before : (u : ℕ) → u < p.time → value_at u (p ∷ ps) x ≡ x = λ u h. if_gt {a = p.time} {b = u} _ _ h in
    let on : (u : ℕ) → p.time ≤ u → value_at u (p ∷ ps) x ≡ value_at u ps (past p x)
    = λ u h. if_le {a = p.time} {b = u} _ _ h in
    elim (cases_lt (past p x) q) [
      | inl lt ↦ (
          let ih = rise_is ps (past p x) q t rise.1 some.1 lt (sym (if_gt {a = q} {b = past p x} _ _ lt) ∙ e) in
          let after = not_early p.time t ps rise.0 ih.point in
          record {
            high = omega (arith, on t (omega arith), ih.high);
            point = omega (arith, ih.point);
            less = λ u h. elim (cases_lt u p.time) [
              | inl early ↦ omega (arith, before u early)
              | inr late ↦ omega (arith, on u late, ih.less u h)
            ];
          })
      | inr ge ↦ (
          let this : first_rise q (p ∷ ps) x ≡ Some p.time = if_le {a = q} {b = past p x} _ _ ge in
          let same : p.time ≡ t = cc in
          let here = early_value p.time ps (past p x) rise.0 in
          let there : IsRise (p ∷ ps) x q p.time = record {
            high = omega (arith, on p.time (omega arith), here);
            point = omega (arith, now_at p.time p.ends, some.0);
            less = λ u h. omega (arith, before u h);
          } in
          subst (IsRise (p ∷ ps) x q) same there)
    ]

rise_never : (ps : List Point) (x q : ℕ) → x < q → first_rise q ps x ≡ None → (u : ℕ) → value_at u ps x < q
rise_never [] x q less e u = less
rise_never (p ∷ ps) x q less e u =
    elim (cases_lt (past p x) q) [
      | inl lt ↦ elim (cases_lt u p.time) [
        | inl early ↦ (let v : value_at u (p ∷ ps) x ≡ x = if_gt {a = p.time} {b = u} _ _ early in omega arith)
        | inr late ↦ (let v : value_at u (p ∷ ps) x ≡ value_at u ps (past p x) = if_le {a = p.time} {b = u} _ _ late in
            let ih = rise_never ps (past p x) q lt (sym (if_gt {a = q} {b = past p x} _ _ lt) ∙ e) u in
            omega arith)
      ]
      | inr ge ↦ (let some : first_rise q (p ∷ ps) x ≡ Some p.time = if_le {a = q} {b = past p x} _ _ ge in
          absurd (cc))
    ]

-- the same from a moment on
pub record IsRiseAfter (ps : List Point) (x from q t : ℕ) : Type 0 where
  pub later : from < t
  pub high : q ≤ value_at t ps x
  pub point : 0 < ends_at ps t
  pub less : (u : ℕ) → from ≤ u → u < t → value_at u ps x < q

after_is : (ps : List Point) (x from q t : ℕ) → IsRising ps → Each (λ p. 0 < p.ends) ps → value_at from ps x < q →
    rise_after from q ps x ≡ Some t → IsRiseAfter ps x from q t
after_is [] x from q t rise some less e = absurd (cc)
after_is (p ∷ ps) x from q t rise some less e =
    elim (cases_lt from p.time) [
      | inl lt ↦ (
          let v : value_at from (p ∷ ps) x ≡ x = if_gt {a = p.time} {b = from} _ _ lt in
          let is = rise_is (p ∷ ps) x q t rise some (omega arith) (sym (if_gt {a = p.time} {b = from} _ _ lt) ∙ e) in
          record {
            later = not_early from t (p ∷ ps) (
              lt,
              each_of (λ (r : Point) (h : p.time < r.time). let f : from < r.time = omega arith in f) ps rise.0,
            ) is.point;
            high = is.high;
            point = is.point;
            less = λ u lo hi. is.less u hi;
          })
      | inr le ↦ (
          let on : (u : ℕ) → from ≤ u → value_at u (p ∷ ps) x ≡ value_at u ps (past p x)
          = λ u h. if_le {a = p.time} {b = u} _ _ (omega arith) in
          let ih = after_is ps (past p x) from q t rise.1 some.1 (let v = on from (omega arith) in omega arith)
          (sym (if_le {a = p.time} {b = from} _ _ le) ∙ e) in
          let after = ih.later in
          record {
            later = ih.later;
            high = omega (arith, on t (omega arith), ih.high);
            point = omega (arith, ih.point);
            less = λ u lo hi. omega (arith, on u lo, ih.less u lo hi);
          })
    ]

after_never : (ps : List Point) (x from q : ℕ) → value_at from ps x < q → rise_after from q ps x ≡ None → (u : ℕ) →
    from ≤ u → value_at u ps x < q
after_never [] x from q less e u lo = less
after_never (p ∷ ps) x from q less e u lo =
    elim (cases_lt from p.time) [
      | inl lt ↦ (
          let v : value_at from (p ∷ ps) x ≡ x = if_gt {a = p.time} {b = from} _ _ lt in
          rise_never (p ∷ ps) x q (omega arith) (sym (if_gt {a = p.time} {b = from} _ _ lt) ∙ e) u)
      | inr le ↦ (
          let v : value_at from (p ∷ ps) x ≡ value_at from ps (past p x) = if_le {a = p.time} {b = from} _ _ le in
          let w : value_at u (p ∷ ps) x ≡ value_at u ps (past p x) = if_le {a = p.time} {b = u} _ _ (omega arith) in
          let ih = after_never ps (past p x) from q (omega arith) (sym (if_le {a = p.time} {b = from} _ _ le) ∙ e) u
          lo in
          omega arith)
    ]

-- and of a planner's points
module _ (total : ℕ) (points : List Point) (spans : List Span) (marks : Marks total points spans) (from q : ℕ) where
  pub first_here : q ≤ value_at from points total → IsFirstFree total spans from q from
  first_here high = record {
    later = omega arith;
    free = let e = marks.free from in omega arith;
    least = λ u lo hi. absurd (omega arith);
    at = inl refl;
  }

  pub first_later : value_at from points total < q → (found : Option ℕ) → found ≡ rise_after from q points total →
      MatchOption found ((t : ℕ) → from ≤ t → free_at total spans t < q) (IsFirstFree total spans from q)
  first_later less None is = λ t lo.
      (let e = marks.free t in let l = after_never points total from q less (sym is) t lo in omega arith)
  first_later less (Some t) is =
      let there = after_is points total from q t marks.tallies.rising marks.tallies.some less (sym is) in
      record {
        later = let l = there.later in omega arith;
        free = let e = marks.free t in let h = there.high in omega arith;
        least = λ u lo hi. (let e = marks.free u in let l = there.less u lo hi in omega arith);
        at = inr (some_end t spans (let p = there.point in omega (arith, marks.tallies.ends t)));
      }
