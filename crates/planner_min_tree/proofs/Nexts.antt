-- The next point is the next start or end of a span.
use Rattle.std.proofs.Common.{◌≡◌, ℕ, zero, suc, ◌+◌, ◌<◌, ◌≤◌, List, [], ◌∷◌, length, refl, sym, ◌∙◌, ap, arith, ◌⊎◌}
use Rattle.std.proofs.Common.{inl, inr, Some, None, slice_get}
use Rattle.std.proofs.lemmas.Bool.{cases_lt}
use Rattle.flux_defs.proofs.DigitLaws.{if_le, if_gt}
use Rattle.planner_points.specs.declared.spans.Span.{Span}
use Rattle.planner_points.specs.Spans.{IsEnd, IsNextEnd}
use Rattle.planner_min_tree.specs.declared.points.Point.{Point}
use Rattle.planner_min_tree.specs.Points.{count_before, first_from}
use Rattle.planner_min_tree.specs.Marks.{IsRising, Tallies, when_at, ends_at, starts_at, stops_at}
use Rattle.planner_min_tree.proofs.Sums.{now_at, not_yet_at, past_at, at_none, each_of}
use Rattle.planner_min_tree.specs.Chunks.{Each}

abbrev ends_of : List Span → ℕ → ℕ
ends_of spans t = starts_at (λ s. 1) spans t + stops_at (λ s. 1) spans t

-- a time is that of an end, or nothing stands there
eq : (t u : ℕ) → (t ≡ u) ⊎ (when_at t u 1 ≡ 0)
eq t u =
    elim (cases_lt t u) [
      | inl lt ↦ inr (not_yet_at t u 1 lt)
      | inr ge ↦ elim (cases_lt u t) [ inl gt ↦ inr (past_at t u 1 gt) | inr le ↦ inl (omega arith) ]
    ]

pub some_end : (t : ℕ) (spans : List Span) → 0 < ends_of spans t → IsEnd spans t
some_end t [] h = absurd (omega arith)
some_end t (s ∷ spans) h =
    elim (eq t s.window.from) [
      | inl e ↦ inl (inl e)
      | inr z ↦ elim (eq t s.window.to) [ inl e ↦ inl (inr e) | inr y ↦ inr (some_end t spans (omega arith)) ]
    ]

end_some : (t : ℕ) (spans : List Span) → IsEnd spans t → 0 < ends_of spans t
end_some t [] h = absurd h
end_some t (s ∷ spans) (inl (inl e)) =
    let n : when_at t s.window.from 1 ≡ 1 = ap (λ u. when_at t u 1) (sym e) ∙ now_at t 1 in omega arith
end_some t (s ∷ spans) (inl (inr e)) =
    let n : when_at t s.window.to 1 ≡ 1 = ap (λ u. when_at t u 1) (sym e) ∙ now_at t 1 in omega arith
end_some t (s ∷ spans) (inr h) = omega (arith, end_some t spans h)

-- the point at a place is one at its time
point_some : (ps : List Point) (k : ℕ) (p : Point) → Each (λ q. 0 < q.ends) ps → slice_get ps k ≡ Some p →
    0 < ends_at ps p.time
point_some [] k p h e = absurd (cc)
point_some (q ∷ ps) zero p h e =
    let same : q ≡ p = cc in
    let n : when_at p.time q.time q.ends ≡ q.ends = ap (λ (r : Point). when_at r.time q.time q.ends) (sym same)
    ∙ now_at q.time q.ends in omega (arith, h.0)
point_some (q ∷ ps) (suc k) p h e = omega (arith, point_some ps k p h.1 e)

-- no point is from t on before the first that isn't before t
none_between : (t u : ℕ) (ps : List Point) (p : Point) → IsRising ps → slice_get ps (count_before t ps) ≡ Some p →
    t ≤ u → 0 < ends_at ps u → p.time ≤ u
none_between t u [] p rise e ge some = absurd (cc)
none_between t u (q ∷ ps) p rise e ge some =
    elim (cases_lt q.time t) [
      | inl lt ↦ (let c : count_before t (q ∷ ps) ≡ suc (count_before t ps) = if_le {a = suc q.time} {b = t} _ _ lt in
          let z = past_at u q.time q.ends (omega arith) in
          none_between t u ps p rise.1 (rw c at e) ge (omega arith))
      | inr le ↦ (let c : count_before t (q ∷ ps) ≡ 0 = if_gt {a = suc q.time} {b = t} _ _ (omega arith) in
          let e' = rw c at e in let same : q ≡ p = cc in
          elim (cases_lt u q.time) [
            | inl early ↦ (let z = not_yet_at u q.time q.ends early in
                let far = each_of (λ (r : Point) (h : q.time < r.time). let f : u < r.time = omega arith in
                f) ps rise.0 in
                let n = at_none (λ (r : Point). r.time) (λ r. r.ends) u ps far in absurd (omega arith))
            | inr late ↦ rw (← same) late
          ])
    ]

none_after : (t u : ℕ) (ps : List Point) → count_before t ps ≡ length ps → t ≤ u → ends_at ps u ≡ 0
none_after t u [] e ge = refl
none_after t u (q ∷ ps) e ge =
    elim (cases_lt q.time t) [
      | inl lt ↦ (let c : count_before t (q ∷ ps) ≡ suc (count_before t ps) = if_le {a = suc q.time} {b = t} _ _ lt in
          let z = past_at u q.time q.ends (omega arith) in omega (arith, none_after t u ps (omega arith) ge))
      | inr le ↦ (let c : count_before t (q ∷ ps) ≡ 0 = if_gt {a = suc q.time} {b = t} _ _ (omega arith) in
          absurd (omega arith))
    ]

not_before : (t : ℕ) (ps : List Point) (p : Point) → slice_get ps (count_before t ps) ≡ Some p → t ≤ p.time
not_before t [] p e = absurd (cc)
not_before t (q ∷ ps) p e =
    elim (cases_lt q.time t) [
      | inl lt ↦ (let c : count_before t (q ∷ ps) ≡ suc (count_before t ps) = if_le {a = suc q.time} {b = t} _ _ lt in
          not_before t ps p (rw c at e))
      | inr ge ↦ (let c : count_before t (q ∷ ps) ≡ 0 = if_gt {a = suc q.time} {b = t} _ _ (omega arith) in
          let e' = rw c at e in let same : q ≡ p = cc in rw (← same) ge)
    ]

-- the first point that isn't before t is that behind those before t
first_is : (t : ℕ) (ps : List Point) → first_from t ps ≡ slice_get ps (count_before t ps)
first_is t [] = refl
first_is t (q ∷ ps) =
    elim (cases_lt q.time t) [
      | inl lt ↦ if_le {a = suc q.time} {b = t} _ _ lt ∙ first_is t ps
          ∙ ap (slice_get (q ∷ ps)) (sym (if_le {a = suc q.time} {b = t} _ _ lt))
      | inr ge ↦ if_gt {a = suc q.time} {b = t} _ _ (omega arith)
          ∙ ap (slice_get (q ∷ ps)) (sym (if_gt {a = suc q.time} {b = t} (suc (count_before t ps)) _ (omega arith)))
    ]

none_is : (t : ℕ) (ps : List Point) → first_from t ps ≡ None → count_before t ps ≡ length ps
none_is t [] e = refl
none_is t (q ∷ ps) e =
    elim (cases_lt q.time t) [
      | inl lt ↦ if_le {a = suc q.time} {b = t} _ _ lt
          ∙ ap suc (none_is t ps (sym (if_le {a = suc q.time} {b = t} _ _ lt) ∙ e))
      | inr ge ↦ (let some : first_from t (q ∷ ps) ≡ Some q = if_gt {a = suc q.time} {b = t} _ _ (omega arith) in
          absurd (cc))
    ]

-- more points are before the moment after the first that isn't before t
pub counts_more : (t : ℕ) (ps : List Point) (p : Point) → first_from t ps ≡ Some p →
    count_before t ps + 1 ≤ count_before (p.time + 1) ps
counts_more t [] p e = absurd (cc)
counts_more t (q ∷ ps) p e =
    elim (cases_lt q.time t) [
      | inl lt ↦ (let e' = sym (if_le {a = suc q.time} {b = t} (first_from t ps) (Some q) lt) ∙ e in
          let ih = counts_more t ps p e' in
          let far = not_before t ps p (sym (first_is t ps) ∙ e') in
          let n : count_before t (q ∷ ps) ≡ suc (count_before t ps) = if_le {a = suc q.time} {b = t} _ _ lt in
          let m : count_before (p.time + 1) (q ∷ ps) ≡ suc (count_before (p.time + 1) ps)
          = if_le {a = suc q.time} {b = p.time + 1} _ _ (omega arith) in
          omega arith)
      | inr ge ↦ (let some : first_from t (q ∷ ps) ≡ Some q = if_gt {a = suc q.time} {b = t} _ _ (omega arith) in
          let same : q ≡ p = cc in
          let time = ap (λ (r : Point). r.time) same in
          let n : count_before t (q ∷ ps) ≡ 0 = if_gt {a = suc q.time} {b = t} _ _ (omega arith) in
          let m : count_before (p.time + 1) (q ∷ ps) ≡ suc (count_before (p.time + 1) ps)
          = if_le {a = suc q.time} {b = p.time + 1} _ _ (omega arith) in
          omega arith)
    ]

pub first_later : (t : ℕ) (ps : List Point) (p : Point) → first_from t ps ≡ Some p → t ≤ p.time
first_later t ps p e = not_before t ps p (sym (first_is t ps) ∙ e)

pub count_within : (t : ℕ) (ps : List Point) → count_before t ps ≤ length ps
count_within t [] = omega arith
count_within t (q ∷ ps) =
    elim (cases_lt q.time t) [
      | inl lt ↦ (let c : count_before t (q ∷ ps) ≡ suc (count_before t ps) = if_le {a = suc q.time} {b = t} _ _ lt in
          omega (arith, count_within t ps))
      | inr le ↦ (let c : count_before t (q ∷ ps) ≡ 0 = if_gt {a = suc q.time} {b = t} _ _ (omega arith) in omega arith)
    ]

module _ (total : ℕ) (points : List Point) (spans : List Span) (marks : Tallies total points spans) (after : ℕ) where
  pub next_is : (p : Point) → first_from (after + 1) points ≡ Some p → IsNextEnd spans after p.time
  next_is p f = let e = sym (first_is (after + 1) points) ∙ f in record {
    later = let n = not_before (after + 1) points p e in omega arith;
    end = some_end p.time spans (let s = point_some points (count_before (after + 1) points) p marks.some e in
        omega (arith, marks.ends p.time));
    least = λ u lt end. none_between (after + 1) u points p marks.rising e (omega arith)
        (let s = end_some u spans end in
        omega (arith, marks.ends u));
  }

  pub next_none : first_from (after + 1) points ≡ None → (u : ℕ) → after < u → IsEnd spans u → ⊥
  next_none f u lt end =
      let s = end_some u spans end in
      omega (arith, marks.ends u, none_after (after + 1) u points (none_is (after + 1) points f) (omega arith))
