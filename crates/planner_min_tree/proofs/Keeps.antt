-- The points of spans, after one span more or less.
use Rattle.std.proofs.Common.{◌≡◌, ℕ, suc, ◌+◌, ◌-◌, ◌<◌, ◌≤◌, List, [], ◌∷◌, ◌++◌, refl, sym, ◌∙◌, ap, arith, cond}
use Rattle.std.proofs.Common.{inl, inr}
use Rattle.std.proofs.lemmas.Bool.{cases_lt}
use Rattle.std.proofs.lemmas.List.Sums.{sum_by-cons, sum_by-append}
use Rattle.flux_defs.specs.declared.claims.Window.{Window}
use Rattle.flux_defs.proofs.DigitLaws.{if_le, if_gt}
use Rattle.planner_points.specs.declared.spans.Span.{Span}
use Rattle.planner_points.specs.Spans.{span_of, used_at, is_in, HasRoom}
use Rattle.planner_min_tree.specs.declared.points.Point.{Point}
use Rattle.planner_min_tree.specs.declared.marking.Mark.{Mark}
use Rattle.planner_min_tree.specs.Marks.{added, fresh, lessened, marked, unmarked, IsRising, Tallies, when_at, at}
use Rattle.planner_min_tree.specs.Marks.{ends_at, taken_at, given_at, starts_at, stops_at, start_of, stop_of}
use Rattle.planner_min_tree.proofs.Sums.{total_append, now_at, not_yet_at, past_at, at_none, each_of, each_append}
use Rattle.planner_min_tree.proofs.Sums.{each_front, each_back}
use Rattle.planner_points.proofs.Starts.{in_yes, in_early, in_late}
use Rattle.planner_min_tree.specs.Chunks.{Each}

abbrev point_at : (Point → ℕ) → ℕ → List Point → ℕ
point_at f t ps = at (λ p. p.time) f t ps

-- the three ways in which a mark meets the first point
module _ (d : Mark) (p : Point) (ps : List Point) where
  pub marked_on : p.time < d.time → marked d (p ∷ ps) ≡ p ∷ marked d ps
  marked_on lt = if_le {a = suc p.time} {b = d.time} _ _ lt

  here : p.time ≡ d.time → marked d (p ∷ ps) ≡ added d p ∷ ps
  here e = if_gt {a = suc p.time} {b = d.time} _ _ (omega arith) ∙ if_le {a = p.time} {b = d.time} _ _ (omega arith)

  before : d.time < p.time → marked d (p ∷ ps) ≡ fresh d ∷ p ∷ ps
  before lt = if_gt {a = suc p.time} {b = d.time} _ _ (omega arith) ∙ if_gt {a = p.time} {b = d.time} _ _ lt

  pub unmarked_on : p.time < d.time → unmarked d (p ∷ ps) ≡ p ∷ unmarked d ps
  unmarked_on lt = if_le {a = suc p.time} {b = d.time} _ _ lt

  un_cut : p.time ≡ d.time → p.ends ≤ 1 → unmarked d (p ∷ ps) ≡ ps
  un_cut e few = if_gt {a = suc p.time} {b = d.time} _ _ (omega arith)
      ∙ if_le {a = p.time} {b = d.time} _ _ (omega arith) ∙ if_le {a = p.ends} {b = 1} _ _ few

  un_less : p.time ≡ d.time → 1 < p.ends → unmarked d (p ∷ ps) ≡ lessened d p ∷ ps
  un_less e many = if_gt {a = suc p.time} {b = d.time} _ _ (omega arith)
      ∙ if_le {a = p.time} {b = d.time} _ _ (omega arith) ∙ if_gt {a = p.ends} {b = 1} _ _ many

  un_before : d.time < p.time → unmarked d (p ∷ ps) ≡ p ∷ ps
  un_before lt = if_gt {a = suc p.time} {b = d.time} _ _ (omega arith) ∙ if_gt {a = p.time} {b = d.time} _ _ lt

data Meets (d : Mark) (p : Point) : Type 0 where
  earlier : p.time < d.time → Meets d p
  same : p.time ≡ d.time → Meets d p
  later : d.time < p.time → Meets d p

meets : (d : Mark) (p : Point) → Meets d p
meets d p = elim (cases_lt p.time d.time) [
  | inl lt ↦ earlier lt
  | inr ge ↦ elim (cases_lt d.time p.time) [ inl gt ↦ later gt | inr le ↦ same (omega arith) ]
]

after_marked : (t : ℕ) (d : Mark) (ps : List Point) → t < d.time → Each (λ q. t < q.time) ps →
    Each (λ q. t < q.time) (marked d ps)
after_marked t d [] lt h = (lt, tt)
after_marked t d (p ∷ ps) lt h =
    elim (meets d p) [
      | earlier e ↦ rw (marked_on d p ps e) (h.0, after_marked t d ps lt h.1)
      | same e ↦ rw (here d p ps e) (h.0, h.1)
      | later e ↦ rw (before d p ps e) (lt, h)
    ]

rising_marked : (d : Mark) (ps : List Point) → IsRising ps → IsRising (marked d ps)
rising_marked d [] h = (tt, tt)
rising_marked d (p ∷ ps) h =
    elim (meets d p) [
      | earlier e ↦ rw (marked_on d p ps e) (after_marked p.time d ps e h.0, rising_marked d ps h.1)
      | same e ↦ rw (here d p ps e) h
      | later e ↦ rw (before d p ps e) (
        (
          e,
          each_of (λ (q : Point)
              (g : p.time < q.time). let f : d.time < q.time = omega arith in f) ps h.0,
        ),
        h,
      )
    ]

some_marked : (d : Mark) (ps : List Point) → Each (λ p. 0 < p.ends) ps → Each (λ p. 0 < p.ends) (marked d ps)
some_marked d [] h = (omega arith, tt)
some_marked d (p ∷ ps) h =
    elim (meets d p) [
      | earlier e ↦ rw (marked_on d p ps e) (h.0, some_marked d ps h.1)
      | same e ↦ rw (here d p ps e) (omega arith, h.1)
      | later e ↦ rw (before d p ps e) (omega arith, h)
    ]

when_add : (t u a b : ℕ) → when_at t u (a + b) ≡ when_at t u a + when_at t u b
when_add t u a b =
    elim (cases_lt t u) [
      | inl lt ↦ omega (arith, not_yet_at t u (a + b) lt, not_yet_at t u a lt, not_yet_at t u b lt)
      | inr ge ↦ elim (cases_lt u t) [
        | inl lt ↦ omega (arith, past_at t u (a + b) lt, past_at t u a lt, past_at t u b lt)
        | inr le ↦ (let e : u ≡ t = omega arith in rw e (now_at t (a + b)
            ∙ sym (let x = now_at t a in let y = now_at t b in omega arith)))
      ]
    ]

when_zero : (t u : ℕ) → when_at t u 0 ≡ 0
when_zero t u =
    elim (cases_lt t u) [
      | inl lt ↦ not_yet_at t u 0 lt
      | inr ge ↦ elim (cases_lt u t) [
        | inl lt ↦ past_at t u 0 lt
        | inr le ↦ (let e : u ≡ t = omega arith in ap (λ v. when_at t v 0) e ∙ now_at t 0)
      ]
    ]

-- a number of which the mark's is added to the point's
sum_marked : (f : Point → ℕ) (d : Mark) → ((p : Point) → f (added d p) ≡ f p + f (fresh d)) →
    (t : ℕ) (ps : List Point) →
    point_at f t (marked d ps) ≡ point_at f t ps + when_at t d.time (f (fresh d))
sum_marked f d add t [] = omega arith
sum_marked f d add t (p ∷ ps) =
    elim (meets d p) [
      | earlier e ↦ rw (marked_on d p ps e) (omega (arith, sum_marked f d add t ps))
      | same e ↦ rw (here d p ps e, add p) (let w = when_add t p.time (f p) (f (fresh d)) in
          let s = ap (λ u. when_at t u (f (fresh d))) e in omega arith)
      | later e ↦ rw (before d p ps e) (omega arith)
    ]

-- and one span less
after_unmarked : (t : ℕ) (d : Mark) (ps : List Point) → Each (λ q. t < q.time) ps →
    Each (λ q. t < q.time) (unmarked d ps)
after_unmarked t d [] h = tt
after_unmarked t d (p ∷ ps) h =
    elim (meets d p) [
      | earlier e ↦ rw (unmarked_on d p ps e) (h.0, after_unmarked t d ps h.1)
      | same e ↦ elim (cases_lt 1 p.ends) [
        | inl many ↦ rw (un_less d p ps e many) (h.0, h.1)
        | inr few ↦ rw (un_cut d p ps e few) h.1
      ]
      | later e ↦ rw (un_before d p ps e) h
    ]

rising_unmarked : (d : Mark) (ps : List Point) → IsRising ps → IsRising (unmarked d ps)
rising_unmarked d [] h = tt
rising_unmarked d (p ∷ ps) h =
    elim (meets d p) [
      | earlier e ↦ rw (unmarked_on d p ps e) (after_unmarked p.time d ps h.0, rising_unmarked d ps h.1)
      | same e ↦ elim (cases_lt 1 p.ends) [
        | inl many ↦ rw (un_less d p ps e many) h
        | inr few ↦ rw (un_cut d p ps e few) h.1
      ]
      | later e ↦ rw (un_before d p ps e) h
    ]

some_unmarked : (d : Mark) (ps : List Point) → Each (λ p. 0 < p.ends) ps → Each (λ p. 0 < p.ends) (unmarked d ps)
some_unmarked d [] h = tt
some_unmarked d (p ∷ ps) h =
    elim (meets d p) [
      | earlier e ↦ rw (unmarked_on d p ps e) (h.0, some_unmarked d ps h.1)
      | same e ↦ elim (cases_lt 1 p.ends) [
        | inl many ↦ rw (un_less d p ps e many) (omega arith, h.1)
        | inr few ↦ rw (un_cut d p ps e few) h.1
      ]
      | later e ↦ rw (un_before d p ps e) h
    ]

-- the mark's number is a part of that at its time, and all of it where the mark's is the only end there
record CanLessen (f : Point → ℕ) (d : Mark) (ps : List Point) : Type 0 where
  some : 1 ≤ ends_at ps d.time
  part : f (fresh d) ≤ point_at f d.time ps
  whole : ends_at ps d.time ≤ 1 → point_at f d.time ps ≡ f (fresh d)

sum_unmarked : (f : Point → ℕ) (d : Mark) → ((p : Point) → f (lessened d p) ≡ f p - f (fresh d)) →
    (t : ℕ) (ps : List Point) → IsRising ps → CanLessen f d ps →
    point_at f t (unmarked d ps) + when_at t d.time (f (fresh d)) ≡ point_at f t ps
sum_unmarked f d less t [] rise can = let s = can.some in absurd (omega arith)
sum_unmarked f d less t (p ∷ ps) rise can =
    elim (meets d p) [
      | earlier e ↦ (let a = past_at d.time p.time p.ends e in let b = past_at d.time p.time (f p) e in
          let ih = sum_unmarked f d less t ps rise.1 (record {
            some = omega (arith, can.some);
            part = omega (
              arith,
              can.part,
            );
            whole = λ h. omega (arith, can.whole (omega arith));
          }) in
          rw (unmarked_on d p ps e) (omega (arith, ih)))
      | same e ↦ (
          let far : Each (λ q. d.time < q.time) ps = each_of
          (λ (q : Point) (g : p.time < q.time). let h : d.time < q.time = omega arith in h) ps rise.0 in
          let n1 = at_none (λ (q : Point). q.time) (λ q. q.ends) d.time ps far in
          let n2 = at_none (λ (q : Point). q.time) f d.time ps far in
          let w1 : when_at d.time p.time p.ends ≡ p.ends = ap (λ u. when_at d.time u p.ends) e ∙ now_at d.time p.ends in
          let w2 : when_at d.time p.time (f p) ≡ f p = ap (λ u. when_at d.time u (f p)) e ∙ now_at d.time (f p) in
          let s = ap (λ u. when_at t u (f (fresh d))) e in
          elim (cases_lt 1 p.ends) [
            | inl many ↦ (let part : f (fresh d) ≤ f p = omega (arith, can.part) in
                let w = when_add t p.time (f p - f (fresh d)) (f (fresh d)) in
                let back : f p - f (fresh d) + f (fresh d) ≡ f p = omega arith in
                let w' = rw back at w in
                rw (un_less d p ps e many, less p) (omega arith))
            | inr few ↦ (let whole : f p ≡ f (fresh d) = omega (arith, can.whole (omega arith)) in
                let w = ap (λ n. when_at t p.time n) whole in
                rw (un_cut d p ps e few) (omega arith))
          ])
      | later e ↦ (
          let far : Each (λ q. d.time < q.time) ps = each_of
          (λ (q : Point) (g : p.time < q.time). let h : d.time < q.time = omega arith in h) ps rise.0 in
          let n = at_none (λ (q : Point). q.time) (λ q. q.ends) d.time ps far in
          let w = not_yet_at d.time p.time p.ends e in
          let s = can.some in absurd (omega arith))
    ]

-- the sums over spans of which one stands in the middle
module _ (time f : Span → ℕ) (t : ℕ) where
  middle : (xs ys : List Span) (s : Span) → at time f t (xs ++ s ∷ ys) ≡ at time f t (xs ++ ys) + when_at t (time s)
      (f s)
  middle xs ys s =
      omega (
        arith,
        total_append (λ (s : Span). when_at t (time s) (f s)) xs (s ∷ ys),
        total_append (λ (s : Span). when_at t (time s) (f s)) xs ys,
      )

  -- where nothing stands, nothing is added up
  nothing : (xs : List Span) → at time (λ s. 1) t xs ≡ 0 → at time f t xs ≡ 0
  nothing [] h = refl
  nothing (s ∷ xs) h =
      let ih = nothing xs (omega arith) in
      elim (cases_lt t (time s)) [
        | inl lt ↦ omega (arith, ih, not_yet_at t (time s) (f s) lt)
        | inr ge ↦ elim (cases_lt (time s) t) [
          | inl lt ↦ omega (arith, ih, past_at t (time s) (f s) lt)
          | inr le ↦ (let e : time s ≡ t = omega arith in let one : when_at t (time s) 1 ≡ 1 = ap
              (λ u. when_at t u 1) e ∙ now_at t 1 in absurd (omega arith))
        ]
      ]

pub used_middle : (m : ℕ) (xs ys : List Span) (s : Span) → used_at (xs ++ s ∷ ys) m ≡ used_at (xs ++ ys) m + cond
    (is_in s.window m) s.quantity 0
used_middle m xs ys s =
    let f = λ (s : Span). cond (is_in s.window m) s.quantity 0 in
    omega (arith, sum_by-append f xs (s ∷ ys), sum_by-append f xs ys, sum_by-cons f s ys)

module _ (total : ℕ) (points : List Point) (w : Window) (q : ℕ) (lt : w.from < w.to) (xs ys : List Span) where
  pub marks_with : Tallies total points (xs ++ ys) → HasRoom total (xs ++ ys) w q →
      Tallies total (marked (start_of w q) (marked (stop_of w q) points)) (xs ++ span_of w q ∷ ys)
  marks_with marks room =
      let first = marked (stop_of w q) points in
      record {
        rising = rising_marked (start_of w q) first (rising_marked (stop_of w q) points marks.rising);
        some = some_marked (start_of w q) first (some_marked (stop_of w q) points marks.some);
        ends = λ t. omega (
          arith,
          sum_marked (λ (p : Point). p.ends) (start_of w q) (λ p. refl) t first,
          sum_marked (λ (p : Point). p.ends) (stop_of w q) (λ p. refl) t points,
          marks.ends t,
          middle (λ s. s.window.from) (λ s. 1) t xs ys (span_of w q),
          middle (λ s. s.window.to) (λ s. 1) t xs ys (span_of w q),
        );
        taken = λ t. omega (
          arith,
          sum_marked (λ (p : Point). p.taken) (start_of w q) (λ p. refl) t first,
          sum_marked (λ (p : Point). p.taken) (stop_of w q) (λ p. refl) t points,
          marks.taken t,
          middle (λ s. s.window.from) (λ s. s.quantity) t xs ys (span_of w q),
          when_zero t w.to,
        );
        given = λ t. omega (
          arith,
          sum_marked (λ (p : Point). p.given) (start_of w q) (λ p. refl) t first,
          sum_marked (λ (p : Point). p.given) (stop_of w q) (λ p. refl) t points,
          marks.given t,
          middle (λ s. s.window.to) (λ s. s.quantity) t xs ys (span_of w q),
          when_zero t w.from,
        );
        proper = each_append _ xs (span_of w q ∷ ys) (each_front _ xs ys marks.proper) (
          lt,
          each_back _ xs ys marks.proper,
        );
        room = λ m. let u = used_middle m xs ys (span_of w q) in let r = marks.room m in
            elim (cases_lt m w.from) [
              | inl early ↦ (let c : cond (is_in w m) q 0 ≡ 0 = rw (in_early w m early) refl in omega arith)
              | inr ge ↦ elim (cases_lt m w.to) [
                | inl inside ↦ (let c : cond (is_in w m) q 0 ≡ q = rw (in_yes w m ge inside) refl in
                    let h = room m ge inside in omega arith)
                | inr out ↦ (let c : cond (is_in w m) q 0 ≡ 0 = rw (in_late w m out) refl in omega arith)
              ]
            ];
      }

  -- the points of the spans with this one, as far as its two times go
  module _ (marks : Tallies total points (xs ++ span_of w q ∷ ys)) where
    rest : List Span
    rest = xs ++ ys

    ends_is : (t : ℕ) → ends_at points t ≡ starts_at (λ s. 1) (xs ++ ys) t + when_at t w.from 1 +
        (stops_at (λ s. 1) (xs ++ ys) t + when_at t w.to 1)
    ends_is t = omega (
      arith,
      marks.ends t,
      middle (λ s. s.window.from) (λ s. 1) t xs ys (span_of w q),
      middle (λ s. s.window.to) (λ s. 1) t xs ys (span_of w q),
    )

    taken_is : (t : ℕ) → taken_at points t ≡ starts_at (λ s. s.quantity) (xs ++ ys) t + when_at t w.from q
    taken_is t = omega (arith, marks.taken t, middle (λ s. s.window.from) (λ s. s.quantity) t xs ys (span_of w q))

    given_is : (t : ℕ) → given_at points t ≡ stops_at (λ s. s.quantity) (xs ++ ys) t + when_at t w.to q
    given_is t = omega (arith, marks.given t, middle (λ s. s.window.to) (λ s. s.quantity) t xs ys (span_of w q))

    no_starts : (t : ℕ) → starts_at (λ s. 1) (xs ++ ys) t ≡ 0 → starts_at (λ s. s.quantity) (xs ++ ys) t ≡ 0
    no_starts t h = nothing (λ s. s.window.from) (λ s. s.quantity) t (xs ++ ys) h

    no_stops : (t : ℕ) → stops_at (λ s. 1) (xs ++ ys) t ≡ 0 → stops_at (λ s. s.quantity) (xs ++ ys) t ≡ 0
    no_stops t h = nothing (λ s. s.window.to) (λ s. s.quantity) t (xs ++ ys) h

    first : List Point
    first = unmarked (start_of w q) points

    at_start : when_at w.from w.to 1 ≡ 0
    at_start = not_yet_at w.from w.to 1 lt

    can_ends : CanLessen (λ p. p.ends) (start_of w q) points
    can_ends =
        let e = ends_is w.from in let n = now_at w.from 1 in
        record { some = omega arith; part = omega arith; whole = λ h. omega arith }

    can_taken : CanLessen (λ p. p.taken) (start_of w q) points
    can_taken =
        let e = ends_is w.from in let n = now_at w.from 1 in let k = taken_is w.from in let m = now_at w.from q in
        record { some = omega arith; part = omega arith; whole = λ h. omega (arith, no_starts w.from (omega arith)) }

    can_given : CanLessen (λ p. p.given) (start_of w q) points
    can_given =
        let e = ends_is w.from in let n = now_at w.from 1 in let k = given_is w.from in
        let m = not_yet_at w.from w.to q lt in
        record { some = omega arith; part = omega arith; whole = λ h. omega (arith, no_stops w.from (omega arith)) }

    ends_first : (t : ℕ) → ends_at first t + when_at t w.from 1 ≡ ends_at points t
    unfolding first
    ends_first t = sum_unmarked (λ (p : Point). p.ends) (start_of w q) (λ p. refl) t points marks.rising can_ends

    taken_first : (t : ℕ) → taken_at first t + when_at t w.from q ≡ taken_at points t
    unfolding first
    taken_first t = sum_unmarked (λ (p : Point). p.taken) (start_of w q) (λ p. refl) t points marks.rising can_taken

    given_first : (t : ℕ) → given_at first t + when_at t w.from 0 ≡ given_at points t
    unfolding first
    given_first t = sum_unmarked (λ (p : Point). p.given) (start_of w q) (λ p. refl) t points marks.rising can_given

    can_ends_2 : CanLessen (λ p. p.ends) (stop_of w q) first
    can_ends_2 =
        let e = ends_is w.to in let n = now_at w.to 1 in let f = ends_first w.to in let o = past_at w.to w.from 1 lt in
        record { some = omega arith; part = omega arith; whole = λ h. omega arith }

    can_taken_2 : CanLessen (λ p. p.taken) (stop_of w q) first
    can_taken_2 =
        let e = ends_is w.to in let n = now_at w.to 1 in let f = ends_first w.to in let o = past_at w.to w.from 1 lt in
        let k = taken_is w.to in let g = taken_first w.to in let m = past_at w.to w.from q lt in
        record { some = omega arith; part = omega arith; whole = λ h. omega (arith, no_starts w.to (omega arith)) }

    can_given_2 : CanLessen (λ p. p.given) (stop_of w q) first
    can_given_2 =
        let e = ends_is w.to in let n = now_at w.to 1 in let f = ends_first w.to in let o = past_at w.to w.from 1 lt in
        let k = given_is w.to in let g = given_first w.to in let m = now_at w.to q in let z = when_zero w.to w.from in
        record { some = omega arith; part = omega arith; whole = λ h. omega (arith, no_stops w.to (omega arith)) }

    rising_first : IsRising first
    unfolding first
    rising_first = rising_unmarked (start_of w q) points marks.rising

    pub marks_without : Tallies total (unmarked (stop_of w q) (unmarked (start_of w q) points)) (xs ++ ys)
    unfolding first
    marks_without =
        let rise = rising_first in
        record {
          rising = rising_unmarked (stop_of w q) first rise;
          some = some_unmarked (stop_of w q) first (some_unmarked (start_of w q) points marks.some);
          ends = λ t. omega (
            arith,
            sum_unmarked (λ (p : Point). p.ends) (stop_of w q)
                (λ p. refl) t first rise can_ends_2,
            ends_first t,
            ends_is t,
          );
          taken = λ t. omega (
            arith,
            sum_unmarked (λ (p : Point). p.taken) (stop_of w q)
                (λ p. refl) t first rise can_taken_2,
            taken_first t,
            taken_is t,
            when_zero t w.to,
          );
          given = λ t. omega (
            arith,
            sum_unmarked (λ (p : Point). p.given) (stop_of w q)
                (λ p. refl) t first rise can_given_2,
            given_first t,
            given_is t,
            when_zero t w.from,
          );
          proper = each_append _ xs ys (each_front _ xs (span_of w q ∷ ys) marks.proper)
              (each_back _ xs (span_of w q ∷ ys) marks.proper).1;
          room = λ m. let u = used_middle m xs ys (span_of w q) in let r = marks.room m in omega arith;
        }
