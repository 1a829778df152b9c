-- What is free at a moment, by the points and by the spans.
use Rattle.std.proofs.Common.{◌≡◌, ℕ, suc, ◌+◌, ◌-◌, ◌^◌, ◌<◌, ◌≤◌, min, List, [], ◌∷◌, refl, sym, ◌∙◌, arith, cond}
use Rattle.std.proofs.Common.{inl, inr}
use Rattle.std.proofs.lemmas.Bool.{cases_lt}
use Rattle.planner_points.proofs.Starts.{in_yes, in_early, in_late}
use Rattle.std.proofs.lemmas.List.Sums.{sum_by-cons}
use Rattle.flux_defs.specs.declared.claims.Window.{Window}
use Rattle.flux_defs.proofs.DigitLaws.{if_le, if_gt}
use Rattle.planner_points.specs.declared.spans.Span.{Span}
use Rattle.planner_points.specs.Spans.{used_at, free_at, is_in, IsLeastFree}
use Rattle.planner_min_tree.specs.declared.points.Point.{Point}
use Rattle.planner_min_tree.specs.Points.{past, Runs, value_at, lowest_before, lowest_in}
use Rattle.planner_min_tree.specs.Marks.{IsRising, Tallies}
use Rattle.planner_min_tree.proofs.Sums.{when_until, until, until_same, until_none, each_of}
use Rattle.planner_min_tree.specs.Chunks.{Each}

abbrev pub taken_until : ℕ → List Point → ℕ
taken_until m ps = until (λ p. p.time) (λ p. p.taken) m ps

abbrev pub given_until : ℕ → List Point → ℕ
given_until m ps = until (λ p. p.time) (λ p. p.given) m ps

-- at no moment more is taken than there is, nor more given back than fits
pub record Covers (top x : ℕ) (ps : List Point) : Type 0 where
  pub enough : (m : ℕ) → taken_until m ps ≤ x + given_until m ps
  pub fits : (m : ℕ) → x + given_until m ps ≤ top + taken_until m ps
  pub first : x ≤ top

covers_rest : (top x : ℕ) (p : Point) (ps : List Point) → IsRising (p ∷ ps) → Covers top x (p ∷ ps) →
    (p.taken ≤ x + p.given) × Covers top (past p x) ps
covers_rest top x p ps rise c =
    let here_taken : when_until p.time p.time p.taken ≡ p.taken = if_le {a = p.time} {b = p.time} _ _ (omega arith) in
    let here_given : when_until p.time p.time p.given ≡ p.given = if_le {a = p.time} {b = p.time} _ _ (omega arith) in
    let later_taken = until_none (λ (q : Point). q.time) (λ q. q.taken) p.time ps rise.0 in
    let later_given = until_none (λ (q : Point). q.time) (λ q. q.given) p.time ps rise.0 in
    let enough = c.enough p.time in
    let fits = c.fits p.time in
    let covered : p.taken ≤ x + p.given = omega arith in
    let below : past p x ≤ top = omega arith in (
      covered,
      record {
        enough = λ m. elim (cases_lt m p.time) [
          | inl lt ↦ omega (
            arith,
            until_none (λ (q : Point). q.time) (λ q. q.taken) m ps
                (each_of (λ q h. omega arith) ps rise.0),
          )
          | inr le ↦ (let a : when_until m p.time p.taken ≡ p.taken = if_le {a = p.time} {b = m} _ _ le in
              let b : when_until m p.time p.given ≡ p.given = if_le {a = p.time} {b = m} _ _ le in
              omega (arith, c.enough m))
        ];
        fits = λ m. elim (cases_lt m p.time) [
          | inl lt ↦ omega (
            arith,
            below,
            until_none (λ (q : Point). q.time) (λ q. q.given) m ps
                (each_of (λ q h. omega arith) ps rise.0),
          )
          | inr le ↦ (let a : when_until m p.time p.taken ≡ p.taken = if_le {a = p.time} {b = m} _ _ le in
              let b : when_until m p.time p.given ≡ p.given = if_le {a = p.time} {b = m} _ _ le in
              omega (arith, c.fits m))
        ];
        first = below;
      },
    )

pub covers_runs : (top x : ℕ) (ps : List Point) → top < 2 ^ 64 → IsRising ps → Covers top x ps → Runs ps x
covers_runs top x [] t rise c = omega (arith, c.first)
covers_runs top x (p ∷ ps) t rise c =
    let r = covers_rest top x p ps rise c in
    (omega (arith, c.first), r.0, covers_runs top (past p x) ps t rise.1 r.1)

pub covers_value : (top x : ℕ) (ps : List Point) → IsRising ps → Covers top x ps → (m : ℕ) →
    value_at m ps x ≡ x + given_until m ps - taken_until m ps
covers_value top x [] rise c m = omega arith
covers_value top x (p ∷ ps) rise c m =
    let r = covers_rest top x p ps rise c in
    elim (cases_lt m p.time) [
      | inl lt ↦ (let a : when_until m p.time p.taken ≡ 0 = if_gt {a = p.time} {b = m} _ _ lt in
          let b : when_until m p.time p.given ≡ 0 = if_gt {a = p.time} {b = m} _ _ lt in
          let later = each_of (λ (q : Point) (h : p.time < q.time). let f : m < q.time = omega arith in f) ps rise.0 in
          let e : value_at m (p ∷ ps) x ≡ x = if_gt {a = p.time} {b = m} _ _ lt in
          omega (
            arith,
            e,
            until_none (λ (q : Point). q.time) (λ q. q.taken) m ps later,
            until_none (λ (q : Point). q.time) (λ q. q.given) m ps later,
          ))
      | inr le ↦ (let a : when_until m p.time p.taken ≡ p.taken = if_le {a = p.time} {b = m} _ _ le in
          let b : when_until m p.time p.given ≡ p.given = if_le {a = p.time} {b = m} _ _ le in
          let e : value_at m (p ∷ ps) x ≡ value_at m ps (past p x) = if_le {a = p.time} {b = m} _ _ le in
          omega (arith, e, covers_value top (past p x) ps rise.1 r.1 m, r.0))
    ]

one_span : (m : ℕ) (s : Span) → s.window.from < s.window.to →
    cond (is_in s.window m) s.quantity 0 + when_until m s.window.to s.quantity ≡ when_until m s.window.from s.quantity
one_span m s h =
    elim (cases_lt m s.window.from) [
      | inl lt ↦ (let a : when_until m s.window.from s.quantity ≡ 0 = if_gt {a = s.window.from} {b = m} _ _ lt in
          let b : when_until m s.window.to s.quantity ≡ 0 = if_gt {a = s.window.to} {b = m} _ _ (omega arith) in
          let c : cond (is_in s.window m) s.quantity 0 ≡ 0 = rw (in_early s.window m lt) refl in omega arith)
      | inr le ↦ elim (cases_lt m s.window.to) [
        | inl before ↦ (let a : when_until m s.window.from s.quantity ≡ s.quantity = if_le {a = s.window.from} {b = m}
            _ _ le in
            let b : when_until m s.window.to s.quantity ≡ 0 = if_gt {a = s.window.to} {b = m} _ _ before in
            let c : cond (is_in s.window m) s.quantity 0 ≡ s.quantity = rw (in_yes s.window m le before) refl in
            omega arith)
        | inr out ↦ (let a : when_until m s.window.from s.quantity ≡ s.quantity = if_le {a = s.window.from} {b = m} _
            _ le in
            let b : when_until m s.window.to s.quantity ≡ s.quantity = if_le {a = s.window.to} {b = m} _ _ out in
            let c : cond (is_in s.window m) s.quantity 0 ≡ 0 = rw (in_late s.window m out) refl in omega arith)
      ]
    ]

-- what spans take is what has started less what has ended
used_until : (m : ℕ) (spans : List Span) → Each (λ s. s.window.from < s.window.to) spans →
    used_at spans m + until (λ s. s.window.to) (λ s. s.quantity) m spans ≡ until (λ s. s.window.from)
    (λ s. s.quantity) m spans
used_until m [] h = refl
used_until m (s ∷ spans) h = omega (
  arith,
  sum_by-cons (λ (s : Span). cond (is_in s.window m) s.quantity 0) s spans,
  one_span m s h.0,
  used_until m spans h.1,
)

module _ (total : ℕ) (points : List Point) (spans : List Span) (marks : Tallies total points spans) where
  -- what the points say of a moment
  balance : (m : ℕ) → used_at spans m + given_until m points ≡ taken_until m points
  balance m =
      let a = until_same (λ (p : Point). p.time) (λ p. p.taken) (λ (s : Span). s.window.from)
      (λ s. s.quantity) points spans marks.taken m in
      let b = until_same (λ (p : Point). p.time) (λ p. p.given) (λ (s : Span). s.window.to)
      (λ s. s.quantity) points spans marks.given m in
      let e = used_until m spans marks.proper in
      omega arith

  pub marks_cover : Covers total total points
  marks_cover = record {
    enough = λ m. let b = balance m in let r = marks.room m in omega arith;
    fits = λ m. let b = balance m in omega arith;
    first = omega arith;
  }

  pub marks_value : (m : ℕ) → value_at m points total ≡ free_at total spans m
  marks_value m =
      let b = balance m in
      let v = covers_value total total points marks.rising marks_cover m in
      let r = marks.room m in
      omega arith

  pub marks_run : total < 2 ^ 64 → Runs points total
  marks_run t = covers_runs total total points t marks.rising marks_cover

-- the lowest over a window is the least at its moments
pub record IsLeast (from to : ℕ) (ps : List Point) (x low : ℕ) : Type 0 where
  pub each : (m : ℕ) → from ≤ m → m < to → low ≤ value_at m ps x
  pub reached : (m : ℕ) × (from ≤ m) × (m < to) × (value_at m ps x ≡ low)

before_least : (from to : ℕ) (ps : List Point) (x : ℕ) → from < to → Each (λ p. from < p.time) ps → IsRising ps →
    IsLeast from to ps x (lowest_before to ps x)
before_least from to [] x lt later rise = record {
  each = λ m a b. omega arith;
  reached = (
    from,
    omega arith,
    lt,
    refl,
  );
}
before_least from to (p ∷ ps) x lt later rise =
    let now : (m : ℕ) → m < p.time → value_at m (p ∷ ps) x ≡ x = λ m h. if_gt {a = p.time} {b = m} _ _ h in
    let on : (m : ℕ) → p.time ≤ m → value_at m (p ∷ ps) x ≡ value_at m ps
    (past p x) = λ m h. if_le {a = p.time} {b = m} _ _ h in
    let far : from < p.time = later.0 in
    elim (cases_lt p.time to) [
      | inl near ↦ (let low : lowest_before to (p ∷ ps) x ≡ min x
          (lowest_before to ps (past p x)) = if_le {a = suc p.time} {b = to} _ _ near in
          let ih = before_least p.time to ps (past p x) near rise.0 rise.1 in
          record {
            each = λ m a b. elim (cases_lt m p.time) [
              | inl h ↦ omega (arith, now m h)
              | inr h ↦ omega (arith, on m h, ih.each m h b)
            ];
            reached = elim (cases_lt (lowest_before to ps (past p x)) x) [
              | inl h ↦ (
                ih.reached.0,
                omega (arith, ih.reached.1),
                ih.reached.2,
                on ih.reached.0 ih.reached.1
                    ∙ ih.reached.3 ∙ omega arith,
              )
              | inr h ↦ (from, omega arith, lt, now from far ∙ omega arith)
            ];
          })
      | inr out ↦ (let low : lowest_before to (p ∷ ps) x ≡ x = if_gt {a = suc p.time} {b = to} _ _ (omega arith) in
          record {
            each = λ m a b. omega (arith, now m (omega arith));
            reached = (
              from,
              omega arith,
              lt,
              now from far
                  ∙ sym low,
            );
          })
    ]

pub lowest_least : (from to : ℕ) (ps : List Point) (x : ℕ) → from < to → IsRising ps →
    IsLeast from to ps x (lowest_in from to ps x)
lowest_least from to [] x lt rise = record { each = λ m a b. omega arith; reached = (from, omega arith, lt, refl) }
lowest_least from to (p ∷ ps) x lt rise =
    elim (cases_lt from p.time) [
      | inl later ↦ (let low : lowest_in from to (p ∷ ps) x ≡ lowest_before to
          (p ∷ ps) x = if_gt {a = p.time} {b = from} _ _ later in
          let all = each_of (λ (q : Point) (h : p.time < q.time). let f : from < q.time = omega arith in f) ps rise.0 in
          rw low (before_least from to (p ∷ ps) x lt (later, all) rise))
      | inr le ↦ (let low : lowest_in from to (p ∷ ps) x ≡ lowest_in from to ps
          (past p x) = if_le {a = p.time} {b = from} _ _ le in
          let ih = lowest_least from to ps (past p x) lt rise.1 in
          let on : (m : ℕ) → from ≤ m → value_at m (p ∷ ps) x ≡ value_at m ps
          (past p x) = λ m h. if_le {a = p.time} {b = m} _ _ (omega arith) in
          rw low (record {
            each = λ m a b. rw (on m a) (ih.each m a b);
            reached = (
              ih.reached.0,
              ih.reached.1,
              ih.reached.2,
              on ih.reached.0 ih.reached.1 ∙ ih.reached.3,
            );
          }))
    ]

pub marks_least : (total : ℕ) (points : List Point) (spans : List Span) (w : Window) → w.from < w.to →
    Tallies total points spans →
    IsLeastFree total spans w (lowest_in w.from w.to points total)
marks_least total points spans w lt marks =
    let l = lowest_least w.from w.to points total lt marks.rising in
    record {
      each = λ m a b. rw (← marks_value total points spans marks m) (l.each m a b);
      reached = (
        l.reached.0,
        l.reached.1,
        l.reached.2,
        sym (marks_value total points spans marks l.reached.0)
            ∙ l.reached.3,
      );
    }
