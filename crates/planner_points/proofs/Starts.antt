-- What is free changes only where a span starts or ends, so the first start is the asked moment or one of these.
use Rattle.std.proofs.Common.{◌≡◌, ℕ, ◌-◌, ◌<◌, ◌≤◌, List, [], ◌∷◌, min, refl, sym, ◌∙◌, ap, subst, arith, cond, inl}
use Rattle.std.proofs.Common.{inr, true, false}
use Rattle.std.proofs.lemmas.Bool.{cases_lt}
use Rattle.std.proofs.lemmas.Bool.Decides.{nat_tests}
use Rattle.std.proofs.lemmas.List.Sums.{sum_by-cons}
use Rattle.flux_defs.specs.declared.claims.Window.{Window}
use Rattle.flux_defs.specs.Free.{IsLeastIn}
use Rattle.planner_points.specs.declared.spans.Span.{Span}
use Rattle.planner_points.specs.Spans.{is_in, used_at, free_at, IsEnd, IsNextEnd, MayStart, IsFirstStart}

pub in_yes : (w : Window) (m : ℕ) → w.from ≤ m → m < w.to → is_in w m ≡ true
in_yes w m a b = grind (arith, nat_tests)

pub in_early : (w : Window) (m : ℕ) → m < w.from → is_in w m ≡ false
in_early w m a = grind (arith, nat_tests)

pub in_late : (w : Window) (m : ℕ) → w.to ≤ m → is_in w m ≡ false
in_late w m a = grind (arith, nat_tests)

-- no span starts or ends after the one moment and up to the other
abbrev pub NoEnds : List Span → ℕ → ℕ → Type 0
NoEnds spans m n = (t : ℕ) → m < t → t ≤ n → IsEnd spans t → ⊥

same_in : (w : Window) (m n : ℕ) → m ≤ n → (m < w.from → w.from ≤ n → ⊥) → (m < w.to → w.to ≤ n → ⊥) →
    is_in w m ≡ is_in w n
same_in w m n le from to =
    elim (cases_lt m w.from) [
      | inl early ↦ in_early w m early ∙ sym (in_early w n (elim (cases_lt n w.from) [
        | inl lt ↦ lt
        | inr ge ↦ absurd (from early ge)
      ]))
      | inr ge ↦ elim (cases_lt m w.to) [
        | inl inside ↦ in_yes w m ge inside ∙ sym (in_yes w n (omega arith) (elim (cases_lt n w.to) [
          | inl lt ↦ lt
          | inr out ↦ absurd (to inside out)
        ]))
        | inr out ↦ in_late w m out ∙ sym (in_late w n (omega arith))
      ]
    ]

-- what the spans take is the same where none starts or ends between
pub same_used : (spans : List Span) (m n : ℕ) → m ≤ n → NoEnds spans m n → used_at spans m ≡ used_at spans n
same_used [] m n le none = refl
same_used (s ∷ spans) m n le none =
    let here = same_in s.window m n le (λ a b. none s.window.from a b (inl (inl refl)))
    (λ a b. none s.window.to a b (inl (inr refl))) in
    let rest = same_used spans m n le (λ t a b end. none t a b (inr end)) in
    let taken = ap (λ b. cond b s.quantity 0) here in
    omega (
      arith,
      sum_by-cons (λ (x : Span). cond (is_in x.window m) x.quantity 0) s spans,
      sum_by-cons (λ (x : Span). cond (is_in x.window n) x.quantity 0) s spans,
      rest,
      taken,
    )

pub same_free : (total : ℕ) (spans : List Span) (m n : ℕ) → m ≤ n → NoEnds spans m n →
    free_at total spans m ≡ free_at total spans n
same_free total spans m n le none = ap (λ used. total - used) (same_used spans m n le none)

module _ (total horizon : ℕ) (spans : List Span) (duration quantity : ℕ) where
  abbrev pub Starts : ℕ → Type 0
  Starts t = MayStart total horizon spans duration quantity t

  -- no moment from the one on and before the other serves
  abbrev pub NoneFrom : ℕ → ℕ → Type 0
  NoneFrom from t = (u : ℕ) → from ≤ u → u < t → Starts u → ⊥

  module _ (long : 1 ≤ duration) where
    -- where no span starts or ends between, the earlier moment serves too
    earlier : (t u : ℕ) → t ≤ u → NoEnds spans t u → Starts u → Starts t
    earlier t u le none s = (
      omega (arith, s.0),
      λ m a b. elim (cases_lt m u) [
        | inl lt ↦ rw (same_free total spans m u (omega arith) (λ e x y. none e (omega arith) y))
            (s.1 u (omega arith) (omega arith))
        | inr ge ↦ s.1 m ge (omega arith)
      ],
    )

    pub none_at_first : (from : ℕ) → NoneFrom from from
    none_at_first from u a b s = absurd (omega arith)

    pub none_to_next : (from t next : ℕ) → NoneFrom from t → (Starts t → ⊥) → IsNextEnd spans t next →
        NoneFrom from next
    none_to_next from t next none fails is u a b s =
        elim (cases_lt u t) [
          | inl lt ↦ none u a lt s
          | inr ge ↦ fails (earlier t u ge (λ e x y end. absurd (let l = is.least e x end in omega arith)) s)
        ]

    pub none_at_all : (from t : ℕ) → NoneFrom from t → (Starts t → ⊥) → ((e : ℕ) → t < e → IsEnd spans e → ⊥) →
        (u : ℕ) → from ≤ u → Starts u → ⊥
    none_at_all from t none fails last u a s =
        elim (cases_lt u t) [
          | inl lt ↦ none u a lt s
          | inr ge ↦ fails (earlier t u ge (λ e x y end. last e x end) s)
        ]

    pub first_found : (from t : ℕ) → from ≤ t → NoneFrom from t → Starts t →
        IsFirstStart total horizon spans from duration quantity t
    first_found from t le none s = record {
      later = le;
      starts = s;
      least = λ u a h. elim (cases_lt u t) [ inl lt ↦ absurd (none u a lt h) | inr ge ↦ ge ];
    }

-- so much is the least that is free from the one moment up to the other
pub record IsLeastTo (total : ℕ) (spans : List Span) (from t least : ℕ) : Type 0 where
  pub each : (m : ℕ) → from ≤ m → m ≤ t → least ≤ free_at total spans m
  pub reached : (m : ℕ) × (from ≤ m) × (m ≤ t) × (free_at total spans m ≡ least)

module _ (total : ℕ) (spans : List Span) (from : ℕ) where
  pub least_first : (least : ℕ) → least ≡ free_at total spans from → IsLeastTo total spans from from least
  least_first least e = record {
    each = λ m a b. (let s : m ≡ from = omega arith in subst (λ n. least ≤ free_at total spans n) (sym s)
        (omega arith));
    reached = (from, omega arith, omega arith, sym e);
  }

  pub least_next : (t next least free more : ℕ) → from ≤ t → IsLeastTo total spans from t least →
      IsNextEnd spans t next →
      free ≡ free_at total spans next → more ≡ min least free → IsLeastTo total spans from next more
  least_next t next least free more le is end e f = record {
    each = λ m a b. elim (cases_lt t m) [
      | inr early ↦ (let l = is.each m a early in omega arith)
      | inl late ↦ elim (cases_lt m next) [
        | inl lt ↦ (let s = same_free total spans t m (omega arith) (λ u x y z. absurd (let l = end.least u x z in
            omega arith)) in
            let l = is.each t le (omega arith) in omega arith)
        | inr ge ↦ (let s : m ≡ next = omega arith in
            subst (λ n. more ≤ free_at total spans n) (sym s) (omega arith))
      ]
    ];
    reached = elim (cases_lt free least) [
      | inl less ↦ (let l = end.later in (next, omega arith, omega arith, sym e ∙ omega arith))
      | inr most ↦ (let l = end.later in
          (is.reached.0, is.reached.1, (let r = is.reached.2 in omega arith), is.reached.3 ∙ omega arith))
    ];
  }

  pub least_last : (t to least : ℕ) → from ≤ t → t < to → IsLeastTo total spans from t least →
      ((e : ℕ) → t < e → e < to → IsEnd spans e → ⊥) → IsLeastIn (record { from = from; to = to })
      (λ m. free_at total spans m) least
  least_last t to least le lt is none = record {
    each = λ m a b. elim (cases_lt t m) [
      | inr early ↦ is.each m a early
      | inl late ↦ (let s = same_free total spans t m (omega arith) (λ u x y z. none u x (omega arith) z) in
          let l = is.each t le (omega arith) in omega arith)
    ];
    reached = (is.reached.0, is.reached.1, (let r = is.reached.2 in omega arith), is.reached.3);
  }
