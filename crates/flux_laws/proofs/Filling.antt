-- Filling an amount with picks, the lowest vertices first: it succeeds where any distinct picks at all serve the
-- amount.
-- Everything is over an abstract `can v q`: vertex v can serve q.
use Rattle.std.proofs.Common.{◌≡◌, ◌≢◌, ℕ, zero, suc, ◌+◌, ◌-◌, ◌<◌, ◌≤◌, List, [], ◌∷◌, ◌⊎◌, inl, inr, refl, sym}
use Rattle.std.proofs.Common.{subst, arith}
use Rattle.std.proofs.lemmas.Bool.{cases_lt}
use Rattle.std.proofs.lemmas.Bool.Decides.{eqb_tells}
use Rattle.std.specs.List.{AllByRecursion}
use Rattle.flux_defs.specs.Fits.{Pick, served, NoneFor, AreDistinct}
use Rattle.flux_defs.specs.Lowest.{FillsFrom}

-- a pick of a vertex from `low` on that serves something, as it can
abbrev pub IsPickFrom : (ℕ → ℕ → Type 0) → ℕ → Pick → Type 0
IsPickFrom can low p = (low ≤ p.0) × (1 ≤ p.1) × can p.0 p.1

-- some distinct picks from vertex `low` on serve n
pub record CanFill (can : ℕ → ℕ → Type 0) (low n : ℕ) : Type 0 where
  pub picks : List Pick
  pub distinct : AreDistinct picks
  pub each : AllByRecursion (IsPickFrom can low) picks
  pub serves : served picks ≡ n

-- what can serve more can serve less
abbrev pub IsDownward : (ℕ → ℕ → Type 0) → Type 0
IsDownward can = (v q : ℕ) → 1 ≤ q → can v (q + 1) → can v q

-- picks from `low` on of which none is of `low` itself are from the next vertex on
from_next : (low : ℕ) (can : ℕ → ℕ → Type 0) (ps : List Pick) →
    AllByRecursion (IsPickFrom can low) ps → NoneFor low ps → AllByRecursion (IsPickFrom can (low + 1)) ps
from_next low can [] each none = tt
from_next low can (p ∷ ps) each none = (
  (
    let ne : p.0 ≢ low = none.0 in
        let le : low ≤ p.0 = each.0.0 in omega arith,
    each.0.1,
    each.0.2,
  ),
  from_next low can ps each.1 none.1,
)

from_lower : (low high : ℕ) (can : ℕ → ℕ → Type 0) →
    low ≤ high → (ps : List Pick) → AllByRecursion (IsPickFrom can high) ps → AllByRecursion (IsPickFrom can low) ps
from_lower low high can le [] each = tt
from_lower low high can le (p ∷ ps) each =
    ((let h : high ≤ p.0 = each.0.0 in omega arith, each.0.1, each.0.2), from_lower low high can le ps each.1)

none_before : (low : ℕ) (can : ℕ → ℕ → Type 0) (ps : List Pick) →
    AllByRecursion (IsPickFrom can (low + 1)) ps → NoneFor low ps
none_before low can [] each = tt
none_before low can (p ∷ ps) each =
    ((let h : low + 1 ≤ p.0 = each.0.0 in λ (q : p.0 ≡ low). omega arith), none_before low can ps each.1)

same_pick : (a b c d : ℕ) → a ≡ c → b ≡ d → (let p : ℕ × ℕ = (a, b) in let q : ℕ × ℕ = (c, d) in p ≡ q)
same_pick a b c d e f = cc

-- what fills is distinct picks that serve the amount
pub fills_parts : (can : ℕ → ℕ → Type 0) (low n : ℕ) (picks : List Pick) →
    FillsFrom can low n picks → AreDistinct picks × AllByRecursion (IsPickFrom can low) picks × (served picks ≡ n)
fills_parts can low n [] f = (tt, tt, omega arith)
fills_parts can low n (p ∷ ps) f =
    let r = fills_parts can (p.0 + 1) (n - p.1) ps f.6 in
    let rest : served ps ≡ n - p.1 = r.2 in
    let le : p.1 ≤ n = f.3 in
    let lo : low ≤ p.0 = f.0 in (
      (none_before p.0 can ps r.1, r.0),
      ((lo, f.2, f.4), from_lower low (p.0 + 1) can (omega arith) ps r.1),
      omega arith,
    )

-- each pick of a filling serves at least 1
pub serve_some : (can : ℕ → ℕ → Type 0) (low : ℕ) (ps : List Pick) →
    AllByRecursion (IsPickFrom can low) ps → AllByRecursion (λ p. 1 ≤ p.1) ps
serve_some can low [] each = tt
serve_some can low (p ∷ ps) each = (each.0.1, serve_some can low ps each.1)

module _ (can : ℕ → ℕ → Type 0) (down : IsDownward can) where
  lower_by : (v q d : ℕ) → 1 ≤ q → can v (q + d) → can v q
  lower_by v q zero some c = let e : q + 0 ≡ q = omega arith in subst (can v) e c
  lower_by v q (suc d) some c =
      let e : q + suc d ≡ (q + d) + 1 = omega arith in
      lower_by v q d some (down v (q + d) (omega arith) (subst (can v) e c))

  -- any lesser number can be served, down to 1
  pub lower : (v q r : ℕ) → 1 ≤ q → q ≤ r → can v r → can v q
  lower v q r some le c = lower_by v q (r - q) some (let e : r ≡ q + (r - q) = omega arith in subst (can v) e c)

  -- picks that serve n, of vertices that these picks have
  abbrev TrimmedTo : ℕ → ℕ → List Pick → Type 0
  TrimmedTo low n picks =
      (ps : List Pick) × AreDistinct ps × AllByRecursion (IsPickFrom can low) ps × (served ps ≡ n)
      × ((x : ℕ) → NoneFor x picks → NoneFor x ps)

  trim : (low : ℕ) (picks : List Pick) (n : ℕ) →
      AreDistinct picks → AllByRecursion (IsPickFrom can low) picks → n ≤ served picks → TrimmedTo low n picks
  trim low [] n distinct each le = ([], tt, tt, omega arith, λ x h. h)
  trim low (p ∷ ps) zero distinct each le = ([], tt, tt, refl, λ x h. tt)
  trim low (p ∷ ps) (suc n) distinct each le =
      elim (cases_lt p.1 (suc n)) [
        | inl lt ↦
            let r = trim low ps (suc n - p.1) distinct.1 each.1 (omega arith) in (
              p ∷ r.0,
              (r.4 p.0 distinct.0, r.1),
              (each.0, r.2),
              (let s : served r.0 ≡ suc n - p.1 = r.3 in omega arith),
              λ x h. (h.0, r.4 x h.1),
            )
        | inr ge ↦ (
          (p.0, suc n) ∷ [],
          (tt, tt),
          (
            (each.0.0, omega arith, lower p.0 (suc n) p.1 (omega arith) ge each.0.2),
            tt,
          ),
          omega arith,
          λ x h. (h.0, tt),
        )
      ]

  -- the picks without the one of vertex `low`, which serves q
  abbrev TakenOut : ℕ → List Pick → Type 0
  TakenOut low picks =
      (q : ℕ) × (ps : List Pick)
      × AreDistinct ps × AllByRecursion (IsPickFrom can (low + 1)) ps × (q + served ps ≡ served picks)
      × ((q ≡ 0) ⊎ ((1 ≤ q) × can low q)) × ((x : ℕ) → NoneFor x picks → NoneFor x ps)

  take_out : (low : ℕ) (picks : List Pick) →
      AreDistinct picks → AllByRecursion (IsPickFrom can low) picks → TakenOut low picks
  take_out low [] distinct each = (0, [], tt, tt, refl, inl refl, λ x h. h)
  take_out low (p ∷ ps) distinct each =
      elim (eqb_tells p.0 low) [
        | inl here ↦ (
          p.1,
          ps,
          distinct.1,
          from_next low can ps each.1 (subst (λ (v : ℕ). NoneFor v ps) here.1 distinct.0),
          refl,
          inr (each.0.1, subst (λ (v : ℕ). can v p.1) here.1 each.0.2),
          λ x h. h.1,
        )
        | inr later ↦
            let r = take_out low ps distinct.1 each.1 in
            let ne : p.0 ≢ low = later.1 in
            let le : low ≤ p.0 = each.0.0 in (
              r.0,
              p ∷ r.1,
              (r.6 p.0 distinct.0, r.2),
              ((omega arith, each.0.1, each.0.2), r.3),
              (let s : r.0 + served r.1 ≡ served ps = r.4 in omega arith),
              r.5,
              λ x h. (h.0, r.6 x h.1),
            )
      ]

  -- where vertex `low` can serve no more than q, the vertices after it can serve the rest
  pub rest_can_fill : (low n q : ℕ) → q ≤ n → (can low (q + 1) → ⊥) → CanFill can low n → CanFill can (low + 1) (n - q)
  rest_can_fill low n q le full f =
      let t = take_out low f.picks f.distinct f.each in
      let few : t.0 ≤ q = elim t.5 [
        | inl none ↦ omega arith
        | inr some ↦ elim (cases_lt q t.0) [
          | inl more ↦ absurd (full (lower low (q + 1) t.0 (omega arith) (omega arith) some.1))
          | inr fine ↦ fine
        ]
      ] in
      let s : t.0 + served t.1 ≡ served f.picks = t.4 in
      let all : served f.picks ≡ n = f.serves in
      let r = trim (low + 1) t.1 (n - q) t.2 t.3 (omega arith) in
      record { picks = r.0; distinct = r.1; each = r.2; serves = r.3 }

  -- what can fill more can fill less
  pub can_fill_less : (low n m : ℕ) → m ≤ n → CanFill can low n → CanFill can low m
  can_fill_less low n m le f =
      let s : served f.picks ≡ n = f.serves in
      let r = trim low f.picks m f.distinct f.each (omega arith) in
      record { picks = r.0; distinct = r.1; each = r.2; serves = r.3 }

  -- a vertex that can serve nothing is passed over
  pub fills_past : (low n : ℕ) (picks : List Pick) →
      (can low 1 → ⊥) → FillsFrom can (low + 1) n picks → FillsFrom can low n picks
  fills_past low n [] none f = f
  fills_past low n (p ∷ ps) none f =
      let h : low + 1 ≤ p.0 = f.0 in (
        omega arith,
        λ u lo hi c. elim (eqb_tells u low) [
          | inl here ↦ none (subst (λ (v : ℕ). can v 1) here.1 c)
          | inr other ↦ (let ne : u ≢ low = other.1 in f.1 u (omega arith) hi c)
        ],
        f.2,
        f.3,
        f.4,
        f.5,
        f.6,
      )

  -- one that serves all it can, or all that is missing, comes first
  pub fills_with : (low n q : ℕ) (picks : List Pick) →
      1 ≤ q → q ≤ n → can low q → (q < n → can low (q + 1) → ⊥) → FillsFrom can (low + 1) (n - q) picks →
      FillsFrom can low n ((low, q) ∷ picks)
  fills_with low n q picks some le c full f = (omega arith, (λ u lo hi c'. absurd (omega arith)), some, le, c, full, f)

  -- what fills shows that the amount can be filled
  pub can_fill : (low n : ℕ) (picks : List Pick) → FillsFrom can low n picks → CanFill can low n
  can_fill low n picks f = let r = fills_parts can low n picks f in
      record { picks = picks; distinct = r.0; each = r.1; serves = r.2 }

  -- where only vertices before `low` can serve, those from `low` on fill nothing
  pub none_fills : (low n : ℕ) → ((v q : ℕ) → 1 ≤ q → can v q → v < low) → 1 ≤ n → CanFill can low n → ⊥
  none_fills low n bound some f = go f.picks f.each (let s : served f.picks ≡ n = f.serves in omega arith)
    where
      go : (ps : List Pick) → AllByRecursion (IsPickFrom can low) ps → 1 ≤ served ps → ⊥
      go [] each h = omega arith
      go (p ∷ ps) each h = let lt : p.0 < low = bound p.0 p.1 each.0.1 each.0.2 in
          let lo : low ≤ p.0 = each.0.0 in omega arith

  -- at most one list of picks fills
  pub fills_once : (low n : ℕ) (ps qs : List Pick) → FillsFrom can low n ps → FillsFrom can low n qs → ps ≡ qs
  fills_once low n [] [] f g = refl
  fills_once low n [] (q ∷ qs) f g = let a : n ≡ 0 = f in
      let b : 1 ≤ q.1 = g.2 in let c : q.1 ≤ n = g.3 in absurd (omega arith)
  fills_once low n (p ∷ ps) [] f g = let a : n ≡ 0 = g in
      let b : 1 ≤ p.1 = f.2 in let c : p.1 ≤ n = f.3 in absurd (omega arith)
  fills_once low n (p ∷ ps) (q ∷ qs) f g =
      let scope : p.0 ≡ q.0 = elim (cases_lt p.0 q.0) [
        | inl lt ↦ absurd (g.1 p.0 f.0 lt (lower p.0 1 p.1 (omega arith) f.2 f.4))
        | inr ge ↦ elim (cases_lt q.0 p.0) [
          | inl gt ↦ absurd (f.1 q.0 g.0 gt (lower q.0 1 q.1 (omega arith) g.2 g.4))
          | inr le ↦ omega arith
        ]
      ] in
      let amount : p.1 ≡ q.1 = elim (cases_lt p.1 q.1) [
        | inl lt ↦ (let most : q.1 ≤ n = g.3 in absurd
            (f.5 (omega arith) (subst (λ (v : ℕ). can v (p.1 + 1)) (sym scope)
            (lower q.0 (p.1 + 1) q.1 (omega arith) (omega arith) g.4))))
        | inr ge ↦ elim (cases_lt q.1 p.1) [
          | inl gt ↦ (let most : p.1 ≤ n = f.3 in absurd
              (g.5 (omega arith) (subst (λ (v : ℕ). can v (q.1 + 1)) scope
              (lower p.0 (q.1 + 1) p.1 (omega arith) (omega arith) f.4))))
          | inr le ↦ omega arith
        ]
      ] in
      let head : p ≡ q = same_pick p.0 p.1 q.0 q.1 scope amount in
      let tail : ps ≡ qs = fills_once
      (p.0 + 1) (n - p.1) ps qs f.6 (subst (λ (r : Pick). FillsFrom can (r.0 + 1) (n - r.1) qs) (sym head) g.6) in
      cc

-- a fact about every number, at each vertex
pub can_along : (can could : ℕ → ℕ → Type 0) (low n : ℕ) →
    ((v q : ℕ) → can v q → could v q) → CanFill can low n → CanFill could low n
can_along can could low n along f =
    record { picks = f.picks; distinct = f.distinct; each = go f.picks f.each; serves = f.serves }
  where
    go : (ps : List Pick) → AllByRecursion (IsPickFrom can low) ps → AllByRecursion (IsPickFrom could low) ps
    go [] each = tt
    go (p ∷ ps) each = ((each.0.0, each.0.1, along p.0 p.1 each.0.2), go ps each.1)

-- picks that can serve from a later vertex alone are from it on
pub can_fill_from : (can : ℕ → ℕ → Type 0) (low high n : ℕ) →
    ((v q : ℕ) → 1 ≤ q → can v q → high ≤ v) → CanFill can low n → CanFill can high n
can_fill_from can low high n later f =
    record { picks = f.picks; distinct = f.distinct; each = go f.picks f.each; serves = f.serves }
  where
    go : (ps : List Pick) → AllByRecursion (IsPickFrom can low) ps → AllByRecursion (IsPickFrom can high) ps
    go [] each = tt
    go (p ∷ ps) each = ((later p.0 p.1 each.0.1 each.0.2, each.0.1, each.0.2), go ps each.1)

-- consecutive vertices, each serving 1
abbrev pub run : ℕ → ℕ → List Pick
run low zero = []
run low (suc n) = (low, 1) ∷ run (low + 1) n

-- they fill where each can serve 1 and not 2
pub fills_run : (can : ℕ → ℕ → Type 0) → IsDownward can → ((v : ℕ) → can v 2 → ⊥) →
    (n low : ℕ) → ((v : ℕ) → low ≤ v → v < low + n → can v 1) → FillsFrom can low n (run low n)
fills_run can down single zero low each = refl
fills_run can down single (suc n) low each =
    let less : n ≡ suc n - 1 = omega arith in
    fills_with can down low (suc n) 1
    (run (low + 1) n) (omega arith) (omega arith) (each low (omega arith) (omega arith)) (λ lt. single low)
    (subst (λ (m : ℕ). FillsFrom can (low + 1) m (run (low + 1) n)) less
    (fills_run can down single n (low + 1) (λ v lo hi. each v (omega arith) (omega arith))))

-- what the vertices from `low` on, so many of them, can serve together
abbrev pub supply : (ℕ → ℕ) → ℕ → ℕ → ℕ
supply most low zero = 0
supply most low (suc count) = most low + supply most (low + 1) count

-- where each vertex can serve so much at most, no more than their supply can be filled
pub within_supply : (can : ℕ → ℕ → Type 0) →
    IsDownward can → (most : ℕ → ℕ) → ((v : ℕ) → can v (most v + 1) → ⊥) → (count low n : ℕ) →
    ((v q : ℕ) → 1 ≤ q → can v q → v < low + count) → CanFill can low n → n ≤ supply most low count
within_supply can down most full zero low n bound f =
    elim (cases_lt 0 n) [
      | inl some ↦
          absurd (none_fills can down low n (λ v q h c. let lt : v < low + 0 = bound v q h c in omega arith) some f)
      | inr none ↦ omega arith
    ]
within_supply can down most full (suc count) low n bound f =
    elim (cases_lt n (most low)) [
      | inl few ↦ omega arith
      | inr many ↦ (
          let rest : n - most low ≤ supply most (low + 1) count =
          within_supply can down most full count (low + 1) (n - most low)
          (λ v q h c. let lt : v < low + suc count = bound v q h c in omega arith)
          (rest_can_fill can down low n (most low) many (full low) f) in omega arith)
    ]
