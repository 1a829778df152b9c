-- Walks over the vertices that take from each all that it offers: what they keep, over an abstract `can v q`.
use Rattle.std.proofs.Common.{◌≡◌, ℕ, zero, suc, ◌+◌, ◌-◌, ◌<◌, ◌≤◌, List, [], ◌∷◌, ◌++◌, inl, inr, refl, sym, ◌∙◌, ap}
use Rattle.std.proofs.Common.{subst, arith, append_assoc, append-nil}
use Rattle.std.proofs.lemmas.Bool.{cases_lt}
use Rattle.std.specs.List.{AllByRecursion}
use Rattle.flux_defs.specs.declared.claims.Claim.{Claim}
use Rattle.flux_defs.specs.Fits.{Pick, served, NoneFor, AreDistinct, Pieces}
use Rattle.flux_defs.specs.Lowest.{FillsFrom}
use Rattle.flux_laws.proofs.Filling.{CanFill, IsPickFrom, IsDownward, rest_can_fill, fills_with, fills_past}
use Rattle.match_laws.specs.Offers.{IsGreatest, Offers}

-- the vertices from `low` on and before `high` can serve nothing
abbrev pub NoneBetween : (ℕ → ℕ → Type 0) → ℕ → ℕ → Type 0
NoneBetween can low high = (v q : ℕ) → low ≤ v → v < high → 1 ≤ q → can v q → ⊥

pieces_push : (piece : ℕ → ℕ → List Claim → Type 0) (ps : List Pick) (p : Pick) (a b : List Claim) →
    Pieces piece ps a → piece p.0 p.1 b → Pieces piece (ps ++ p ∷ []) (a ++ b)
pieces_push piece [] p a b g h = (b, [], (ap (λ x. x ++ b) g ∙ sym (append-nil b)), h, refl)
pieces_push piece (q ∷ ps) p a b g h =
    (g.0, g.1 ++ b, ap (λ x. x ++ b) g.2 ∙ append_assoc g.0 g.1 b, g.3, pieces_push piece ps p g.1 b g.4 h)

-- vertices that can serve nothing are passed over, by picks that fill
fills_over : (can : ℕ → ℕ → Type 0) (low high n : ℕ) (picks : List Pick) →
    low ≤ high → NoneBetween can low high → FillsFrom can high n picks → FillsFrom can low n picks
fills_over can low high n [] le none f = f
fills_over can low high n (p ∷ ps) le none f =
    let from : high ≤ p.0 = f.0 in (
      omega arith,
      λ u lo hi c. elim (cases_lt u high) [
        | inl before ↦ none u 1 lo before (omega arith) c
        | inr after ↦ f.1 u after hi c
      ],
      f.2,
      f.3,
      f.4,
      f.5,
      f.6,
    )

-- and by picks that serve so much
can_fill_over : (can : ℕ → ℕ → Type 0) (low high n : ℕ) →
    NoneBetween can low high → CanFill can low n → CanFill can high n
can_fill_over can low high n none f =
    record { picks = f.picks; distinct = f.distinct; each = go f.picks f.each; serves = f.serves }
  where
    go : (ps : List Pick) → AllByRecursion (IsPickFrom can low) ps → AllByRecursion (IsPickFrom can high) ps
    go [] each = tt
    go (p ∷ ps) each = (
      (
        elim (cases_lt p.0 high) [
          | inl before ↦ absurd (none p.0 p.1 each.0.0 before each.0.1 each.0.2)
          | inr after ↦ after
        ],
        each.0.1,
        each.0.2,
      ),
      go ps each.1,
    )

-- The walk has come to vertex `at`, with these claims, and `missing` of the total is left. What fills the rest
-- completes it; and if anything can fill the total, the vertices from here on can fill the rest.
pub record Filled (can : ℕ → ℕ → Type 0)
    (piece : ℕ → ℕ → List Claim → Type 0) (total at missing : ℕ) (claims : List Claim) : Type 0 where
  pub picks : List Pick
  pub fills : (rest : List Pick) → FillsFrom can at missing rest → FillsFrom can 0 total (picks ++ rest)
  pub pieces : Pieces piece picks claims
  pub left : CanFill can 0 total → CanFill can at missing

-- The walk has come to vertex `at`, and `done` can be served by the vertices before it; what more can be served at all,
-- up to `most`, the vertices from here on can serve.
pub record Reached (can : ℕ → ℕ → Type 0) (most at done : ℕ) : Type 0 where
  pub within : done ≤ most
  pub picks : List Pick
  pub distinct : AreDistinct picks
  pub each : AllByRecursion (λ p. (p.0 < at) × (1 ≤ p.1) × can p.0 p.1) picks
  pub serves : served picks ≡ done
  pub left : (n : ℕ) → done < n → n ≤ most → CanFill can 0 n → CanFill can at (n - done)

-- if anything can fill the total, the vertices from `at` on can fill what is lacking
abbrev pub Lacks : (ℕ → ℕ → Type 0) → ℕ → ℕ → ℕ → Type 0
Lacks can total at lacking = CanFill can 0 total → CanFill can at lacking

module _ (can : ℕ → ℕ → Type 0) (total : ℕ) where
  -- all of it, where no vertex before can serve
  pub lacks_start : (from : ℕ) → NoneBetween can 0 from → Lacks can total from total
  lacks_start from none f = can_fill_over can 0 from total none f

  -- passing over vertices that can serve nothing
  pub lacks_over : (at to lacking : ℕ) → NoneBetween can at to → Lacks can total at lacking →
      Lacks can total to lacking
  lacks_over at to lacking none lacks f = can_fill_over can at to lacking none (lacks f)

module _ (can : ℕ → ℕ → Type 0) (piece : ℕ → ℕ → List Claim → Type 0) (total : ℕ) where
  -- a walk begins at the first vertex that can serve
  pub filled_start : (from : ℕ) → NoneBetween can 0 from → Filled can piece total from total []
  filled_start from none = record {
    picks = [];
    fills = λ rest f. fills_over can 0 from total rest (omega arith) none f;
    pieces = refl;
    left = λ f. can_fill_over can 0 from total none f;
  }

  -- it passes over vertices that can serve nothing
  pub filled_over : (at to missing : ℕ) (claims : List Claim) → at ≤ to →
      NoneBetween can at to → Filled can piece total at missing claims → Filled can piece total to missing claims
  filled_over at to missing claims le none f = record {
    picks = f.picks;
    fills = λ rest h. f.fills rest (fills_over can at to missing rest le none h);
    pieces = f.pieces;
    left = λ h. can_fill_over can at to missing none (f.left h);
  }

  -- nothing is missing: the claims are a lowest-first group
  pub filled_done : (at : ℕ) (claims : List Claim) →
      Filled can piece total at 0 claims → (picks : List Pick) × FillsFrom can 0 total picks × Pieces piece picks claims
  filled_done at claims f = (f.picks, subst (FillsFrom can 0 total) (append-nil f.picks) (f.fills [] refl), f.pieces)

module _ (can : ℕ → ℕ → Type 0) (down : IsDownward can) where
  none_left : (at n : ℕ) → n ≡ 0 → CanFill can at n
  none_left at n e = record { picks = []; distinct = tt; each = tt; serves = sym e }

  -- what can be filled from `at` on, when vertex `at` has served all that it can
  left_after : (at missing q : ℕ) →
      IsGreatest (can at) missing q → CanFill can at missing → CanFill can (at + 1) (missing - q)
  left_after at missing q o h =
      elim (cases_lt q missing) [
        | inl lt ↦ rest_can_fill can down at missing q o.within (o.full lt) h
        | inr ge ↦ none_left (at + 1) (missing - q) (let le : q ≤ missing = o.within in omega arith)
      ]

  -- where no vertex from here on can serve, nothing fills some amount
  none_fill : (low n : ℕ) → ((v q : ℕ) → low ≤ v → 1 ≤ q → can v q → ⊥) → 1 ≤ n → CanFill can low n → ⊥
  none_fill low n never some f =
      let z : served f.picks ≡ 0 = no_picks f.picks f.each in
      let s : served f.picks ≡ n = f.serves in
      omega arith
    where
      no_picks : (ps : List Pick) → AllByRecursion (IsPickFrom can low) ps → served ps ≡ 0
      no_picks [] each = refl
      no_picks (p ∷ ps) each = absurd (never p.0 p.1 each.0.0 each.0.1 each.0.2)

  -- no vertex from here on can serve, and something is missing: nothing fills the total
  pub filled_none : (piece : ℕ → ℕ → List Claim → Type 0) (total at missing : ℕ) (claims : List Claim) →
      ((v q : ℕ) → at ≤ v → 1 ≤ q → can v q → ⊥) → 1 ≤ missing →
      Filled can piece total at missing claims → CanFill can 0 total → ⊥
  filled_none piece total at missing claims none some f h = none_fill at missing none some (f.left h)

  -- the next vertex serves all that it can, and writes its piece
  pub filled_next : (piece : ℕ → ℕ → List Claim → Type 0) (total at missing q : ℕ) (claims more : List Claim) →
      1 ≤ missing → Filled can piece total at missing claims →
      Offers (can at) (piece at) missing q more → Filled can piece total (at + 1) (missing - q) (claims ++ more)
  filled_next piece total at missing zero claims more some f o =
      let less : missing ≡ missing - 0 = omega arith in
      let nothing : claims ++ more ≡ claims = ap (λ x. claims ++ x) (o.nothing refl) ∙ append-nil claims in
      record {
        picks = f.picks;
        fills = λ rest h. f.fills rest (fills_past can down at missing rest
            (o.greatest.full some) (subst (λ (m : ℕ). FillsFrom can (at + 1) m rest) (sym less) h));
        pieces = subst (Pieces piece f.picks) (sym nothing) f.pieces;
        left = λ h. left_after at missing 0 o.greatest (f.left h);
      }
  filled_next piece total at missing (suc q) claims more some f o =
      let able : can at (suc q) = o.greatest.can_be (omega arith) in
      record {
        picks = f.picks ++ (at, suc q) ∷ [];
        fills = λ rest h. rw append_assoc (f.fills ((at, suc q) ∷ rest)
            (fills_with can down at missing (suc q) rest (omega arith) o.greatest.within able o.greatest.full h));
        pieces = pieces_push piece f.picks (at, suc q) claims more f.pieces (o.written (omega arith));
        left = λ h. left_after at missing (suc q) o.greatest (f.left h);
      }

  -- a count begins with nothing done
  pub reached_start : (most from : ℕ) → NoneBetween can 0 from → Reached can most from 0
  reached_start most from none = record {
    within = omega arith;
    picks = [];
    distinct = tt;
    each = tt;
    serves = refl;
    left = λ n lt le f. let e : n ≡ n - 0 = omega arith in
        subst (CanFill can from) e (can_fill_over can 0 from n none f);
  }

  raise : (low high : ℕ) →
      low ≤ high → (ps : List Pick) → AllByRecursion (λ p. (p.0 < low) × (1 ≤ p.1) × can p.0 p.1) ps →
      AllByRecursion (λ p. (p.0 < high) × (1 ≤ p.1) × can p.0 p.1) ps
  raise low high le [] each = tt
  raise low high le (p ∷ ps) each =
      ((let lt : p.0 < low = each.0.0 in omega arith, each.0.1, each.0.2), raise low high le ps each.1)

  none_at : (low : ℕ) (ps : List Pick) → AllByRecursion (λ p. (p.0 < low) × (1 ≤ p.1) × can p.0 p.1) ps → NoneFor low ps
  none_at low [] each = tt
  none_at low (p ∷ ps) each = ((let lt : p.0 < low = each.0.0 in λ (e : p.0 ≡ low). omega arith), none_at low ps each.1)

  -- it passes over vertices that can serve nothing
  pub reached_over : (most at to done : ℕ) →
      at ≤ to → NoneBetween can at to → Reached can most at done → Reached can most to done
  reached_over most at to done le none r = record {
    within = r.within;
    picks = r.picks;
    distinct = r.distinct;
    each = raise at to le r.picks r.each;
    serves = r.serves;
    left = λ n lt few f. can_fill_over can at to (n - done) none (r.left n lt few f);
  }

  -- the next vertex serves all that it can
  pub reached_next : (most at done q : ℕ) →
      Reached can most at done → IsGreatest (can at) (most - done) q → Reached can most (at + 1) (done + q)
  reached_next most at done zero r o = record {
    within = let le : done ≤ most = r.within in omega arith;
    picks = r.picks;
    distinct = r.distinct;
    each = raise at (at + 1) (omega arith) r.picks r.each;
    serves = (let s : served r.picks ≡ done = r.serves in omega arith);
    left = λ n lt few f.
        let e : (n - done) - 0 ≡ n - (done + 0) = omega arith in
        subst (CanFill can (at + 1)) e (rest_can_fill can down at
        (n - done) 0 (omega arith) (o.full (omega arith)) (r.left n (omega arith) few f));
  }
  reached_next most at done (suc q) r o = record {
    within = (let le : done ≤ most = r.within in let few : suc q ≤ most - done = o.within in omega arith);
    picks = (at, suc q) ∷ r.picks;
    distinct = (none_at at r.picks r.each, r.distinct);
    each = ((omega arith, omega arith, o.can_be (omega arith)), raise at (at + 1) (omega arith) r.picks r.each);
    serves = (let s : served r.picks ≡ done = r.serves in omega arith);
    left = λ n lt few f.
        let e : (n - done) - suc q ≡ n - (done + suc q) = omega arith in
        subst (CanFill can (at + 1)) e (rest_can_fill can down at
        (n - done) (suc q) (omega arith) (o.full (omega arith)) (r.left n (omega arith) few f));
  }

  from_first : (at : ℕ) (ps : List Pick) →
      AllByRecursion (λ p. (p.0 < at) × (1 ≤ p.1) × can p.0 p.1) ps → AllByRecursion (IsPickFrom can 0) ps
  from_first at [] each = tt
  from_first at (p ∷ ps) each = ((omega arith, each.0.1, each.0.2), from_first at ps each.1)

  -- what is done can be filled
  pub reached_fills : (most at done : ℕ) → Reached can most at done → CanFill can 0 done
  reached_fills most at done r =
      record { picks = r.picks; distinct = r.distinct; each = from_first at r.picks r.each; serves = r.serves }

  -- all that was asked is done
  pub reached_all : (most at done : ℕ) → most ≤ done → Reached can most at done → IsGreatest (CanFill can 0) most done
  reached_all most at done over r = record {
    within = r.within;
    can_be = λ some. reached_fills most at done r;
    full = λ lt f. absurd (omega arith);
  }

  -- no vertex from here on can serve
  pub reached_end : (most at done : ℕ) →
      ((v q : ℕ) → at ≤ v → 1 ≤ q → can v q → ⊥) → Reached can most at done → IsGreatest (CanFill can 0) most done
  reached_end most at done never r = record {
    within = r.within;
    can_be = λ some. reached_fills most at done r;
    full = λ lt f. none_fill at ((done + 1) - done) never (omega arith)
        (r.left (done + 1) (omega arith) (omega arith) f);
  }

  -- where no more than n can be served by vertex `at`, the vertices behind it can fill what that leaves
  pub lacks_next : (total at lacking n : ℕ) → ((q : ℕ) → n < q → can at q → ⊥) → Lacks can total at lacking →
      Lacks can total (at + 1) (lacking - n)
  lacks_next total at lacking n most lacks f = elim (cases_lt n lacking) [
    | inl lt ↦ rest_can_fill can down at lacking n (omega arith) (most (n + 1) (omega arith)) (lacks f)
    | inr ge ↦ none_left (at + 1) (lacking - n) (omega arith)
  ]

  pub lacks_nothing : (total at : ℕ) → Lacks can total at 0
  lacks_nothing total at f = none_left at 0 refl

  -- no vertex from here on can serve, and something is lacking: nothing fills the total
  pub lacks_end : (total at lacking : ℕ) → ((v q : ℕ) → at ≤ v → 1 ≤ q → can v q → ⊥) → 1 ≤ lacking →
      Lacks can total at lacking → CanFill can 0 total → ⊥
  lacks_end total at lacking never some lacks f = none_fill at lacking never some (lacks f)
