-- What is written in one pass: a walk that fills as much as it can, and the first claims of held vertices.
use Rattle.std.proofs.Common.{◌≡◌, ℕ, zero, suc, ◌+◌, ◌*◌, ◌-◌, ◌<◌, ◌≤◌, true, List, [], ◌∷◌, ◌++◌, refl, sym, ◌∙◌, ap}
use Rattle.std.proofs.Common.{inl, inr, subst, arith, append_assoc, append-nil, length, take}
use Rattle.std.proofs.Math.Seq.{take-append-add}
use Rattle.std.proofs.lemmas.Bool.{cases_lt}
use Rattle.flux_defs.specs.declared.vertices.Vertex.{Vertex}
use Rattle.flux_defs.specs.declared.claims.Claim.{Claim}
use Rattle.flux_defs.specs.declared.claims.Claim.TheVariants.{Hold, Pass}
use Rattle.flux_defs.specs.declared.requests.Need.{Need, Vert, Spread}
use Rattle.flux_defs.specs.Graph.{Scope, Beneath, IsIn, IsNode}
use Rattle.flux_defs.specs.Needs.{amount_of, IsOfNeed}
use Rattle.flux_defs.specs.Fits.{Pick, Pieces}
use Rattle.flux_defs.specs.Lowest.{FillsFrom, CanServe, LowestPiece}
use Rattle.flux_laws.proofs.Filling.{CanFill, IsDownward, fills_parts}
use Rattle.flux_laws.proofs.FitLaws.{TakesLess}
use Rattle.match_laws.specs.Offers.{IsGreatest, Offers, SomeGroup, LowestGroup}
use Rattle.match_laws.proofs.Walk.{Filled, NoneBetween, filled_start, filled_over, filled_next, filled_done}
use Rattle.match_laws.proofs.Walk.{filled_none}
use Rattle.dfu_match.specs.Walks.{IsPlainHold}
use Rattle.dfu_match.proofs.CountLaws.{vertex_closed, nothing_asked, node_open, copies_alone}
use Rattle.dfu_match.proofs.WriteLaws.{offers_none, offers_held, offers_copies}

-- A walk has filled `done` before vertex `at`, and its claims are on the way to each amount from there to `most`.
abbrev pub FilledUpTo : (ℕ → ℕ → Type 0) → (ℕ → ℕ → List Claim → Type 0) → ℕ → ℕ → ℕ → List Claim → Type 0
FilledUpTo can piece most at done claims =
    (n : ℕ) → done ≤ n → n ≤ most → Filled can piece n at (n - done) claims

-- as much as can be offered of more is what can be offered of less, where that is no less
offers_fewer : (can : ℕ → Type 0) (piece : ℕ → List Claim → Type 0) (most few q : ℕ) (claims : List Claim) →
    q ≤ few → few ≤ most → Offers can piece most q claims → Offers can piece few q claims
offers_fewer can piece most few q claims within le o = record {
  greatest = record {
    within = within;
    can_be = o.greatest.can_be;
    full = λ lt c. o.greatest.full (omega arith) c;
  };
  nothing = o.nothing;
  written = o.written;
}

module _ (can : ℕ → ℕ → Type 0) (down : IsDownward can) (piece : ℕ → ℕ → List Claim → Type 0) where
  pub up_to_start : (most from : ℕ) → NoneBetween can 0 from → FilledUpTo can piece most from 0 []
  up_to_start most from none n lo hi =
      subst (λ m. Filled can piece n from m []) (let e : n ≡ n - 0 = omega arith in e)
      (filled_start can piece n from none)

  -- vertices that can serve nothing are passed over
  pub up_to_over : (most at to done : ℕ) (claims : List Claim) → at ≤ to → NoneBetween can at to →
      FilledUpTo can piece most at done claims → FilledUpTo can piece most to done claims
  up_to_over most at to done claims le none f n lo hi =
      filled_over can piece n at to (n - done) claims le none (f n lo hi)

  -- where nothing is missing, a vertex that serves nothing is passed over too
  nothing_next : (n at : ℕ) (claims more : List Claim) → more ≡ [] → Filled can piece n at 0 claims →
      Filled can piece n (at + 1) 0 (claims ++ more)
  nothing_next n at claims more none f = record {
    picks = f.picks;
    fills = λ rest h. f.fills rest (over rest h);
    pieces = subst (Pieces piece f.picks) (sym (ap (λ x. claims ++ x) none ∙ append-nil claims)) f.pieces;
    left = λ h. record { picks = []; distinct = tt; each = tt; serves = refl };
  }
    where
      over : (rest : List Pick) → FillsFrom can (at + 1) 0 rest → FillsFrom can at 0 rest
      over [] h = refl
      over (p ∷ ps) h = absurd (let some : 1 ≤ p.1 = h.2 in let few : p.1 ≤ 0 = h.3 in omega (arith, some, few))

  -- the next vertex serves all that it can, and writes its piece
  pub up_to_next : (most at done q : ℕ) (claims more : List Claim) → FilledUpTo can piece most at done claims →
      Offers (can at) (piece at) (most - done) q more →
      FilledUpTo can piece most (at + 1) (done + q) (claims ++ more)
  up_to_next most at done q claims more f o n lo hi = elim (cases_lt done n) [
    | inl lt ↦
        let e : (n - done) - q ≡ n - (done + q) = omega arith in
        subst (λ m. Filled can piece n (at + 1) m (claims ++ more)) e
        (filled_next can down piece n at (n - done) q claims more (omega (arith, lt)) (f n (omega arith) hi)
        (offers_fewer (can at) (piece at) (most - done) (n - done) q more (omega (arith, lo)) (omega (arith, hi)) o))
    | inr ge ↦
        let none : q ≡ 0 = omega (arith, lo, ge) in
        let e : n - done ≡ 0 = omega (arith, ge) in
        let d : 0 ≡ n - (done + q) = omega (arith, ge) in
        subst (λ m. Filled can piece n (at + 1) m (claims ++ more)) d
        (nothing_next n at claims more (o.nothing none)
        (subst (λ m. Filled can piece n at m claims) e (f n (omega (arith, lo)) hi)))
  ]

  -- all is filled, or no vertex from here on can serve: so much is the most, and the claims are its lowest-first group
  pub up_to_end : (most at done : ℕ) (claims : List Claim) → done ≤ most →
      (done < most → (v q : ℕ) → at ≤ v → 1 ≤ q → can v q → ⊥) → FilledUpTo can piece most at done claims →
      IsGreatest (CanFill can 0) most done
      × ((picks : List Pick) × FillsFrom can 0 done picks × Pieces piece picks claims)
  up_to_end most at done claims within none f =
      let zero : done - done ≡ 0 = omega arith in
      let group = filled_done can piece done at claims
      (subst (λ m. Filled can piece done at m claims) zero (f done (omega arith) within)) in
      let parts = fills_parts can 0 done group.0 group.1 in (
        record {
          within = within;
          can_be = λ some. record {
            picks = group.0;
            distinct = parts.0;
            each = parts.1;
            serves = parts.2;
          };
          full = λ lt h. filled_none can down piece (done + 1) at ((done + 1) - done) claims (none lt) (omega arith)
              (f (done + 1) (omega arith) (omega (arith, lt))) h;
        },
        group,
      )

-- what stands at the end of a list is cut back to so much
pub cut_to : (old front back new : List Claim) (n : ℕ) → new ≡ (old ++ front) ++ back →
    take (length (old ++ front) + n) new ≡ old ++ (front ++ take n back)
cut_to old front back new n e = ap (take (length (old ++ front) + n)) e
    ∙ (take-append-add (old ++ front) back n ∙ append_assoc old front (take n back))

module _ (can : ℕ → ℕ → Type 0) (piece : ℕ → ℕ → List Claim → Type 0) (one : (v q : ℕ) → can v q → q ≡ 1)
    (held : (v q : ℕ) (claims : List Claim) → piece v q claims → claims ≡ Hold v ∷ []) where
  -- the first claims of picks of which each serves 1 and writes one claim fill as many
  first_claims : (low n m : ℕ) (picks : List Pick) (claims : List Claim) → m ≤ n → FillsFrom can low n picks →
      Pieces piece picks claims →
      (ps : List Pick) × FillsFrom can low m ps × Pieces piece ps (take m claims)
  first_claims low n zero picks claims le f g = ([], refl, refl)
  first_claims low n (suc m) [] claims le f g = absurd (let none : n ≡ 0 = f in omega (arith, none, le))
  first_claims low n (suc m) (p ∷ ps) claims le f g =
      let e : p.1 ≡ 1 = one p.0 p.1 f.4 in
      let r = first_claims (p.0 + 1) (n - p.1) m ps g.1 (omega (arith, e, le)) f.6 g.4 in
      let first : g.0 ≡ Hold p.0 ∷ [] = held p.0 p.1 g.0 g.3 in
      let all : claims ≡ Hold p.0 ∷ g.1 = g.2 ∙ ap (λ x. x ++ g.1) first in
      let cut : take (suc m) claims ≡ g.0 ++ take m g.1 =
      ap (take (suc m)) all ∙ sym (ap (λ x. x ++ take m g.1) first) in
      let left : m ≡ suc m - p.1 = omega (arith, e) in (
        p ∷ r.0,
        (
          f.0,
          f.1,
          f.2,
          omega (arith, e),
          f.4,
          λ lt more. (let two : p.1 + 1 ≡ 1 = one p.0 (p.1 + 1) more in omega (arith, e, two)),
          subst (λ k. FillsFrom can (p.0 + 1) k r.0) left r.1,
        ),
        (g.0, take m g.1, cut, g.3, r.2),
      )

-- of held vertices the first claims are the lowest-first group of as many
first_held : (vertices : List Vertex) (ok : Claim → Type 0) (scope : Scope) (need : Need) (n m : ℕ)
    (claims : List Claim) → IsPlainHold need → m ≤ n → LowestGroup vertices ok scope need n claims →
    LowestGroup vertices ok scope need m (take m claims)
first_held vertices ok scope need n m claims (kind, count, is) le g =
    subst (λ (x : Need). LowestGroup vertices ok scope x m (take m claims)) (sym is)
    (first_claims (CanServe vertices ok scope (Vert kind count true []))
    (LowestPiece vertices ok (Vert kind count true [])) (λ v q c. c.1.0) (λ v q cs p. p) 0 n m
    here.0 claims le here.1 here.2)
  where
    here : LowestGroup vertices ok scope (Vert kind count true []) n claims
    here = subst (λ (x : Need). LowestGroup vertices ok scope x n claims) is g

module _ (vertices : List Vertex) (ok : Claim → Type 0) (scope : Scope) where
  -- a vertex of such a need serves 1 where it may be held, and else nothing
  pub held_none : (need : Need) (v most : ℕ) → IsPlainHold need → (ok (Hold v) → ⊥) →
      Offers (CanServe vertices ok scope need v) (LowestPiece vertices ok need v) most 0 []
  held_none need v most (kind, count, is) never =
      subst (λ (x : Need). Offers (CanServe vertices ok scope x v) (LowestPiece vertices ok x v) most 0 []) (sym is)
      (offers_none _ _ most 0 refl (vertex_closed vertices ok scope kind count true [] v most never))

  pub held_one : (need : Need) (v most : ℕ) → IsPlainHold need → IsOfNeed vertices need v → IsIn vertices scope v →
      1 ≤ most → ok (Hold v) →
      Offers (CanServe vertices ok scope need v) (LowestPiece vertices ok need v) most 1 (Hold v ∷ [])
  held_one need v most (kind, count, is) of_need within some may =
      subst (λ (x : Need). Offers (CanServe vertices ok scope x v) (LowestPiece vertices ok x v) most 1 (Hold v ∷ []))
      (sym is)
      (offers_held vertices ok scope kind count true [] v most 1 refl (λ e. absurd (omega (arith, e))) some within
      (subst (λ (x : Need). IsOfNeed vertices x v) is of_need) may (nothing_asked vertices ok (Beneath v) [] refl))

  -- claims that fill whole copies of such a need alone, below a node, are the node's piece
  pub copies_held : (need : Need) (count node most reached copies : ℕ) (claims : List Claim) → IsPlainHold need →
      (copies ≡ 0 → ⊥) → copies * amount_of need ≤ reached →
      IsGreatest (CanServe vertices ok scope (Spread count (need ∷ [])) node) most copies →
      LowestGroup vertices ok (Beneath node) need reached claims →
      Offers (CanServe vertices ok scope (Spread count (need ∷ [])) node)
      (LowestPiece vertices ok (Spread count (need ∷ [])) node) most copies
      (Pass node ∷ take (copies * amount_of need) claims)
  copies_held need count node most reached copies claims is some le g low =
      let first = take (copies * amount_of need) claims in
      let group = first_held vertices ok (Beneath node) need reached (copies * amount_of need) claims is le low in
      offers_copies vertices ok scope count (need ∷ []) node most copies (Pass node ∷ first) some g
      (first, refl, (group.0, first, [], sym (append-nil first), group.1, group.2, refl))

  -- a node that may be passed serves as many copies as what was reached below it is times the amount
  pub greatest_held : TakesLess ok → (need : Need) (count node most reached copies : ℕ) → IsIn vertices scope node →
      IsNode vertices node → ok (Pass node) →
      IsGreatest (SomeGroup vertices ok (Beneath node) need) (most * amount_of need) reached →
      copies * amount_of need ≤ reached → reached < (copies + 1) * amount_of need → copies ≤ most →
      IsGreatest (CanServe vertices ok scope (Spread count (need ∷ [])) node) most copies
  greatest_held less need count node most reached copies within is may g low high few =
      node_open vertices ok scope count (need ∷ []) node most copies within is may
      (copies_alone vertices ok less (Beneath node) need most reached copies g low high few)
