-- What a search needs to know of lists of needs: each need is looked for alone.
use Rattle.std.proofs.Common.{◌≡◌, ℕ, zero, suc, ◌+◌, ◌*◌, ◌<◌, ◌≤◌, Bool, true, false, List, [], ◌∷◌, ◌++◌, refl, sym}
use Rattle.std.proofs.Common.{◌∙◌, ap, subst, arith, append_assoc, append-nil, length, drop, drop-cons, get_or}
use mathlib.Core.Path.{transport, transport⁻¹}
use Rattle.std.specs.List.{AllByRecursion}
use Rattle.flux_defs.specs.declared.vertices.Vertex.{Vertex}
use Rattle.flux_defs.specs.declared.claims.Claim.{Claim}
use Rattle.flux_defs.specs.declared.claims.Claim.TheVariants.{Hold, Pass}
use Rattle.flux_defs.specs.declared.requests.Need.{Need, Vert, Vert', Pool, Spread, Spread'}
use Rattle.flux_defs.specs.Graph.{Scope, Beneath, IsIn, HasKind, IsNode}
use Rattle.flux_defs.specs.Needs.{amount_of, IsOfNeed}
use Rattle.flux_defs.specs.Fits.{Piece}
use Rattle.flux_defs.specs.Lowest.{CanServe, LowestPiece, Lowest}
use Rattle.flux_laws.proofs.Filling.{CanFill, can_fill_less}
use Rattle.flux_laws.proofs.FitLaws.{TakesLess, group_fills, filled_group, serves_less}
use Rattle.flux_laws.proofs.Rows.{piece_Vert, piece_Spread, lowest_Vert, lowest_Spread}
use Rattle.match_laws.specs.Offers.{IsGreatest, Offers, SomeGroup, SomeFits, LowestGroup, VertexClaims}

-- the greatest of one fact is the greatest of another that says the same
pub greatest_along : (can could : ℕ → Type 0) (most n : ℕ) →
    ((k : ℕ) → can k → could k) → ((k : ℕ) → could k → can k) → IsGreatest can most n → IsGreatest could most n
greatest_along can could most n to from g =
    record { within = g.within; can_be = λ some. to n (g.can_be some); full = λ lt c. g.full lt (from (n + 1) c) }

-- offers of one kind are offers of another
pub offers_along : (can could : ℕ → Type 0) (piece other : ℕ → List Claim → Type 0) (most q : ℕ) (claims : List Claim) →
    ((n : ℕ) → can n → could n) → ((n : ℕ) → could n → can n) → ((n : ℕ) (cs : List Claim) → piece n cs → other n cs) →
    Offers can piece most q claims → Offers could other most q claims
offers_along can could piece other most q claims to from along o = record {
  greatest = greatest_along can could most q to from o.greatest;
  nothing = o.nothing;
  written = λ some. along q claims (o.written some);
}

-- nothing is the greatest where 1 can't be
pub greatest_none : (can : ℕ → Type 0) (most : ℕ) → (can 1 → ⊥) → IsGreatest can most 0
greatest_none can most never =
    record { within = omega arith; can_be = λ some. absurd (omega arith); full = λ lt c. never c }

-- 1 is the greatest where 1 can be and 2 can't
pub greatest_one : (can : ℕ → Type 0) (most : ℕ) → 1 ≤ most → can 1 → (can 2 → ⊥) → IsGreatest can most 1
greatest_one can most some c never = record { within = some; can_be = λ _. c; full = λ _ d. never d }

pub drop_item : (needs items : List Need) (i : ℕ) (need : Need) →
    needs ≡ items → i < length items → need ≡ get_or items i need → drop i needs ≡ need ∷ drop (suc i) items
drop_item needs items i need same lt is =
    ap (drop i) same ∙ (drop-cons items i need lt ∙ ap (λ n. n ∷ drop (suc i) items) (sym is))

module _ (vertices : List Vertex) (ok : Claim → Type 0) where
  -- each need has a group of k times its amount
  abbrev pub AllFill : Scope → ℕ → List Need → Type 0
  AllFill scope k needs = AllByRecursion (λ need. SomeGroup vertices ok scope need (k * amount_of need)) needs

  -- claims that fit have a group for each need, and so back
  pub fits_alone : (k : ℕ) (scope : Scope) (needs : List Need) → SomeFits vertices ok scope needs k →
      AllFill scope k needs
  fits_alone k scope [] f = tt
  fits_alone k scope (need ∷ rest) f = ((f.1.0, f.1.3), fits_alone k scope rest (f.1.1, f.1.4))

  pub alone_fits : (k : ℕ) (scope : Scope) (needs : List Need) → AllFill scope k needs →
      SomeFits vertices ok scope needs k
  alone_fits k scope [] each = ([], refl)
  alone_fits k scope (need ∷ rest) each =
      let others = alone_fits k scope rest each.1 in
      (each.0.0 ++ others.0, (each.0.0, others.0, refl, each.0.1, others.1))

  -- a group can be filled, and so back
  pub group_to : (scope : Scope) (need : Need) (n : ℕ) → SomeGroup vertices ok scope need n →
      CanFill (CanServe vertices ok scope need) 0 n
  group_to scope need n g = group_fills (Piece vertices ok scope need) n g.0 g.1

  pub group_from : (scope : Scope) (need : Need) (n : ℕ) → CanFill (CanServe vertices ok scope need) 0 n →
      SomeGroup vertices ok scope need n
  group_from scope need n f = filled_group (Piece vertices ok scope need) n f

  -- a group of less
  pub group_less : TakesLess ok → (scope : Scope) (need : Need) (n m : ℕ) → m ≤ n → SomeGroup vertices ok scope need n →
      SomeGroup vertices ok scope need m
  group_less less scope need n m le g =
      group_from scope need m (can_fill_less (CanServe vertices ok scope need)
      (serves_less vertices ok less scope need) 0 n m le (group_to scope need n g))

  -- a group of nothing
  pub group_zero : (scope : Scope) (need : Need) (n : ℕ) → n ≡ 0 → SomeGroup vertices ok scope need n
  group_zero scope need n e = ([], ([], tt, tt, sym e, refl))

  -- the need at an index of the list has a group
  pub group_at : (k : ℕ) (scope : Scope) (needs : List Need) (i : ℕ) (need : Need) (rest : List Need) →
      drop i needs ≡ need ∷ rest → SomeFits vertices ok scope needs k →
      SomeGroup vertices ok scope need (k * amount_of need)
  group_at k scope [] zero need rest e f = absurd (cc)
  group_at k scope [] (suc i) need rest e f = absurd (cc)
  group_at k scope (n ∷ ns) zero need rest e f =
      let same : n ≡ need = cc in subst (λ (x : Need). SomeGroup vertices ok scope x (k * amount_of x)) same
      (f.1.0, f.1.3)
  group_at k scope (n ∷ ns) (suc i) need rest e f = group_at k scope ns i need rest e (f.1.1, f.1.4)

  -- one more lowest-first group
  pub lowest_more : (k : ℕ) (scope : Scope) (need : Need) (rest : List Need) (group others : List Claim) →
      LowestGroup vertices ok scope need (k * amount_of need) group →
      Lowest vertices ok k scope rest others → Lowest vertices ok k scope (need ∷ rest) (group ++ others)
  lowest_more k scope need rest group others g low = (g.0, group, others, refl, g.1, g.2, low)

  -- lowest-first claims of the needs that are left complete those so far
  abbrev pub Completes : ℕ → Scope → List Need → List Need → List Claim → Type 0
  Completes k scope needs left claims = (rest : List Claim) → Lowest vertices ok k scope left rest →
      Lowest vertices ok k scope needs (claims ++ rest)

  pub completes_next : (k : ℕ) (scope : Scope) (needs left rest : List Need) (need : Need) (claims group : List Claim) →
      left ≡ need ∷ rest → LowestGroup vertices ok scope need (k * amount_of need) group →
      Completes k scope needs left claims → Completes k scope needs rest (claims ++ group)
  completes_next k scope needs left rest need claims group e g c others low =
      subst (Lowest vertices ok k scope needs) (sym (append_assoc claims group others))
      (c (group ++ others) (subst (λ (ns : List Need). Lowest vertices ok k scope ns (group ++ others)) (sym e)
      (lowest_more k scope need rest group others g low)))

  pub completes_end : (k : ℕ) (scope : Scope) (needs left : List Need) (claims : List Claim) → left ≡ [] →
      Completes k scope needs left claims → Lowest vertices ok k scope needs claims
  completes_end k scope needs left claims e c =
      subst (Lowest vertices ok k scope needs) (append-nil claims)
      (c [] (subst (λ (ns : List Need). Lowest vertices ok k scope ns []) (sym e) refl))

  -- what serves is a vertex of the need, in the scope
  pub server : (scope : Scope) (need : Need) (v q : ℕ) → CanServe vertices ok scope need v q → IsOfNeed vertices need v
      × IsIn vertices scope v
  server scope (Vert' kind count hold m needs) v q c = (c.1.2, c.1.1)
  server scope (Pool kind quantity) v q c = (c.1.1, c.1.0)
  server scope (Spread' count m needs) v q c = (c.1.1, c.1.0)

  -- a vertex need is served by one vertex at a time, by its claims
  pub serves_vertex : (scope : Scope) (kind count : ℕ) (hold : Bool) (needs : List Need) (v : ℕ) →
      IsIn vertices scope v → HasKind vertices kind v → (claims : List Claim) →
      VertexClaims vertices ok hold needs v claims → CanServe vertices ok scope (Vert kind count hold needs) v 1
  serves_vertex scope kind count hold needs v within is claims p =
      (claims, transport⁻¹ (piece_Vert vertices ok scope kind count hold needs v 1 claims) (refl, within, is, p))

  pub vertex_serves : (scope : Scope) (kind count : ℕ) (hold : Bool) (needs : List Need) (v q : ℕ) →
      CanServe vertices ok scope (Vert kind count hold needs) v q →
      (q ≡ 1) × ((claims : List Claim) × VertexClaims vertices ok hold needs v claims)
  vertex_serves scope kind count hold needs v q c = let p = transport
      (piece_Vert vertices ok scope kind count hold needs v q c.0) c.1 in (p.0, (c.0, p.3))

  -- a spread is served by copies below one node
  pub serves_copies : (scope : Scope) (count : ℕ) (needs : List Need) (v q : ℕ) → IsIn vertices scope v →
      IsNode vertices v → ok (Pass v) → SomeFits vertices ok (Beneath v) needs q →
      CanServe vertices ok scope (Spread count needs) v q
  serves_copies scope count needs v q within is may f = (
    Pass v ∷ f.0,
    transport⁻¹ (piece_Spread vertices ok scope count needs v q (Pass v ∷ f.0))
        (within, is, (f.0, refl, may, f.1)),
  )

  pub copies_serve : (scope : Scope) (count : ℕ) (needs : List Need) (v q : ℕ) →
      CanServe vertices ok scope (Spread count needs) v q → ok (Pass v) × SomeFits vertices ok (Beneath v) needs q
  copies_serve scope count needs v q c = let p =
      (transport (piece_Spread vertices ok scope count needs v q c.0) c.1).2 in (p.2, (p.0, p.3))

  -- what is written for a vertex that is held, or shared, and for copies
  pub writes_hold : (kind count : ℕ) (needs : List Need) (v : ℕ) →
      LowestPiece vertices ok (Vert kind count true needs) v 1 (Hold v ∷ [])
  writes_hold kind count needs v = transport⁻¹ (lowest_Vert vertices ok kind count true needs v 1 (Hold v ∷ [])) refl

  pub writes_pass : (kind count : ℕ) (needs : List Need) (v : ℕ) (within : List Claim) →
      Lowest vertices ok 1 (Beneath v) needs within →
      LowestPiece vertices ok (Vert kind count false needs) v 1 (Pass v ∷ within)
  writes_pass kind count needs v within low =
      transport⁻¹ (lowest_Vert vertices ok kind count false needs v 1 (Pass v ∷ within)) (within, refl, low)

  pub writes_copies : (count : ℕ) (needs : List Need) (v q : ℕ) (within : List Claim) →
      Lowest vertices ok q (Beneath v) needs within →
      LowestPiece vertices ok (Spread count needs) v q (Pass v ∷ within)
  writes_copies count needs v q within low =
      transport⁻¹ (lowest_Spread vertices ok count needs v q (Pass v ∷ within)) (within, refl, low)
