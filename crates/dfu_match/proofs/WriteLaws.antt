-- What writing keeps: the piece of each vertex, the group of each need, and the claims of all.
use Rattle.std.proofs.Common.{◌≡◌, ℕ, ◌≤◌, Bool, true, false, List, [], ◌∷◌, ◌++◌, refl, sym, ◌∙◌, ap, subst}
use Rattle.std.proofs.Common.{arith, append_assoc, append-nil, take, length}
use Rattle.std.proofs.Math.Seq.{take-append_seam}
use Rattle.flux_defs.specs.declared.vertices.Vertex.{Vertex}
use Rattle.flux_defs.specs.declared.claims.Claim.{Claim}
use Rattle.flux_defs.specs.declared.claims.Claim.TheVariants.{Hold, Pass}
use Rattle.flux_defs.specs.declared.requests.Need.{Need, Vert, Spread}
use Rattle.flux_defs.specs.Graph.{Scope, Beneath, IsIn, HasKind}
use Rattle.flux_defs.specs.Lowest.{CanServe, FollowsPass, LowestPiece, Lowest}
use Rattle.flux_laws.proofs.Lists.{lowest_list_fits}
use Rattle.match_laws.specs.Offers.{IsGreatest, Offers, Extends, SomeFits}
use Rattle.match_laws.proofs.NeedLists.{greatest_none, copies_serve, writes_hold, writes_pass, writes_copies}
use Rattle.dfu_match.specs.Searches.{claim_on}
use Rattle.dfu_match.proofs.CountLaws.{vertex_open}

-- nothing is offered where nothing can be
pub offers_none : (can : ℕ → Type 0) (piece : ℕ → List Claim → Type 0) (most q : ℕ) → q ≡ 0 → IsGreatest can most q →
    Offers can piece most 0 []
offers_none can piece most q none g = record
    { greatest = subst (IsGreatest can most) none g; nothing = λ e. refl; written = λ some. absurd (omega arith) }

-- what is written for as much as can be is offered
pub offers_some : (can : ℕ → Type 0) (piece : ℕ → List Claim → Type 0) (most q : ℕ) (claims : List Claim) → 1 ≤ q →
    IsGreatest can most q → piece q claims → Offers can piece most q claims
offers_some can piece most q claims some g p =
    record { greatest = g; nothing = λ e. absurd (omega arith); written = λ _. p }

-- claims that extend, one after another
pub extends_none : (old : List Claim) (P : List Claim → Type 0) → P [] → Extends old old P
extends_none old P p = ([], sym (append-nil old), p)

pub extends_twice : (old mid new a b : List Claim) → mid ≡ old ++ a → new ≡ mid ++ b → new ≡ old ++ (a ++ b)
extends_twice old mid new a b e f = f ∙ (ap (λ x. x ++ b) e ∙ append_assoc old a b)

-- cut back to what stood before, the list is as it was
pub cut_back : (old new more : List Claim) → new ≡ old ++ more → take (length old) new ≡ old
cut_back old new more e = ap (take (length old)) e ∙ take-append_seam old more

module _ (vertices : List Vertex) (ok : Claim → Type 0) where
  -- a held vertex
  pub offers_held : (scope : Scope) (kind count : ℕ) (hold : Bool) (needs : List Need) (v most found : ℕ) →
      hold ≡ true → (found ≡ 0 → ⊥) → 1 ≤ most → IsIn vertices scope v → HasKind vertices kind v →
      ok (claim_on hold v) → IsGreatest (SomeFits vertices ok (Beneath v) needs) 1 found →
      Offers (CanServe vertices ok scope (Vert kind count hold needs) v)
      (LowestPiece vertices ok (Vert kind count hold needs) v) most 1 (Hold v ∷ [])
  offers_held scope kind count true needs v most found h some le within is may g =
      let one : found ≡ 1 = (let few : found ≤ 1 = g.within in omega arith) in
      offers_some _ _ most 1 (Hold v ∷ []) (omega arith)
      (subst (IsGreatest (CanServe vertices ok scope (Vert kind count true needs) v) most) one
      (vertex_open vertices ok scope kind count true needs v most found le within is may g))
      (writes_hold vertices ok kind count needs v)
  offers_held scope kind count false needs v most found h some le within is may g = absurd (cc)

  -- a shared vertex
  pub offers_shared : (scope : Scope) (kind count : ℕ) (hold : Bool) (needs : List Need) (v most : ℕ)
      (claims : List Claim) → hold ≡ false → 1 ≤ most → IsIn vertices scope v → HasKind vertices kind v →
      ok (claim_on hold v) → FollowsPass vertices ok v (Lowest vertices ok 1 (Beneath v) needs) claims →
      Offers (CanServe vertices ok scope (Vert kind count hold needs) v)
      (LowestPiece vertices ok (Vert kind count hold needs) v) most 1 claims
  offers_shared scope kind count true needs v most claims h le within is may low = absurd (cc)
  offers_shared scope kind count false needs v most claims h le within is may low =
      let fit : SomeFits vertices ok (Beneath v) needs 1 =
      (low.0, lowest_list_fits vertices ok 1 (Beneath v) needs low.0 low.2) in
      offers_some _ _ most 1 claims (omega arith)
      (vertex_open vertices ok scope kind count false needs v most 1 le within is may
      (record { within = omega arith; can_be = λ _. fit; full = λ lt f. absurd (omega arith) }))
      (subst (LowestPiece vertices ok (Vert kind count false needs) v 1) (sym low.1)
      (writes_pass vertices ok kind count needs v low.0 low.2))

  -- a shared vertex below which nothing fits
  pub offers_unfit : (scope : Scope) (kind count : ℕ) (hold : Bool) (needs : List Need) (v most : ℕ)
      (claims : List Claim) → claims ≡ [] → 1 ≤ most → IsIn vertices scope v → HasKind vertices kind v →
      ok (claim_on hold v) → (SomeFits vertices ok (Beneath v) needs 1 → ⊥) →
      Offers (CanServe vertices ok scope (Vert kind count hold needs) v)
      (LowestPiece vertices ok (Vert kind count hold needs) v) most 0 claims
  offers_unfit scope kind count hold needs v most claims none le within is may never =
      subst (Offers (CanServe vertices ok scope (Vert kind count hold needs) v)
      (LowestPiece vertices ok (Vert kind count hold needs) v) most 0) (sym none)
      (offers_none _ _ most 0 refl (vertex_open vertices ok scope kind count hold needs v most 0 le within is may
      (greatest_none (SomeFits vertices ok (Beneath v) needs) 1 never)))

  -- copies below a node
  pub offers_copies : (scope : Scope) (count : ℕ) (needs : List Need) (v most q : ℕ) (claims : List Claim) →
      (q ≡ 0 → ⊥) → IsGreatest (CanServe vertices ok scope (Spread count needs) v) most q →
      FollowsPass vertices ok v (Lowest vertices ok q (Beneath v) needs) claims →
      Offers (CanServe vertices ok scope (Spread count needs) v) (LowestPiece vertices ok (Spread count needs) v) most
      q claims
  offers_copies scope count needs v most q claims some g low =
      offers_some _ _ most q claims (omega arith) g
      (subst (LowestPiece vertices ok (Spread count needs) v q) (sym low.1)
      (writes_copies vertices ok count needs v q low.0 low.2))

  -- where some copies can be, the node may be passed
  pub copies_pass : (scope : Scope) (count : ℕ) (needs : List Need) (v most q : ℕ) → (q ≡ 0 → ⊥) →
      IsGreatest (CanServe vertices ok scope (Spread count needs) v) most q → ok (Pass v)
  copies_pass scope count needs v most q some g =
      (copies_serve vertices ok scope count needs v q (g.can_be (omega arith))).0

  -- so many copies as can be always fit
  pub copies_fit : (scope : Scope) (count : ℕ) (needs : List Need) (v most q : ℕ) → (q ≡ 0 → ⊥) →
      IsGreatest (CanServe vertices ok scope (Spread count needs) v) most q →
      (SomeFits vertices ok (Beneath v) needs q → ⊥) → ⊥
  copies_fit scope count needs v most q some g never =
      never (copies_serve vertices ok scope count needs v q (g.can_be (omega arith))).1
