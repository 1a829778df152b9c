-- Scaling a list of needs by k is what the multiplier k of a fit means.
use Rattle.std.proofs.Common.{◌≡◌, ℕ, ◌+◌, ◌*◌, List, [], ◌∷◌, ◌++◌, refl, ap, arith}
use mathlib.Core.Path.{transport, transport⁻¹}
use Rattle.flux_defs.specs.declared.vertices.Vertex.{Vertex}
use Rattle.flux_defs.specs.declared.claims.Claim.{Claim}
use Rattle.flux_defs.specs.declared.requests.Need.{Need, Vert', Pool, Spread'}
use Rattle.flux_defs.specs.declared.requests.Need.TheBlock.{hidden-the_row-Need-0}
use Rattle.flux_defs.specs.Graph.{Scope}
use Rattle.flux_defs.specs.Needs.{amount_of, scaled_need, scaled}
use Rattle.flux_defs.specs.Fits.{Group, Piece, Fits}
use Rattle.flux_laws.proofs.FitLaws.{TakesLess, row_less}
use Rattle.flux_laws.proofs.Rows.{fits_list}

module _ (vertices : List Vertex) (ok : Claim → Type 0) where
  one_time : (n : ℕ) → n ≡ 1 * n
  one_time n = omega arith

  group_scaled : (k : ℕ) (scope : Scope) (need : Need) (group : List Claim) →
      Group (k * amount_of need) (Piece vertices ok scope need) group ≡ Group (1 * amount_of (scaled_need k need))
      (Piece vertices ok scope (scaled_need k need)) group
  group_scaled k scope (Vert' kind count hold m needs) group = ap
      (λ n. Group n (Piece vertices ok scope (Vert' kind count hold m needs)) group) (one_time (k * count))
  group_scaled k scope (Pool kind quantity) group = ap
      (λ n. Group n (Piece vertices ok scope (Pool kind quantity)) group) (one_time (k * quantity))
  group_scaled k scope (Spread' count m needs) group = ap
      (λ n. Group n (Piece vertices ok scope (Spread' count m needs)) group) (one_time (k * count))

  pub fits_scaled : (k : ℕ) (scope : Scope) (needs : List Need) (claims : List Claim) →
      Fits vertices ok k scope needs claims ≡ Fits vertices ok 1 scope (scaled k needs) claims
  fits_scaled k scope [] claims = refl
  fits_scaled k scope (need ∷ rest) claims = λ i.
      (group : List Claim) × (others : List Claim) × (claims ≡ group ++ others)
      × group_scaled k scope need group i × fits_scaled k scope rest others i

  -- where claims fit k + 1 copies, some claims fit k
  pub fits_less : TakesLess ok → (k : ℕ) (scope : Scope) (needs : List Need) (claims : List Claim) →
      Fits vertices ok (k + 1) scope needs claims →
      (fewer : List Claim) × Fits vertices ok k scope needs fewer
  fits_less less k scope needs claims fit =
      let row = transport⁻¹ (ap (λ (h : List Claim → Type 0). h claims)
      (fits_list vertices ok needs (k + 1) scope)) fit in
      let r = row_less vertices ok less k scope (hidden-the_row-Need-0 needs) claims row in
      (r.0, transport (ap (λ (h : List Claim → Type 0). h r.0) (fits_list vertices ok needs k scope)) r.1)

  pub scaled_less : TakesLess ok → (k : ℕ) (scope : Scope) (needs : List Need) (claims : List Claim) →
      Fits vertices ok 1 scope (scaled (k + 1) needs) claims →
      (fewer : List Claim) × Fits vertices ok 1 scope (scaled k needs) fewer
  scaled_less less k scope needs claims fit =
      let r = fits_less less k scope needs claims (transport⁻¹ (fits_scaled (k + 1) scope needs claims) fit) in
      (r.0, transport (fits_scaled k scope needs r.0) r.1)
