-- The laws of fits and lowest-first claims, of lists of needs.
use Rattle.std.proofs.Common.{◌≡◌, ℕ, List, ap}
use mathlib.Core.Path.{transport, transport⁻¹}
use Rattle.flux_defs.specs.declared.vertices.Vertex.{Vertex}
use Rattle.flux_defs.specs.declared.claims.Claim.{Claim}
use Rattle.flux_defs.specs.declared.requests.Need.{Need}
use Rattle.flux_defs.specs.declared.requests.Need.TheBlock.{hidden-the_row-Need-0}
use Rattle.flux_defs.specs.Graph.{Scope}
use Rattle.flux_defs.specs.Fits.{Fits}
use Rattle.flux_defs.specs.Lowest.{Lowest}
use Rattle.flux_laws.proofs.FitLaws.{TakesLess, lowest_row_once, lowest_row_fits}
use Rattle.flux_laws.proofs.Rows.{lowest_list, fits_list}

module _ (vertices : List Vertex) (ok : Claim → Type 0) where
  pub lowest_list_fits : (k : ℕ) (scope : Scope) (needs : List Need) (claims : List Claim) →
      Lowest vertices ok k scope needs claims → Fits vertices ok k scope needs claims
  lowest_list_fits k scope needs claims low =
      let row = transport⁻¹ (ap (λ (h : List Claim → Type 0). h claims) (lowest_list vertices ok needs k scope)) low in
      transport (ap (λ (h : List Claim → Type 0). h claims) (fits_list vertices ok needs k scope))
      (lowest_row_fits vertices ok k scope (hidden-the_row-Need-0 needs) claims row)

  pub lowest_list_once : TakesLess ok → (k : ℕ) (scope : Scope) (needs : List Need) (a b : List Claim) →
      Lowest vertices ok k scope needs a → Lowest vertices ok k scope needs b → a ≡ b
  lowest_list_once less k scope needs a b x y =
      let row = λ (cs : List Claim) (l : Lowest vertices ok k scope needs cs). transport⁻¹
      (ap (λ (h : List Claim → Type 0). h cs) (lowest_list vertices ok needs k scope)) l in
      lowest_row_once vertices ok less k scope (hidden-the_row-Need-0 needs) a b (row a x) (row b y)
