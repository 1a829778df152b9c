use Rattle.std.proofs.Common.{◌≡◌, ℕ, ◌<◌, ◌≤◌, Some}
use Rattle.std.specs.Prelude.{slice_get}
use Rattle.flux_defs.specs.declared.claims.Claim.{Claim}
use Rattle.vertex_accounts.specs.Books.{CountsNoNarrower}
use Rattle.vertex_accounts.proofs.books.Accounts.narrowest_with.Given as goal

-- the claims so far count at none that is narrower
abbrev pub invariant-loop-at : goal.invariant-loop-at
invariant-loop-at g l = record {
  fewer : l.narrowest ≤ l.self.narrowest;
  free : (k : ℕ) → k < l.at → (c : Claim) → slice_get l.claims k ≡ Some c →
      CountsNoNarrower l.graph.resources.vertices l.narrowest c;
}
