use Rattle.std.proofs.Common.{◌≡◌, ℕ, ◌<◌, ◌≤◌, Some}
use Rattle.std.specs.Prelude.{slice_get}
use Rattle.flux_defs.specs.declared.claims.Claim.{Claim}
use Rattle.vertex_accounts.specs.Books.{HoldsNoWider}
use Rattle.vertex_accounts.proofs.books.Accounts.widest_with.Given as goal

-- the claims so far hold none that is wider
abbrev pub invariant-loop-at : goal.invariant-loop-at
invariant-loop-at g l = record {
  more : l.self.widest ≤ l.widest;
  free : (k : ℕ) → k < l.at → (c : Claim) → slice_get l.claims k ≡ Some c →
      HoldsNoWider l.graph.resources.vertices l.widest c;
}
