use Rattle.std.proofs.Common.{ℕ, IfSome, IsSome, Some, slice_get, ◌≡◌, subst}
use Rattle.vertex_accounts.specs.declared.counted.Counted.{Counted}
use Rattle.vertex_accounts.proofs.books.Accounts.place_of.Goals as goal

pub returns-clause-place : goal.returns-clause-place
returns-clause-place g c =
    subst (λ (k : Counted). IfSome c.place_of.result (λ place. slice_get k.places c.args.kind ≡ Some (Some place)))
    c.counted.ensures c.place_of.ensures.place

pub returns-clause-kept : goal.returns-clause-kept
returns-clause-kept g c =
    subst (λ (k : Counted). ((place : ℕ) × (slice_get k.places c.args.kind ≡ Some (Some place))) →
    IsSome c.place_of.result) c.counted.ensures (λ (place, is). c.place_of.ensures.kept place is)
