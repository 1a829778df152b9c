use Rattle.std.proofs.Common.{ℕ, ◌≤◌, subst, sym, arith, below_more}
use Rattle.std.proofs.Math.Nat.{min-le_left, min-le_right}
use Rattle.std.proofs.lemmas.Option.{slice_get_within, get_or_from_slice_get}
use Rattle.list_laws.proofs.Lists.{all_from}
use Rattle.vertex_accounts.specs.Books.{CountsNoNarrower}
use Rattle.vertex_accounts.proofs.WidthLaws.{claim_narrower}
use Rattle.vertex_accounts.proofs.books.Accounts.narrowest_with.Goals as goal

pub loop-at-preserved : goal.loop-at-preserved
loop-at-preserved g c =
    let claims = c.args.claims.now in
    let vertices = c.args.graph.now.resources.vertices in
    let was = c.loop-at.narrowest in
    let own = c.width_counted.result in
    let now = c.min-narrowest.result in
    let fewer : now ≤ was = subst (λ (n : ℕ). n ≤ was) (sym c.min-narrowest.ensures) (min-le_left was own) in
    let least : now ≤ own = subst (λ (n : ℕ). n ≤ own) (sym c.min-narrowest.ensures) (min-le_right was own) in
    let before = c.loop-at.invariant.fewer in
    record {
      fewer = omega (arith, fewer, before);
      free = below_more _ _ (λ k lt x at. claim_narrower vertices now was fewer x (c.loop-at.invariant.free k lt x at))
          (λ x at. claim_narrower vertices now own least x (subst (CountsNoNarrower vertices own)
          (get_or_from_slice_get claims c.loop-at.at x _ at) c.width_counted.ensures));
    }

pub returns : goal.returns
returns g c =
    let claims = c.args.claims.now in
    let vertices = c.args.graph.now.resources.vertices in
    let end = c.loop-at-test.false in (
      c.loop-at.invariant.fewer,
      all_from (CountsNoNarrower vertices c.loop-at.narrowest) claims (λ k x at.
          let within = slice_get_within claims k x at in
          c.loop-at.invariant.free k (omega (arith, within, end)) x at),
    )
