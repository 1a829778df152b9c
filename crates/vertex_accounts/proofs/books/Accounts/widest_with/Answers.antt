use Rattle.std.proofs.Common.{ℕ, ◌≤◌, subst, sym, arith, below_more}
use Rattle.std.proofs.Math.Nat.{le-max_left, le-max_right}
use Rattle.std.proofs.lemmas.Option.{slice_get_within, get_or_from_slice_get}
use Rattle.list_laws.proofs.Lists.{all_from}
use Rattle.vertex_accounts.specs.Books.{HoldsNoWider}
use Rattle.vertex_accounts.proofs.WidthLaws.{claim_wider}
use Rattle.vertex_accounts.proofs.books.Accounts.widest_with.Goals as goal

pub loop-at-preserved : goal.loop-at-preserved
loop-at-preserved g c =
    let claims = c.args.claims.now in
    let vertices = c.args.graph.now.resources.vertices in
    let was = c.loop-at.widest in
    let own = c.width_held.result in
    let now = c.max-widest.result in
    let more : was ≤ now = subst (λ (n : ℕ). was ≤ n) (sym c.max-widest.ensures) (le-max_left was own) in
    let most : own ≤ now = subst (λ (n : ℕ). own ≤ n) (sym c.max-widest.ensures) (le-max_right was own) in
    let before = c.loop-at.invariant.more in
    record {
      more = omega (arith, more, before);
      free = below_more _ _ (λ k lt x at. claim_wider vertices was now more x (c.loop-at.invariant.free k lt x at))
          (λ x at. claim_wider vertices own now most x
          (subst (HoldsNoWider vertices own) (get_or_from_slice_get claims c.loop-at.at x _ at) c.width_held.ensures));
    }

pub returns : goal.returns
returns g c =
    let claims = c.args.claims.now in
    let vertices = c.args.graph.now.resources.vertices in
    let end = c.loop-at-test.false in (
      c.loop-at.invariant.more,
      all_from (HoldsNoWider vertices c.loop-at.widest) claims (λ k x at.
          let within = slice_get_within claims k x at in
          c.loop-at.invariant.free k (omega (arith, within, end)) x at),
    )
