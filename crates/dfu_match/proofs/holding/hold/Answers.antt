use Rattle.std.proofs.Common.{◌∷◌, [], sym, ◌∙◌, true≢false}
use Rattle.flux_defs.specs.declared.claims.Claim.{Claim}
use Rattle.flux_defs.specs.declared.claims.Claim.TheVariants.{Hold}
use Rattle.dfu_match.specs.Searches.{open_to}
use Rattle.dfu_match.proofs.WriteLaws.{extends_none}
use Rattle.dfu_match.proofs.HoldingLaws.{held_none, held_one}
use Rattle.dfu_match.proofs.holding.hold.Goals as goal

pub returns-then-not-admits-clause-offers : goal.returns-then-not-admits-clause-offers
returns-then-not-admits-clause-offers g c =
    extends_none c.args.out.now.items _ (λ present stands need scope most held is within some.
    let vs = c.args.s.now.graph.now.resources.vertices in
    let ok : Claim → Type 0 = open_to vs present c.args.s.now.barred.now c.args.s.now.window in
    held_none vs ok scope need c.args.vertex most held
    (λ may. true≢false (sym ((c.admits.ensures.answer present stands).1 may) ∙ c.if-not-admits.true)))

pub returns-clause-offers : goal.returns-clause-offers
returns-clause-offers g c = (
  Hold c.args.vertex ∷ [],
  c.in_ok-push.ensures.ok,
  λ present stands need scope most held is within some.
      let vs = c.args.s.now.graph.now.resources.vertices in
      let ok : Claim → Type 0 = open_to vs present c.args.s.now.barred.now c.args.s.now.window in
      held_one vs ok scope need c.args.vertex most held is within some
      ((c.admits.ensures.answer present stands).0 c.if-not-admits.false),
)
