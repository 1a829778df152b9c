use Rattle.std.proofs.Common.{◌≡◌, ◌↔◌, Bool, true, false, IsTrue, subst, sym, nat_le}
use Rattle.std.proofs.lemmas.Bool.{leb-true, le-leb}
use Rattle.flux_defs.specs.declared.claims.Claim.{Claim}
use Rattle.flux_defs.specs.declared.claims.Window.{Window}
use Rattle.flux_defs.specs.Closed.{Scene, no_bars}
use Rattle.flux_defs.specs.Available.{IsAvailable}
use Rattle.match_laws.proofs.ViewLaws.{available_take, available_pass, admits_none, hold_open}
use Rattle.candidate_check.proofs.checks.is_available.Goals as goal

-- what is so of a claim is so of an equal one
of_equal : (scene : Scene) (w : Window) (b : Bool) (claim same : Claim) → claim ≡ same →
    (IsTrue b ↔ IsAvailable scene w same) → (IsTrue b ↔ IsAvailable scene w claim)
of_equal scene w b claim same e h = subst (λ (c : Claim). IsTrue b ↔ IsAvailable scene w c) (sym e) h

pub returns-in-Take-clause-answer : goal.returns-in-Take-clause-answer
returns-in-Take-clause-answer g c = λ present stands.
    let scene = no_bars (g.F.FreeView.graph c.args.view.now) present in
    let take = c.in-Take in
    let told = available_take scene c.args.window take.vertex take.quantity c.free_over.result
    (c.free_over.ensures.answer present stands) in
    of_equal scene c.args.window (nat_le take.quantity c.free_over.result) c.args.claim _ take.is (
      λ t. told.0 (leb-true take.quantity c.free_over.result t),
      λ a. le-leb take.quantity c.free_over.result (told.1 a),
    )

pub returns-in-Pass-clause-answer : goal.returns-in-Pass-clause-answer
returns-in-Pass-clause-answer g c = λ present stands.
    let scene = no_bars (g.F.FreeView.graph c.args.view.now) present in
    let closed = c.closed_over-in-Pass in
    of_equal scene c.args.window _ c.args.claim _ c.in-Pass.is
    (available_pass scene c.args.window c.in-Pass.vertex closed.result (closed.ensures.answer present stands))

pub returns-then-closed_over-clause-answer : goal.returns-then-closed_over-clause-answer
returns-then-closed_over-clause-answer g c = λ present stands.
    let scene = no_bars (g.F.FreeView.graph c.args.view.now) present in
    of_equal scene c.args.window false c.args.claim _ c.in-Hold.is
    (admits_none scene c.args.window c.in-Hold.vertex true c.closed_over.result c.if-closed_over.true
    (c.closed_over.ensures.answer present stands))

pub returns-else-closed_over-clause-answer : goal.returns-else-closed_over-clause-answer
returns-else-closed_over-clause-answer g c = λ present stands.
    let scene = no_bars (g.F.FreeView.graph c.args.view.now) present in
    of_equal scene c.args.window _ c.args.claim _ c.in-Hold.is
    (hold_open scene c.args.window c.in-Hold.vertex c.closed_over.result c.touched_over.result c.if-closed_over.false
    (c.closed_over.ensures.answer present stands) (c.touched_over.ensures.answer present stands))
