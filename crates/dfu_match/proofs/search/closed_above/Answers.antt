use Rattle.std.proofs.Common.{◌↔◌, ℕ, Option, false, refl, sym, ◌∙◌, subst, IsTrue, true≢false}
use Rattle.std.specs.Option.{IsSomeAnd}
use Rattle.flux_defs.specs.Closed.{IsClosedIn}
use Rattle.graph_laws.proofs.Preorder.{parents_first}
use Rattle.dfu_match.specs.Searches.{meets, IsOpenScope}
use Rattle.dfu_match.proofs.HoldLaws.{above_inside}
use Rattle.dfu_match.proofs.search.closed_above.Goals as goal

pub closed-requires : goal.closed-requires
closed-requires g c =
    let graph = c.args.s.now.graph.now.resources in
    above_inside graph.vertices (parents_first graph c.is_valid.ensures.valid.preorder) c.args.vertex c.in-Some.upper
    (sym c.above.ensures ∙ c.in-Some.is)

pub returns-then-is_one-clause-answer : goal.returns-then-is_one-clause-answer
returns-then-is_one-clause-answer g c = λ present stands.
    let s = c.args.s.now in
    let scene = meets s.graph.now.resources.vertices present s.barred.now in
    let open' = subst (λ o. IsOpenScope s.graph.now.resources.vertices (g.F.FreeView.stands_for s.view.now)
    s.barred.now s.window o) (c.if-is_one.ensures refl) c.requires.open in
    subst (λ (o : Option ℕ). IsTrue false ↔ IsSomeAnd o (IsClosedIn scene s.window))
    (sym c.in-Some.is ∙ c.above.ensures) (λ t. absurd (true≢false (sym t)), λ h. absurd (open' present stands h))

pub returns-else-is_one-clause-answer : goal.returns-else-is_one-clause-answer
returns-else-is_one-clause-answer g c = λ present stands.
    let s = c.args.s.now in
    subst (λ (o : Option ℕ). IsTrue c.closed.result
    ↔ IsSomeAnd o (IsClosedIn (meets s.graph.now.resources.vertices present s.barred.now) s.window))
    (sym c.in-Some.is ∙ c.above.ensures) (c.closed.ensures.answer present stands)
