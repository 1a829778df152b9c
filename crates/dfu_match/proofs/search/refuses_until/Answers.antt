use Rattle.std.proofs.Common.{◌≡◌, ℕ, Option, Some, subst, sym}
use Rattle.std.specs.Option.{IsSomeAnd}
use Rattle.flux_defs.specs.Closed.{IsClosedIn}
use Rattle.flux_defs.specs.Graph.{parent_of}
use Rattle.graph_laws.proofs.Preorder.{parents_first}
use Rattle.dfu_match.specs.Searches.{meets}
use Rattle.dfu_match.proofs.HoldLaws.{above_inside, closed_admits_none, closed_down, closed_touches, touched_holds_none}
use Rattle.dfu_match.proofs.search.refuses_until.Goals as goal

pub returns-then-not-hold-clause-refuses : goal.returns-then-not-hold-clause-refuses
returns-then-not-hold-clause-refuses g c = λ is present stands w reach.
    let s = c.args.s.now in
    closed_admits_none (meets s.graph.now.resources.vertices present s.barred.now) w c.args.vertex c.args.hold
    (c.closed_until.ensures.closed is present stands w reach)

pub returns-then-touched_until-clause-refuses : goal.returns-then-touched_until-clause-refuses
returns-then-touched_until-clause-refuses g c = λ is present stands w reach.
    let s = c.args.s.now in
    touched_holds_none (meets s.graph.now.resources.vertices present s.barred.now) w c.args.vertex c.args.hold
    c.if-not-hold.false (c.touched_until.ensures.touched c.if-touched_until.true present stands w reach)

pub closed_until-requires-in-Some : goal.closed_until-requires-in-Some
closed_until-requires-in-Some g c =
    let graph = c.args.s.now.graph.now.resources in
    let up : Some c.in-Some.upper ≡ parent_of graph.vertices c.args.vertex = c.in-Some.ensures in
    above_inside graph.vertices (parents_first graph c.is_valid.ensures.valid.preorder) c.args.vertex c.in-Some.upper
    (sym up)

pub returns-in-Some-clause-refuses : goal.returns-in-Some-clause-refuses
returns-in-Some-clause-refuses g c = λ is present stands w reach.
    let s = c.args.s.now in
    let graph = s.graph.now.resources in
    let up : Some c.in-Some.upper ≡ parent_of graph.vertices c.args.vertex = c.in-Some.ensures in
    closed_admits_none (meets graph.vertices present s.barred.now) w c.args.vertex c.args.hold
    (closed_down graph.vertices (parents_first graph c.is_valid.ensures.valid.preorder) c.args.vertex c.requires present
    s.barred.now c.in-Some.upper (sym up) w (c.closed_until-in-Some.ensures.closed is present stands w reach))

pub returns-in-None-clause-open : goal.returns-in-None-clause-open
returns-in-None-clause-open g c = λ is present stands closed.
    let s = c.args.s.now in
    let graph = s.graph.now.resources in
    c.touched_until.ensures.untouched c.if-touched_until.false present stands
    (closed_touches graph.vertices (parents_first graph c.is_valid.ensures.valid.preorder) c.args.vertex c.requires
    present s.barred.now s.window
    (subst (λ (o : Option ℕ). IsSomeAnd o (IsClosedIn (meets graph.vertices present s.barred.now) s.window) → ⊥)
    c.in-None.ensures (λ none. none)) closed)

pub returns-in-Some-clause-open : goal.returns-in-Some-clause-open
returns-in-Some-clause-open g c = λ is present stands closed.
    let s = c.args.s.now in
    let graph = s.graph.now.resources in
    c.touched_until.ensures.untouched c.if-touched_until.false present stands
    (closed_touches graph.vertices (parents_first graph c.is_valid.ensures.valid.preorder) c.args.vertex c.requires
    present s.barred.now s.window
    (subst (λ (o : Option ℕ). IsSomeAnd o (IsClosedIn (meets graph.vertices present s.barred.now) s.window) → ⊥)
    c.in-Some.ensures (c.closed_until-in-Some.ensures.open is present stands)) closed)
