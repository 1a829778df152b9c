use Rattle.std.proofs.Common.{◌+◌, ◌*◌, length, sym}
use Rattle.list_laws.proofs.Lists.{set_back}
use Rattle.dfu_match.specs.Tables.{needs_all}
use Rattle.dfu_match.specs.Pairs.{asked_totals}
use Rattle.dfu_match.proofs.AskSteps.{asked_still}
use Rattle.dfu_match.proofs.RowLaws.{knows_put, none_row}
use Rattle.dfu_match.proofs.asking.renew.Goals as goal

pub returns-then-low-vertex-clause-work : goal.returns-then-low-vertex-clause-work
returns-then-low-vertex-clause-work g c = λ present stands place at clear within.
    c.ask_row.ensures.work present stands place at clear

pub returns-then-vertex-dead-clause-known : goal.returns-then-vertex-dead-clause-known
returns-then-vertex-dead-clause-known g c =
    let s = c.args.s.now in
    let vs = s.graph.now.resources.vertices in
    let dead = c.args.dead.now in
    knows_put vs (g.F.FreeView.stands_for s.view.now) s.barred.now s.needs.now s.window c.args.own _ c.args.known.now
    c.put.new.self c.args.need.now c.requires.of_own c.put.ensures.own c.put.ensures.put
    (none_row vs (g.F.FreeView.stands_for s.view.now) s.barred.now s.window c.args.need.now c.args.vertex dead.moment
    dead.top dead.past c.requires.of_need c.if-dead-vertex.true c.if-vertex-dead.true c.requires.dead)
    c.requires.known

pub returns-then-vertex-dead-clause-work : goal.returns-then-vertex-dead-clause-work
returns-then-vertex-dead-clause-work g c = λ present stands place at clear within.
    let s = c.args.s.now in
    asked_still s.graph.now.resources.vertices present s.window
    (asked_totals s.wanted.now (g.F.FreeView.keeps s.view.now)) (needs_all s.needs.now) c.args.need.now place
    ((length (needs_all s.needs.now) + 2) * g.F.FreeView.cost s.view.now) c.args.steps.now c.args.low clear within

pub returns-else-dead-vertex-clause-work : goal.returns-else-dead-vertex-clause-work
returns-else-dead-vertex-clause-work g c = λ present stands place at clear within.
    let s = c.args.s.now in
    asked_still s.graph.now.resources.vertices present s.window
    (asked_totals s.wanted.now (g.F.FreeView.keeps s.view.now)) (needs_all s.needs.now) c.args.need.now place
    ((length (needs_all s.needs.now) + 2) * g.F.FreeView.cost s.view.now) c.args.steps.now c.args.low clear within

-- what stands there is put back
pub returns-else-dead-vertex-clause-place : goal.returns-else-dead-vertex-clause-place
returns-else-dead-vertex-clause-place g c = λ row there.
    sym (set_back c.args.known.now.rows.items c.args.at row there)
