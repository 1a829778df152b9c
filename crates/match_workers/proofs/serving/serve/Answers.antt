use Rattle.std.proofs.Common.{rules, refl}
use Rattle.match_workers.proofs.Gaining.{placed_one, stopped_at}
use Rattle.match_workers.proofs.serving.serve.Goals as goal

pub returns-in-Err : goal.returns-in-Err
returns-in-Err g c =
    stopped_at g.D.Desk.takes g.D.Desk.seen g.D.Desk.mine g.D.Desk.share _ _ _ _ c.loop-at.invariant
    c.take_line-line.result _ c.take_line-line.ensures.line (search rules) c.in-Err.ensures.seat c.in-Err.ensures.share
    c.in-Err.ensures.later c.in-Err.ensures.err.1 refl refl refl

pub loop-at-preserved : goal.loop-at-preserved
loop-at-preserved g c =
    placed_one g.D.Desk.takes g.D.Desk.seen g.D.Desk.mine g.D.Desk.share _ _ _ _ c.loop-at.invariant
    c.take_line-line.result c.in-Ok.field-0 _ c.take_line-line.ensures.line c.take_line-line.ensures.left
    c.in-Ok.ensures.seat c.in-Ok.ensures.share c.in-Ok.ensures.later c.in-Ok.ensures.placed c.in-Ok.ensures.mine
    refl refl refl
