use Rattle.load_script.proofs.Tallies.{room_here, state_here}
use Rattle.load_script.proofs.counts.reached_by.Goals as goal

pub reached_at-reached-requires-clause-room : goal.reached_at-reached-requires-clause-room
reached_at-reached-requires-clause-room g c =
    let before = c.loop-at.invariant in
    room_here c.args.history.now c.loop-at.at before.0 c.loop-at.reached before.1 before.2 c.requires.few

pub loop-at-preserved : goal.loop-at-preserved
loop-at-preserved g c =
    let before = c.loop-at.invariant in
    let here = c.reached_at-reached.ensures in
    state_here c.args.history.now c.loop-at.at before.0 c.loop-at.reached c.reached_at-reached.result here.0 here.1
    before.1 before.2 here.2
