use Rattle.std.proofs.Common.{rules}
use Rattle.one_history.proofs.Sessions.{gathers_one, gathered_seen, gathered_mine}
use Rattle.one_history.proofs.playing.gather.Goals as goal

pub loop-session-preserved : goal.loop-session-preserved
loop-session-preserved c =
    gathers_one _ _ _ _ _ _ _ c.in-Some.session c.loop-session.invariant
    (search rules) c.join.ensures.own c.join.ensures.seen
    c.join.ensures.mine c.join.ensures.share

pub returns-clause-seen : goal.returns-clause-seen
returns-clause-seen c = gathered_seen _ _ _ _ _ c.loop-session.invariant (search rules)

pub returns-clause-mine : goal.returns-clause-mine
returns-clause-mine c = gathered_mine _ _ _ _ _ c.loop-session.invariant (search rules)
