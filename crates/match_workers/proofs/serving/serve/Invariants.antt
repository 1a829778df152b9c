use Rattle.match_workers.proofs.Gaining.{Sofar}
use Rattle.match_workers.proofs.serving.serve.Given as goal

abbrev pub invariant-loop-at : goal.invariant-loop-at
invariant-loop-at g l =
    Sofar g.D.Desk.takes g.D.Desk.seen g.D.Desk.mine g.D.Desk.share l.desk l.initial.session l.session l.at
