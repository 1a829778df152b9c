use Rattle.prune_laws.proofs.Demanded.{piece_total}
use Rattle.prune_laws.proofs.demands_are_free.Goals as goal

pub returns : goal.returns
returns c = λ g names valid present barred w scope need fine v q some can kind m lo hi.
    piece_total g names valid present barred w kind m lo hi scope need fine v q can.0 some can.1
