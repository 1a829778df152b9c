use Rattle.json_written.proofs.WriterLaws.{wrote, and_then}
use Rattle.resource_set_r.proofs.writing.put_scheduling.Goals as goal

pub returns : goal.returns
returns c =
    and_then (wrote c.in_ok-key.ensures)
    (and_then (wrote c.in_ok-begin_object.ensures) (and_then (wrote c.in_ok-key-2.ensures) (and_then
    (wrote c.in_ok-begin_array.ensures) (and_then c.in_ok-put_claims.ensures (wrote c.in_ok-end_object.ensures)))))
