use Rattle.json_written.proofs.WriterLaws.{wrote, and_then}
use Rattle.graph_json.proofs.writing.put_edge.Goals as goal

pub returns : goal.returns
returns c =
    and_then (wrote c.in_ok-begin_object.ensures)
    (and_then (wrote c.in_ok-key.ensures) (and_then (wrote c.in_ok-begin_object-2.ensures)
    (and_then c.in_ok-put_containment.ensures (and_then (wrote c.in_ok-end_object.ensures)
    (and_then c.in_ok-put_digits.ensures
    (and_then c.in_ok-put_digits-2.ensures (wrote c.in_ok-end_object-2.ensures)))))))
