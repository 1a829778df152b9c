use Rattle.std.proofs.Common.{subst, ℕ, List}
use Rattle.json_written.specs.Tokens.{Adds, rest_tokens}
use Rattle.json_written.proofs.WriterLaws.{wrote, and_then}
use Rattle.resource_set_r.specs.declared.rows.Element.{Element}
use Rattle.resource_set_r.specs.WrittenR.{elements_data, texts_data}
use Rattle.resource_set_r.proofs.writing.put_execution.Goals as goal

pub returns : goal.returns
returns c =
    let elements = subst (λ (es : List Element). Adds c.begin_array.new.self c.put_elements.new.writer
    (rest_tokens (elements_data es))) c.as_slice.ensures.value c.in_ok-put_elements.ensures in
    let texts = subst (λ (ts : List (List ℕ)). Adds c.begin_array-2.new.self c.put_texts.new.writer
    (rest_tokens (texts_data ts))) c.items.ensures c.in_ok-put_texts.ensures in
    and_then (wrote c.in_ok-begin_object.ensures)
    (and_then (wrote c.in_ok-key.ensures) (and_then (wrote c.in_ok-begin_array.ensures) (and_then elements
    (and_then c.in_ok-put_number.ensures.ok
    (and_then (wrote c.in_ok-key-2.ensures) (and_then (wrote c.in_ok-begin_array-2.ensures) (and_then texts
    (and_then c.in_ok-put_number-2.ensures.ok (wrote c.in_ok-end_object.ensures)))))))))
