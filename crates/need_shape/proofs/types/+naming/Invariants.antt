use Rattle.std.proofs.Common.{◌≡◌, drop}
use Rattle.text_table.specs.Tables.{with_texts}
use Rattle.need_shape.specs.Requests.{types_in}
use Rattle.need_shape.proofs.types.+naming.Given as goal

abbrev pub invariant-add_types-loop-raw : goal.invariant-add_types-loop-raw
invariant-add_types-loop-raw l =
    with_texts l.table (types_in (drop l.raw-index l.raw-items)) ≡ with_texts l.fn.table (types_in l.fn.request)
