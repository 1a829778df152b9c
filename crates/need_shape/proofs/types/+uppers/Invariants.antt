use Rattle.std.proofs.Common.{◌≡◌, drop}
use Rattle.std.specs.List.{list_any}
use Rattle.need_shape.specs.Requests.{types_in}
use Rattle.need_shape.specs.Types.{types_at, is_upper}
use Rattle.need_shape.proofs.types.+uppers.Given as goal

abbrev pub invariant-names_upper-loop-raw : goal.invariant-names_upper-loop-raw
invariant-names_upper-loop-raw l =
    list_any (is_upper (types_at l.graph l.table)) (types_in (drop l.raw-index l.raw-items))
    ≡ list_any (is_upper (types_at l.fn.graph l.fn.table)) (types_in l.fn.request)
