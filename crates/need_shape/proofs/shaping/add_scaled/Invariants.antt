use Rattle.std.proofs.Common.{◌≡◌, ◌++◌}
use Rattle.flux_defs.specs.Needs.{scaled}
use Rattle.need_shape.specs.Faults.{is_past}
use Rattle.need_shape.proofs.shaping.add_scaled.Given as goal

abbrev pub invariant-loop-need : goal.invariant-loop-need
invariant-loop-need l = record {
  so_far : l.out.items ++ scaled l.count l.need-iterator.rest.items
      ≡ l.fn.out.items ++ scaled l.fn.count l.fn.needs.items;
  past : is_past l.count l.need-iterator.rest.items ≡ is_past l.fn.count l.fn.needs.items;
}
