use Rattle.std.proofs.Common.{◌≡◌, ◌++◌, drop}
use Rattle.need_shape.specs.Types.{types_at}
use Rattle.need_shape.specs.Shapes.{needs_in}
use Rattle.need_shape.specs.Faults.{members_fault_in}
use Rattle.need_shape.proofs.shaping.+shaping.Given as goal

abbrev pub invariant-add_members-loop-raw : goal.invariant-add_members-loop-raw
invariant-add_members-loop-raw l = record {
  so_far : l.out.items ++ needs_in (types_at l.graph l.table) l.within (drop l.raw-index l.raw-items)
      ≡ l.fn.out.items ++ needs_in (types_at l.graph l.table) l.within l.fn.request;
  fault : members_fault_in (types_at l.graph l.table) l.within (drop l.raw-index l.raw-items)
      ≡ members_fault_in (types_at l.graph l.table) l.within l.fn.request;
}
