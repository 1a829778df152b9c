use Rattle.std.proofs.Common.{◌≡◌, List, [], ◌∷◌, ◌++◌, Option, None, OnOk, IfErr, refl, sym, ◌∙◌, ap, subst}
use Rattle.flux_defs.specs.declared.requests.Need.{Need}
use Rattle.flux_defs.specs.Graph.{is_pool_kind}
use Rattle.text_table.specs.Tables.{index_of}
use Rattle.need_shape.specs.declared.raw.RawNeed.{out-RawNeed}
use Rattle.need_shape.specs.declared.raw.ShapeFault.{ShapeFault}
use Rattle.need_shape.specs.Requests.{is_slot}
use Rattle.need_shape.specs.Types.{types_at}
use Rattle.need_shape.specs.Shapes.{in_type, needs_in, slot_needs_in}
use Rattle.need_shape.specs.Faults.{IsFirstFault, fault_of, list_fault}
use Rattle.need_shape.proofs.Rows.{needs_of_slot, needs_of_type, fault_of_slot, fault_of_type}
use Rattle.need_shape.proofs.ShapeLaws.{pool_told, vert_fault, vert_need}
use Rattle.need_shape.proofs.shaping.+shaping.Goals as goal

pub add_member-returns-then-is_slot-clause-ok : goal.add_member-returns-then-is_slot-clause-ok
add_member-returns-then-is_slot-clause-ok t c =
    let types = types_at c.args.graph.now c.args.table.now in
    let slot = ap is_slot (sym c.bytes.ensures) ∙ (sym c.is_slot.ensures ∙ c.if-is_slot.true) in
    subst (λ (ns : List Need). OnOk c.add_slot.result ((c.add_slot.new.out.items ≡ c.args.out.now.items ++ ns)
    × (fault_of types c.args.within c.args.raw.now ≡ None)))
    (sym (needs_of_slot types c.args.within c.args.raw.now slot))
    (subst (λ (f : Option ShapeFault).
    OnOk c.add_slot.result ((c.add_slot.new.out.items ≡ c.args.out.now.items ++ slot_needs_in types c.args.within
    (out-RawNeed c.args.raw.now).count (out-RawNeed c.args.raw.now).with) × (f ≡ None)))
    (sym (fault_of_slot types c.args.within c.args.raw.now slot)) c.add_slot.ensures.ok)

pub add_member-returns-then-is_slot-clause-told : goal.add_member-returns-then-is_slot-clause-told
add_member-returns-then-is_slot-clause-told t c =
    let types = types_at c.args.graph.now c.args.table.now in
    let slot = ap is_slot (sym c.bytes.ensures) ∙ (sym c.is_slot.ensures ∙ c.if-is_slot.true) in
    subst (λ (f : Option ShapeFault). IfErr c.add_slot.result (IsFirstFault f))
    (sym (fault_of_slot types c.args.within c.args.raw.now slot)) c.add_slot.ensures.told

pub shape_type-returns-then-is_pool-clause-told : goal.shape_type-returns-then-is_pool-clause-told
shape_type-returns-then-is_pool-clause-told t c =
    let types = types_at c.args.graph.now c.args.table.now in
    let pool = ap (λ k. is_pool_kind types.vertices (index_of types.names k)) (sym c.bytes.ensures) ∙ (ap
    (is_pool_kind types.vertices) (sym c.number_of-kind.ensures) ∙ (sym c.is_pool.ensures ∙ c.if-is_pool.true)) in
    pool_told types c.args.within c.args.raw.now c.shape_pool.result pool c.shape_pool.ensures.told

pub add_member-returns-in_ok-push-in-Ok-clause-ok : goal.add_member-returns-in_ok-push-in-Ok-clause-ok
add_member-returns-in_ok-push-in-Ok-clause-ok t c =
    let types = types_at c.args.graph.now c.args.table.now in
    let slot = ap is_slot (sym c.bytes.ensures) ∙ (sym c.is_slot.ensures ∙ c.if-is_slot.false) in (
      c.in_ok-push-in-Ok.ensures.ok ∙ ap (λ ns. c.args.out.now.items ++ ns)
          (ap (λ n. n ∷ []) c.in-Ok.ensures.need ∙ sym (needs_of_type types c.args.within c.args.raw.now slot)),
      fault_of_type types c.args.within c.args.raw.now slot ∙ c.in-Ok.ensures.fine refl,
    )

pub add_member-returns-in-Err-clause-told : goal.add_member-returns-in-Err-clause-told
add_member-returns-in-Err-clause-told t c =
    let types = types_at c.args.graph.now c.args.table.now in
    let slot = ap is_slot (sym c.bytes.ensures) ∙ (sym c.is_slot.ensures ∙ c.if-is_slot.false) in
    subst (λ (o : Option ShapeFault). IsFirstFault o c.in-Err.fault)
    (sym (fault_of_type types c.args.within c.args.raw.now slot)) c.in-Err.ensures.told

pub shape_type-returns-in-Ok-clause-need : goal.shape_type-returns-in-Ok-clause-need
shape_type-returns-in-Ok-clause-need t c =
    let types = types_at c.args.graph.now c.args.table.now in
    let pool = ap (λ k. is_pool_kind types.vertices (index_of types.names k)) (sym c.bytes.ensures) ∙ (ap
    (is_pool_kind types.vertices) (sym c.number_of-kind.ensures) ∙ (sym c.is_pool.ensures ∙ c.if-is_pool.false)) in
    let inside = c.in_type-inside.ensures ∙ ap (in_type types c.args.within) c.bytes-2.ensures in
    vert_need types c.args.within c.args.raw.now c.number_of-kind.result c.unwrap_or.result c.in-Ok.needs pool
    (c.number_of-kind.ensures ∙ ap (index_of types.names) c.bytes.ensures) c.unwrap_or.ensures
    (c.in-Ok.ensures.needs ∙ ap (λ w. needs_in types w (out-RawNeed c.args.raw.now).with) inside)

pub shape_type-returns-in-Ok-clause-fine : goal.shape_type-returns-in-Ok-clause-fine
shape_type-returns-in-Ok-clause-fine t c = λ _.
    let types = types_at c.args.graph.now c.args.table.now in
    let pool = ap (λ k. is_pool_kind types.vertices (index_of types.names k)) (sym c.bytes.ensures) ∙ (ap
    (is_pool_kind types.vertices) (sym c.number_of-kind.ensures) ∙ (sym c.is_pool.ensures ∙ c.if-is_pool.false)) in
    let inside = c.in_type-inside.ensures ∙ ap (in_type types c.args.within) c.bytes-2.ensures in
    sym (vert_fault types c.args.within c.args.raw.now pool)
    ∙ (ap (λ w. list_fault types w (out-RawNeed c.args.raw.now).with) (sym inside) ∙ c.in-Ok.ensures.fine refl)

pub shape_type-returns-in-Err-clause-told : goal.shape_type-returns-in-Err-clause-told
shape_type-returns-in-Err-clause-told t c =
    let types = types_at c.args.graph.now c.args.table.now in
    let pool = ap (λ k. is_pool_kind types.vertices (index_of types.names k)) (sym c.bytes.ensures) ∙ (ap
    (is_pool_kind types.vertices) (sym c.number_of-kind.ensures) ∙ (sym c.is_pool.ensures ∙ c.if-is_pool.false)) in
    let inside = c.in_type-inside.ensures ∙ ap (in_type types c.args.within) c.bytes-2.ensures in
    subst (λ (o : Option ShapeFault). IsFirstFault o c.in-Err.fault)
    (ap (λ w. list_fault types w (out-RawNeed c.args.raw.now).with) inside
    ∙ vert_fault types c.args.within c.args.raw.now pool) c.in-Err.ensures.told
