use Rattle.std.proofs.Common.{◌||◌, ap, sym, ◌∙◌}
use Rattle.std.specs.List.{list_any}
use Rattle.need_shape.specs.Requests.{is_slot, types_in}
use Rattle.need_shape.specs.Types.{types_at, is_upper}
use Rattle.need_shape.specs.declared.raw.RawNeed.{out-RawNeed}
use Rattle.need_shape.proofs.Rows.{types_of_slot, types_of_type}
use Rattle.need_shape.proofs.types.+uppers.Goals as goal

pub names_upper_type-returns-then-is_slot : goal.names_upper_type-returns-then-is_slot
names_upper_type-returns-then-is_slot t c =
    c.names_upper.ensures ∙ ap (list_any (is_upper (types_at c.args.graph.now c.args.table.now)))
    (types_of_slot c.args.raw.now (ap is_slot (sym c.bytes.ensures) ∙ sym c.is_slot.ensures ∙ c.if-is_slot.true))

pub names_upper_type-returns-then-is_upper : goal.names_upper_type-returns-then-is_upper
names_upper_type-returns-then-is_upper t c =
    let types = types_at c.args.graph.now c.args.table.now in
    c.if-is_upper.true
    ∙ (ap (λ b. b || list_any (is_upper types) (types_in (out-RawNeed c.args.raw.now).with))
    (sym c.if-is_upper.true ∙ (c.is_upper.ensures ∙ ap (is_upper types) c.bytes-2.ensures))
    ∙ ap (list_any (is_upper types))
    (types_of_type c.args.raw.now (ap is_slot (sym c.bytes.ensures) ∙ sym c.is_slot.ensures ∙ c.if-is_slot.false)))

pub names_upper_type-returns-else-is_upper : goal.names_upper_type-returns-else-is_upper
names_upper_type-returns-else-is_upper t c =
    let types = types_at c.args.graph.now c.args.table.now in
    c.names_upper-else-is_upper.ensures
    ∙ (ap (λ b. b || list_any (is_upper types) (types_in (out-RawNeed c.args.raw.now).with))
    (sym c.if-is_upper.false ∙ (c.is_upper.ensures ∙ ap (is_upper types) c.bytes-2.ensures))
    ∙ ap (list_any (is_upper types))
    (types_of_type c.args.raw.now (ap is_slot (sym c.bytes.ensures) ∙ sym c.is_slot.ensures ∙ c.if-is_slot.false)))
