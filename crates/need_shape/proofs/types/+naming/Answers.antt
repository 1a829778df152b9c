use Rattle.std.proofs.Common.{◌≡◌, ℕ, List, OnOk, ap, subst, sym, ◌∙◌}
use Rattle.need_shape.specs.Requests.{is_slot, types_in}
use Rattle.text_table.specs.Tables.{with_texts, with_text}
use Rattle.need_shape.specs.declared.raw.RawNeed.{out-RawNeed}
use Rattle.need_shape.proofs.Rows.{types_of_slot, types_of_type}
use Rattle.need_shape.proofs.types.+naming.Goals as goal

pub add_types_of-returns-then-is_slot : goal.add_types_of-returns-then-is_slot
add_types_of-returns-then-is_slot t c =
    subst (λ (ts : List (List ℕ)). OnOk c.add_types.result (c.add_types.new.table ≡ with_texts c.args.table.now ts))
    (types_of_slot c.args.raw.now (ap is_slot (sym c.bytes.ensures) ∙ sym c.is_slot.ensures ∙ c.if-is_slot.true))
    c.add_types.ensures

pub add_types_of-returns : goal.add_types_of-returns
add_types_of-returns t c =
    subst (λ (ts : List (List ℕ)). OnOk c.add_types-2.result (c.add_types-2.new.table ≡ with_texts c.args.table.now ts))
    (types_of_type c.args.raw.now (ap is_slot (sym c.bytes.ensures) ∙ sym c.is_slot.ensures ∙ c.if-is_slot.false))
    (subst (λ (table : List (List ℕ)). OnOk c.add_types-2.result
    (c.add_types-2.new.table ≡ with_texts table (types_in (out-RawNeed c.args.raw.now).with)))
    (c.in_ok-add.ensures.ok ∙ ap (with_text c.args.table.now) c.bytes-2.ensures) c.add_types-2.ensures)
