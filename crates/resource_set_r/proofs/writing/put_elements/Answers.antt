use Rattle.std.proofs.Common.{sym, subst}
use Rattle.resource_set_r.specs.declared.rows.Element.{Element}
use Rattle.resource_set_r.specs.WrittenR.{RisesWithin}
use Rattle.resource_set_r.proofs.writing.put_elements.Goals as goal

pub put_element-requires : goal.put_element-requires
put_element-requires c = subst (λ (e : Element). RisesWithin e)
    (sym c.element-item.is) (c.requires c.elements.element-index c.element-item.result c.elements-test.true)
