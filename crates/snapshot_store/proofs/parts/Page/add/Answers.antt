use Rattle.std.proofs.Common.{◌∷◌, [], ◌++◌, ◌∙◌, ap, arith, subst, sym}
use Rattle.snapshot_store.specs.Parts.{parts_in, items_in, IsPage}
use Rattle.snapshot_store.specs.declared.parts.Page.{Page}
use Rattle.snapshot_store.proofs.PageLaws.{more_page, more_items, first_item}
use Rattle.snapshot_store.proofs.parts.Page.add.Goals as goal

pub returns-in-Ok-clause-page : goal.returns-in-Ok-clause-page
returns-in-Ok-clause-page g c =
    let same = c.in-Some.ensures.value ∙ c.own.ensures in
    let below = ap (λ (u : Page _). u.below) same ∙ c.requires.below in
    let it = c.room_of-place.ensures.room _ c.get_mut-in-Ok.ensures.value in
    more_page c.in-Some.page.now _ _ _ _ _
    (subst (λ (u : Page _). IsPage u) (sym same) c.requires.page) it (omega (arith, it.room))
    (first_item _ _ _ _ c.args.item _ below it c.in-Ok.ensures.ok)

pub returns-in-Ok-clause-new : goal.returns-in-Ok-clause-new
returns-in-Ok-clause-new g c =
    let same = c.in-Some.ensures.value ∙ c.own.ensures in
    let below = ap (λ (u : Page _). u.below) same ∙ c.requires.below in
    let it = c.room_of-place.ensures.room _ c.get_mut-in-Ok.ensures.value in
    more_items c.in-Some.page.now _ _ _ _ _ it
    (first_item _ _ _ _ c.args.item _ below it c.in-Ok.ensures.ok)
    ∙ ap (λ (u : Page _). items_in (parts_in u) ++ c.args.item ∷ []) same
