use Rattle.std.proofs.Common.{rules, ◌≡◌, ◌∙◌, slice_get, Some, subst}
use Rattle.snapshot_store.specs.Parts.{IsPage}
use Rattle.snapshot_store.proofs.PageLaws.{opened, put_page, put_seen, item_in, item_of}
use Rattle.snapshot_store.proofs.PageLaws.{one_item, one_changed, one_at, stayed}
use Rattle.snapshot_store.proofs.parts.Part.+change.Goals as goal

pub returns-in-Ok-clause-new : goal.returns-in-Ok-clause-new
returns-in-Ok-clause-new g t c =
    let seen = one_item _ _ _ c.self.view_is c.in-Item.is in (
      c.change_held.new.node,
      one_changed _ _ c.change_held.new.node _ seen c.requires.within,
      λ x is. subst (λ u. g.C.Change.makes c.args.change.now u c.change_held.new.node)
          (one_at _ _ x _ seen c.requires.within is) c.in-Ok.ensures.made,
    )

pub returns-in-Err-clause-new : goal.returns-in-Err-clause-new
returns-in-Err-clause-new g t c =
    let seen = one_item _ _ _ c.self.view_is c.in-Item.is in
    (c.change_held.new.node, one_changed _ _ c.change_held.new.node _ seen c.requires.within, tt)

pub returns-in-Err-own-clause-new : goal.returns-in-Err-own-clause-new
returns-in-Err-own-clause-new g t c =
    let (x, is) = stayed c.args.self.now _ c.args.at c.requires.within (search rules) in
    (x, is, tt)

pub returns-in_default-get_mut-clause-new : goal.returns-in_default-get_mut-clause-new
returns-in_default-get_mut-clause-new g t c =
    let (x, is) = stayed c.args.self.now _ c.args.at c.requires.within (search rules) in
    (x, is, tt)

pub change-requires : goal.change-requires
change-requires g t c κs within =
    let it = c.place_of-place.ensures.item _ c.get_mut-in-Fork.ensures.value in
    let seen = opened _ _ _ _ c.self.view_is c.in-Fork.is (c.in-Some.ensures.value ∙ c.own.ensures) in
    let inside = it.inside in
    let high = it.high in
    let fits : (x : g.row.T.Denot) →
    slice_get c.get_mut-in-Fork.result.now.0 c.place_of-place.result.1 ≡ Some x →
    g.C.Change.fits c.args.change.now x = (
    λ x is. c.requires.fits x (item_in _ c.in-Some.page.now _ _ _ _ x seen it is)) in
    search rules

pub invariant_of-self-in-Ok-change : goal.invariant_of-self-in-Ok-change
invariant_of-self-in-Ok-change g t c =
    let page : IsPage c.in-Some.page.now = search rules in
    let it = c.place_of-place.ensures.item _ c.get_mut-in-Fork.ensures.value in
    let new = c.change.ensures.new in
    put_page c.in-Some.page.now _ _ _ _ _ new.0 page it new.1

pub returns-in-Ok-change-clause-new : goal.returns-in-Ok-change-clause-new
returns-in-Ok-change-clause-new g t c =
    let it = c.place_of-place.ensures.item _ c.get_mut-in-Fork.ensures.value in
    let seen = opened _ _ _ _ c.self.view_is c.in-Fork.is (c.in-Some.ensures.value ∙ c.own.ensures) in
    let new = c.in-Ok-change.ensures.new in (
      new.0,
      put_seen c.in-Some.page.now _ _ _ _ _ _ new.0 seen it new.1,
      λ x is. new.2 x (item_of _ c.in-Some.page.now _ _ _ _ x seen it is),
    )

pub invariant_of-self-in-Err-change : goal.invariant_of-self-in-Err-change
invariant_of-self-in-Err-change g t c =
    let page : IsPage c.in-Some.page.now = search rules in
    let it = c.place_of-place.ensures.item _ c.get_mut-in-Fork.ensures.value in
    let new = c.change.ensures.new in
    put_page c.in-Some.page.now _ _ _ _ _ new.0 page it new.1

pub returns-in-Err-change-clause-new : goal.returns-in-Err-change-clause-new
returns-in-Err-change-clause-new g t c =
    let it = c.place_of-place.ensures.item _ c.get_mut-in-Fork.ensures.value in
    let seen = opened _ _ _ _ c.self.view_is c.in-Fork.is (c.in-Some.ensures.value ∙ c.own.ensures) in
    let new = c.in-Err-change.ensures.new in
    (new.0, put_seen c.in-Some.page.now _ _ _ _ _ _ new.0 seen it new.1, tt)
