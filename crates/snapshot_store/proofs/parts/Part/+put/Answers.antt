use Rattle.std.proofs.Common.{rules, ◌∙◌}
use Rattle.snapshot_store.specs.Parts.{IsPage}
use Rattle.snapshot_store.proofs.PageLaws.{opened, put_page, put_seen, kept_page, kept_seen}
use Rattle.snapshot_store.proofs.parts.Part.+put.Goals as goal

pub put-requires : goal.put-requires
put-requires g t c κs within =
    let it = c.place_of-place.ensures.item _ c.get_mut-in-Fork.ensures.value in
    let inside = it.inside in
    let high = it.high in
    search rules

pub invariant_of-self-in-Ok : goal.invariant_of-self-in-Ok
invariant_of-self-in-Ok g t c =
    let page : IsPage c.in-Some.page.now = search rules in
    let it = c.place_of-place.ensures.item _ c.get_mut-in-Fork.ensures.value in
    let (item, is) = c.requires.some in
    put_page c.in-Some.page.now _ _ _ _ _ item page it (c.in-Ok.ensures.new item is)

pub returns-in-Ok-clause-new : goal.returns-in-Ok-clause-new
returns-in-Ok-clause-new g t c = λ item is.
    let it = c.place_of-place.ensures.item _ c.get_mut-in-Fork.ensures.value in
    let seen = opened _ _ _ _ c.self.view_is c.in-Fork.is (c.in-Some.ensures.value ∙ c.own.ensures) in
    put_seen c.in-Some.page.now _ _ _ _ _ _ item seen it (c.in-Ok.ensures.new item is)

pub returns-in-Ok-clause-work : goal.returns-in-Ok-clause-work
returns-in-Ok-clause-work g t c =
    let it = c.place_of-place.ensures.item _ c.get_mut-in-Fork.ensures.value in
    let high = it.high in
    search rules

pub invariant_of-self-in-Err-put : goal.invariant_of-self-in-Err-put
invariant_of-self-in-Err-put g t c =
    let page : IsPage c.in-Some.page.now = search rules in
    kept_page c.in-Some.page.now _ _ _ page c.get_mut-in-Fork.ensures.value
    c.in-Err-put.ensures.same

pub returns-in-Err-put-clause-same : goal.returns-in-Err-put-clause-same
returns-in-Err-put-clause-same g t c =
    let seen = opened _ _ _ _ c.self.view_is c.in-Fork.is (c.in-Some.ensures.value ∙ c.own.ensures) in
    kept_seen c.in-Some.page.now _ _ _ _ seen c.get_mut-in-Fork.ensures.value
    c.in-Err-put.ensures.same

pub returns-in-Err-put-clause-work : goal.returns-in-Err-put-clause-work
returns-in-Err-put-clause-work g t c =
    let it = c.place_of-place.ensures.item _ c.get_mut-in-Fork.ensures.value in
    let high = it.high in
    search rules
