use Rattle.std.proofs.Common.{rules, arith, ◌∙◌}
use Rattle.snapshot_store.specs.Parts.{IsPage}
use Rattle.snapshot_store.proofs.PageLaws.{opened, more_page, more_seen, kept_page, kept_seen, room_in, tall_in}
use Rattle.snapshot_store.proofs.PageLaws.{rows_in, first_row}
use Rattle.snapshot_store.proofs.parts.Part.+append.Goals as goal

pub returns-in-Ok-clause-new : goal.returns-in-Ok-clause-new
returns-in-Ok-clause-new g t c =
    c.part.view_is ∙ first_row c.args.self.now c.args.full.now _ _ _ c.if-height-eq1.true c.requires.full
    c.requires.rows c.requires.end c.requires.room c.in-Ok.ensures

pub room_of-place-requires : goal.room_of-place-requires
room_of-place-requires g t c =
    let seen = opened _ _ _ _ c.self.view_is c.in-Fork.is (c.in-Some.ensures.value ∙ c.own.ensures) in
    let room = room_in _ c.in-Some.page.now _ _ seen c.requires.part.forked c.requires.room in
    search rules

pub append-requires : goal.append-requires
append-requires g t c κs within =
    let seen = opened _ _ _ _ c.self.view_is c.in-Fork.is (c.in-Some.ensures.value ∙ c.own.ensures) in
    let tall = tall_in _ c.in-Some.page.now _ seen c.requires.part.forked in
    let it = c.room_of-place.ensures.room _ c.get_mut-in-Fork.ensures.value in
    let next = rows_in _ _ _ _ tall c.requires.low c.if-height-eq1.false c.requires.rows c.room_of-place.ensures.rest
    it.room in
    let len = it.len in
    let room = it.room in
    let fits = it.fits in
    let high = it.fits.high in
    let some = next.tall in
    let rows = next.rows in
    search rules

pub invariant_of-self-in-Ok-append : goal.invariant_of-self-in-Ok-append
invariant_of-self-in-Ok-append g t c =
    let page : IsPage c.in-Some.page.now = search rules in
    let seen = opened _ _ _ _ c.self.view_is c.in-Fork.is (c.in-Some.ensures.value ∙ c.own.ensures) in
    let tall = tall_in _ c.in-Some.page.now _ seen c.requires.part.forked in
    let it = c.room_of-place.ensures.room _ c.get_mut-in-Fork.ensures.value in
    let next = rows_in _ _ _ _ tall c.requires.low c.if-height-eq1.false c.requires.rows c.room_of-place.ensures.rest
    it.room in
    more_page c.in-Some.page.now _ _ _ _ c.args.full.now.0 page it
    (omega (arith, next.room, c.requires.full.all)) c.in-Ok-append.ensures.new

pub returns-in-Ok-append-clause-new : goal.returns-in-Ok-append-clause-new
returns-in-Ok-append-clause-new g t c =
    let it = c.room_of-place.ensures.room _ c.get_mut-in-Fork.ensures.value in
    let seen = opened _ _ _ _ c.self.view_is c.in-Fork.is (c.in-Some.ensures.value ∙ c.own.ensures) in
    more_seen c.in-Some.page.now _ _ _ _ _ _ _ seen c.requires.part.forked it
    c.in-Ok-append.ensures.new

pub invariant_of-self-in-Err-append : goal.invariant_of-self-in-Err-append
invariant_of-self-in-Err-append g t c =
    let page : IsPage c.in-Some.page.now = search rules in
    kept_page c.in-Some.page.now _ _ _ page c.get_mut-in-Fork.ensures.value
    c.in-Err-append.ensures.same

pub returns-in-Err-append-clause-same : goal.returns-in-Err-append-clause-same
returns-in-Err-append-clause-same g t c =
    let seen = opened _ _ _ _ c.self.view_is c.in-Fork.is (c.in-Some.ensures.value ∙ c.own.ensures) in
    kept_seen c.in-Some.page.now _ _ _ _ seen c.get_mut-in-Fork.ensures.value
    c.in-Err-append.ensures.same
