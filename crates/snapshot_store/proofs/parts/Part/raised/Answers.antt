use Rattle.std.proofs.Common.{◌∙◌, ap}
use Rattle.snapshot_store.specs.Parts.{parts_in}
use Rattle.snapshot_store.specs.declared.parts.Page.{Page}
use Rattle.snapshot_store.proofs.RaiseLaws.{first_page, first_seen}
use Rattle.snapshot_store.proofs.parts.Part.raised.Goals as goal

pub invariant_of-result : goal.invariant_of-result
invariant_of-result g c =
    let same = c.in-Some.ensures.value ∙ c.in-Ok.ensures in
    let vacant = ap (λ (u : Page _). parts_in u) same ∙ c.vacant.ensures.parts in
    first_page c.in-Some.page.now c.args.self vacant c.args.height
    (ap (λ (u : Page _). u.below) same ∙ c.vacant.ensures.below) c.requires.low c.requires.part

pub returns-clause-new : goal.returns-clause-new
returns-clause-new g c =
    let same = c.in-Some.ensures.value ∙ c.in-Ok.ensures in
    let vacant = ap (λ (u : Page _). parts_in u) same ∙ c.vacant.ensures.parts in
    first_seen c.in-Some.page.now c.args.self vacant c.args.height
    (ap (λ (u : Page _). u.below) same ∙ c.vacant.ensures.below)
