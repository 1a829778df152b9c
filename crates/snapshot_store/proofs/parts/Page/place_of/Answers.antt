use Rattle.std.proofs.Common.{◌≡◌, ℕ, ◌*◌, ◌/◌, ◌%◌, ◌<◌, ◌^◌, slice_get, refl, sym, ◌∙◌, ap, subst}
use Rattle.snapshot_store.specs.Parts.{parts_in}
use Rattle.snapshot_store.proofs.PlaceLaws.{has_item, item_place, item_split}
use Rattle.snapshot_store.proofs.parts.Page.place_of.Goals as goal

pub returns-clause-place : goal.returns-clause-place
returns-clause-place g c =
    let page = c.args.self.now in
    let place : c.split.result.0 ≡ c.args.at / 2 ^ (4 * page.below) =
    c.split.ensures.place ∙ ap (λ (b : ℕ). c.args.at / 2 ^ (4 * b)) c.requires.below in
    subst (λ (n : ℕ). n < 16) (sym place)
    (item_place page c.args.at (2 ^ (4 * page.below)) refl c.requires.page c.requires.inside)

pub returns-clause-item : goal.returns-clause-item
returns-clause-item g c =
    let page = c.args.self.now in
    let place : c.split.result.0 ≡ c.args.at / 2 ^ (4 * page.below) =
    c.split.ensures.place ∙ ap (λ (b : ℕ). c.args.at / 2 ^ (4 * b)) c.requires.below in
    let rest : c.split.result.1 ≡ c.args.at % 2 ^ (4 * page.below) =
    c.split.ensures.rest ∙ ap (λ (b : ℕ). c.args.at % 2 ^ (4 * b)) c.requires.below in
    λ part e.
    item_split page c.args.at part c.split.result.0 c.split.result.1 place rest
    (has_item page c.args.at (2 ^ (4 * page.below)) part refl c.requires.page c.requires.inside
    (ap (slice_get (parts_in page)) (sym place) ∙ e))
