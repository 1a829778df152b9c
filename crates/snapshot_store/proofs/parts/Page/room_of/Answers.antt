use Rattle.std.proofs.Common.{ℕ, ◌*◌, ◌<◌, ◌^◌, slice_get, refl, sym, ◌∙◌, ap, subst}
use Rattle.snapshot_store.specs.Parts.{parts_in}
use Rattle.snapshot_store.proofs.PlaceLaws.{has_room, room_place, room_split}
use Rattle.snapshot_store.proofs.parts.Page.room_of.Goals as goal

pub returns-clause-place : goal.returns-clause-place
returns-clause-place g c =
    subst (λ (n : ℕ). n < 16) (sym c.split.ensures.place)
    (room_place c.args.self.now c.args.at (2 ^ (4 * c.args.self.now.below)) refl c.requires.room)

pub returns-clause-room : goal.returns-clause-room
returns-clause-room g c = λ part e.
    room_split c.args.self.now c.args.at part c.split.result.0 c.split.result.1 c.split.ensures.place
    c.split.ensures.rest
    (has_room c.args.self.now c.args.at (2 ^ (4 * c.args.self.now.below)) part refl c.requires.page c.requires.end
    (ap (slice_get (parts_in c.args.self.now)) (sym c.split.ensures.place) ∙ e))
