use Rattle.std.proofs.Common.{sym, ◌∙◌}
use Rattle.snapshot_store.proofs.parts.Page.find.Goals as goal

pub returns-clause-height : goal.returns-clause-height
returns-clause-height g c = (c.place_of-place.ensures.item _ c.get.ensures).high ∙ sym c.requires.below
