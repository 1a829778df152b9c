use Rattle.std.proofs.Common.{◌≡◌, false, take, drop}
use Rattle.idset_text.specs.Items.{pieces, with_front}
use Rattle.idset_text.proofs.items.item_len.Given as goal

-- the first piece begins with what was passed
abbrev pub invariant-bytes : goal.invariant-bytes
invariant-bytes l = pieces false l.text ≡ with_front (take l.at l.text) (pieces l.inside (drop l.at l.text))
