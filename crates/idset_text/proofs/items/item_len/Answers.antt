use Rattle.std.proofs.Common.{sym, false}
use Rattle.idset_text.proofs.ItemLemmas.{with_front-nil}
use Rattle.idset_text.proofs.items.item_len.Goals as goal

pub bytes-init : goal.bytes-init
bytes-init c = sym (with_front-nil false c.args.text.now)
