-- What a list holds after a write to an item that it lent.
use Rattle.std.specs.Prelude.{ℕ, List, Option, slice_set}
use Rattle.std.specs.Borrow.{LendsIf, MutBor, Fml}
use denote.RattleType.{RattleType}
use Rattle.flux_defs.specs.contracts.lists.List as lists

-- a list holds at that index what was written, and where nothing was lent what it held
abbrev pub LendsItem : (R : RattleType) → MutBor (List R.Denot) → ℕ → Option (MutBor R.Denot) → Fml
LendsItem R list at item = LendsIf (lists.the_row R) R list item (slice_set list.now at) list.now
