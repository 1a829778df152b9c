-- What a value holds after a write to what it lent.
use Rattle.std.specs.Prelude.{ℕ, slice_set, Option}
use Rattle.std.specs.Borrow.{Lends, LendsIf, MutBor, Fml}
use denote.RattleType.{RattleType}
use Rattle.node_store.specs.declared.sixteen.Sixteen.{Sixteen}
use Rattle.node_store.specs.contracts.node.Node as node
use Rattle.node_store.specs.contracts.sixteen.Sixteen as sixteen

-- a node holds what was written, and where nothing was lent what it held
abbrev pub LendsValue : (R : RattleType) → MutBor R.Denot → Option (MutBor R.Denot) → Fml
LendsValue R n value = LendsIf (node.the_row R) R n value (λ written. written) n.now

-- sixteen parts of which that at this place was written
abbrev pub with_part : {S : Type 0} → Sixteen S → ℕ → S → Sixteen S
with_part s place written = record { parts = slice_set s.parts place written }

abbrev pub LendsPart : (R : RattleType) → MutBor (Sixteen R.Denot) → ℕ → MutBor R.Denot → Fml
LendsPart R s place part = Lends (sixteen.the_row R) R s part (with_part s.now place)
