use Rattle.std.proofs.Common.{◌≡◌, ◌++◌, drop}
use Rattle.graph_from_r.proofs.vertices.copied.Given as goal

-- what was added, and what is left to add
abbrev pub invariant-texts : goal.invariant-texts
invariant-texts l = l.copies.items ++ drop l.text-index l.texts ≡ l.texts
