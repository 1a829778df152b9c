use Rattle.std.proofs.Common.{ℕ, ◌<◌}
use Rattle.std.specs.BTreeSet as tree
use Rattle.graph_build.specs.Keys.{IsRepeated}
use Rattle.graph_build.proofs.RepeatLaws.{SeesKeys}
use Rattle.graph_build.proofs.repeats.first_repeated.Given as goal

abbrev pub invariant-loop-at : goal.invariant-loop-at
invariant-loop-at g l = record {
  sees : SeesKeys g.K.Ord.cmp l.keys l.at (tree.contains g.K.Ord.cmp l.seen);
  none : (u : ℕ) → u < l.at → IsRepeated g.K.Ord.cmp l.keys u → ⊥;
}
