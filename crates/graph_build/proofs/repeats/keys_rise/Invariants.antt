use Rattle.std.proofs.Common.{ℕ, ◌<◌}
use Rattle.graph_build.specs.Keys.{IsRepeated}
use Rattle.graph_build.proofs.RepeatLaws.{EndsWith}
use Rattle.graph_build.proofs.repeats.keys_rise.Given as goal

abbrev pub invariant-loop-at : goal.invariant-loop-at
invariant-loop-at g l = record {
  ends : EndsWith g.K.Ord.cmp l.keys l.at l.last;
  none : (u : ℕ) → u < l.at → IsRepeated g.K.Ord.cmp l.keys u → ⊥;
}
