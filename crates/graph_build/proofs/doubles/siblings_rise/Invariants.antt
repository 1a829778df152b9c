use Rattle.std.proofs.Common.{ℕ, ◌<◌}
use Rattle.graph_build.specs.Keys.{IsDoubleSibling}
use Rattle.graph_build.proofs.SiblingLaws.{NamesEnd}
use Rattle.graph_build.proofs.doubles.siblings_rise.Given as goal

abbrev pub invariant-loop-at : goal.invariant-loop-at
invariant-loop-at l = record {
  ends : NamesEnd l.keys l.at l.last.items;
  apart : (u : ℕ) → u < l.at → IsDoubleSibling l.keys u → ⊥;
}
