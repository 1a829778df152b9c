use Rattle.std.proofs.Common.{◌≡◌, ◌≤◌, take}
use Rattle.graph_build.specs.Raw.{nodes_among}
use Rattle.graph_build.specs.Arranged.{HasMadeTo}
use Rattle.graph_build.proofs.arrange.vertices_of.Given as goal

abbrev pub invariant-loop-at : goal.invariant-loop-at
invariant-loop-at l = record {
  made : HasMadeTo l.kinds l.vertices l.order l.numbers l.kind_numbers l.at-index l.made.items;
  counted : l.nodes ≡ nodes_among l.kinds l.vertices (take l.at-index l.order);
  few : l.nodes ≤ l.at-index;
}
