use Rattle.std.proofs.Common.{◌≡◌, map}
use Rattle.graph_build.proofs.arrange.texts_of.Given as goal

abbrev pub invariant-loop-vertex : goal.invariant-loop-vertex
invariant-loop-vertex l = record {
  names : l.names.items ≡ map (λ r. r.name) l.yielded;
  bases : l.bases.items ≡ map (λ r. r.base) l.yielded;
  units : l.units.items ≡ map (λ r. r.unit) l.yielded;
  properties : l.properties.items ≡ map (λ r. r.properties) l.yielded;
}
