-- Sixteen parts as a list.
use Rattle.std.specs.Prelude.{List}
use Rattle.node_store.specs.declared.sixteen.Sixteen.{Sixteen}

abbrev pub parts_of : {S : Type 0} → Sixteen S → List S
parts_of s = s.parts
