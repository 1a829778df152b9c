-- What a jobspec in the canonical form (RFC 14) asks for, or the first fault of it, in the order in which faults are
-- told.
use Rattle.std.specs.Prelude.{ℕ, List, Option, Some, None, Result, Err, codes}
use Rattle.serde_json.specs.Data.{Data}
use Rattle.json_whole.specs.Whole.{value_of}
use Rattle.json_fields.specs.Values.{result_and_then, object_value}
use Rattle.flux_defs.specs.declared.requests.Ask.{Ask}
use Rattle.resource_graph.specs.NamedGraph.{NamedGraph}
use Rattle.jobspec_v1.specs.declared.faults.SpecFault.{SpecFault}
use Rattle.jobspec_v1.specs.declared.faults.SpecFault.TheVariants.{NotJson}
use Rattle.jobspec_v1.specs.Faults.{at_path}
use Rattle.jobspec_v1.specs.Jobspecs.{version_of, resources_of, tasks_in, ask_by}

-- what a value asks for over a graph: any version, any request vertices
abbrev pub canon_in : NamedGraph → Data → Result Ask SpecFault
canon_in g d =
    result_and_then (at_path (codes ".") (object_value d)) (λ _.
    result_and_then (version_of d) (λ _.
    result_and_then (resources_of d) (λ requested.
    result_and_then (tasks_in requested.labels d) (λ _.
    ask_by g requested.needs d))))

abbrev pub canon_or_no_json : NamedGraph → Option Data → Result Ask SpecFault
canon_or_no_json g None = Err NotJson
canon_or_no_json g (Some d) = canon_in g d

-- what the bytes of a jobspec ask for over a graph, or their first fault
abbrev pub canon_of : NamedGraph → List ℕ → Result Ask SpecFault
canon_of g bytes = canon_or_no_json g (value_of bytes)
