-- What is read of the same jobspec in the canonical form is the same.
use Rattle.std.proofs.Common.{◌≡◌, ℕ, Option, Some, None, Result}
use Rattle.serde_json.specs.Data.{Data, Items}
use Rattle.json_fields.specs.Values.{result_and_then}
use Rattle.flux_defs.specs.declared.requests.Ask.{Ask}
use Rattle.resource_graph.specs.NamedGraph.{NamedGraph}
use Rattle.jobspec_v1.specs.declared.faults.SpecFault.{SpecFault}
use Rattle.jobspec_v1.specs.declared.requests.Requested.{Requested}
use Rattle.jobspec_v1.specs.Attributes.{Terms}
use Rattle.jobspec_v1.specs.Tasks.{tasks_fault}
use Rattle.jobspec_v1.specs.Jobspecs.{unless_fault, bars_in, ask_for}
use Rattle.jobspec_v1.specs.Parts.{IsReadAs}
use Rattle.jobspec_v1.proofs.PartLaws.{same_by_parts}
use Rattle.jobspec_canon.specs.Canonical.{canon_in, canon_or_no_json}

abbrev canon_body : NamedGraph → Result ℕ SpecFault → Result Requested SpecFault → Result Items SpecFault
    → Result Terms SpecFault → Result Ask SpecFault
canon_body g version resources tasks terms =
    result_and_then version (λ _.
    result_and_then resources (λ requested.
    result_and_then (result_and_then tasks (λ tasks. unless_fault (tasks_fault requested.labels 0 tasks))) (λ _.
    result_and_then terms (λ terms.
    result_and_then (bars_in g terms.constraint) (λ bars.
    ask_for g.resources terms.duration bars requested.needs)))))

pub same_canon : (g : NamedGraph) (o : Option Data) (d : Data) → IsReadAs o d → canon_or_no_json g o ≡ canon_in g d
same_canon g None d same = absurd same
same_canon g (Some e) d same = same_by_parts (canon_body g) e d same
