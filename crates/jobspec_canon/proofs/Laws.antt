-- What a jobspec V1 asks for, the canonical form asks for too.
use Rattle.std.proofs.Common.{◌≡◌, sym, ◌∙◌, ap, ℕ, ◌==◌, not, Bool, List, Option, Some, None, Result, Ok, Err, codes}
use Rattle.std.proofs.Common.{inl, inr}
use Rattle.serde_json.specs.Data.{Data}
use Rattle.json_whole.specs.Whole.{value_of}
use Rattle.json_fields.specs.Values.{result_and_then, object_value}
use Rattle.flux_defs.specs.declared.requests.Ask.{Ask}
use Rattle.resource_graph.specs.NamedGraph.{NamedGraph}
use Rattle.jobspec_v1.specs.declared.faults.SpecFault.{SpecFault}
use Rattle.jobspec_v1.specs.declared.faults.SpecFault.TheVariants.{Version, Form, Task, Memory}
use Rattle.jobspec_v1.specs.Faults.{IsFirstFault, at_path}
use Rattle.jobspec_v1.specs.Forms.{is_v1}
use Rattle.jobspec_v1.specs.Tasks.{task_list}
use Rattle.jobspec_v1.specs.Jobspecs.{is_one, unless, version_of, resources_of, tasks_in, v1_tasks, v1_in}
use Rattle.jobspec_v1.specs.Jobspecs.{v1_or_no_json, v1_of}
use Rattle.json_fields.proofs.Results.{then_ok, ok_is, no_ok}
use Rattle.jobspec_canon.specs.Canonical.{canon_in, canon_or_no_json, canon_of}

-- what stands behind a result that is Ok
then_is : {A B E : Type 0} (r : Result A E) (f : A → Result B E) (x : A) (y : Result B E) →
    r ≡ Ok x → f x ≡ y → result_and_then r f ≡ y
then_is r f x y read next = ap (λ t. result_and_then t f) read ∙ next

-- the one task of V1 is well formed
same_tasks : (labels : List (List ℕ)) (d : Data) (b : Bool) → v1_tasks labels d ≡ Ok b → tasks_in labels d ≡ Ok b
same_tasks labels d b h =
    let list = then_ok (task_list d) _ b h in
    let one = then_ok (unless (not (is_one list.0)) (Task (codes "tasks"))) _ b list.2 in
    then_is (task_list d) _ list.0 (Ok b) list.1 one.2

same_value : (g : NamedGraph) (d : Data) (ask : Ask) → v1_in g d ≡ Ok ask → canon_in g d ≡ Ok ask
same_value g d ask h =
    let whole = then_ok (at_path (codes ".") (object_value d)) _ ask h in
    let version = then_ok (version_of d) _ ask whole.2 in
    let first = then_ok (unless (not (version.0 == 1)) Version) _ ask version.2 in
    let requested = then_ok (resources_of d) _ ask first.2 in
    let form = then_ok (unless (not (is_v1 requested.0.needs)) Form) _ ask requested.2 in
    let tasks = then_ok (v1_tasks requested.0.labels d) _ ask form.2 in
    then_is (at_path (codes ".") (object_value d)) _ whole.0 (Ok ask) whole.1
    (then_is (version_of d) _ version.0 (Ok ask) version.1
    (then_is (resources_of d) _ requested.0 (Ok ask) requested.1
    (then_is (tasks_in requested.0.labels d) _ tasks.0
    (Ok ask) (same_tasks requested.0.labels d tasks.0 tasks.1) tasks.2)))

same_or_no_json : (g : NamedGraph) (o : Option Data) (ask : Ask) →
    v1_or_no_json g o ≡ Ok ask → canon_or_no_json g o ≡ Ok ask
same_or_no_json g None ask h = absurd (no_ok _ ask h)
same_or_no_json g (Some d) ask h = same_value g d ask h

-- what the reader of V1 accepts, the canonical reader reads as the same ask
pub same_ask : (g : NamedGraph) (bytes : List ℕ) (ask : Ask) → v1_of g bytes ≡ Ok ask → canon_of g bytes ≡ Ok ask
same_ask g bytes ask h = same_or_no_json g (value_of bytes) ask h

-- so an ask that was read is that one
pub is_same : (g : NamedGraph) (bytes : List ℕ) (ask v1 : Ask) →
    canon_of g bytes ≡ Ok ask → v1_of g bytes ≡ Ok v1 → ask ≡ v1
is_same g bytes ask v1 read accepted =
    let both : Ok ask ≡ Ok v1 = sym read ∙ same_ask g bytes v1 accepted in
    ok_is ask v1 both

-- and a fault is want of memory
pub is_memory : (g : NamedGraph) (bytes : List ℕ) (fault : SpecFault) (v1 : Ask) →
    IsFirstFault (canon_of g bytes) fault → v1_of g bytes ≡ Ok v1 → fault ≡ Memory
is_memory g bytes fault v1 (inl memory) accepted = memory
is_memory g bytes fault v1 (inr told) accepted =
    let both : Err fault ≡ Ok v1 = sym told ∙ same_ask g bytes v1 accepted in
    absurd (no_ok fault v1 both)
