-- How many nodes a line bars: no more than the graph has vertices.
use Rattle.std.proofs.Common.{◌≡◌, ℕ, ◌≤◌, ◌||◌, if◌then◌else◌, Bool, true, false, List, length, codes, Option, Some}
use Rattle.std.proofs.Common.{None, Result, Ok, Err, refl, arith}
use Rattle.std.specs.List.{range_with_len}
use Rattle.std.specs.Result.{result_map_both}
use Rattle.std.proofs.lemmas.List.FromFn.{length-range_with_len}
use Rattle.std.proofs.lemmas.List.Sums.{length-filter, count_by-le-length}
use Rattle.serde_json.specs.Data.{Data}
use Rattle.json_fields.specs.Values.{result_and_then, object_value}
use Rattle.json_whole.specs.Whole.{value_of}
use Rattle.need_shape.specs.declared.raw.RawNeed.{RawNeed}
use Rattle.need_shape.specs.declared.raw.ShapeFault.{ShapeFault}
use Rattle.need_shape.specs.Types.{types_for}
use Rattle.need_shape.specs.Shapes.{outside}
use Rattle.need_shape.specs.Faults.{list_fault}
use Rattle.node_constraints.specs.Bars.{is_barred, barred_by, root, unless_fault}
use Rattle.node_constraints.specs.Faults.{fault_at}
use Rattle.jobspec_v1.specs.declared.faults.SpecFault.{SpecFault}
use Rattle.jobspec_v1.specs.declared.faults.SpecFault.TheVariants.{Constraint}
use Rattle.jobspec_v1.specs.Faults.{at_path}
use Rattle.jobspec_v1.specs.Attributes.{terms_of}
use Rattle.jobspec_v1.specs.Jobspecs.{version_of, resources_of, unless_shape, tasks_in, ask_for, ask_by}
use Rattle.jobspec_v1.specs.Jobspecs as jobspecs
use Rattle.jobspec_canon.specs.Canonical.{canon_or_no_json, canon_of}
use Rattle.text_forms.specs.Numbers.{number_in}
use Rattle.flux_defs.specs.declared.requests.Ask.{Ask}
use Rattle.flux_defs.specs.declared.journal.Command.{Command}
use Rattle.flux_defs.specs.declared.journal.Command.TheVariants as command
use Rattle.resource_graph.specs.NamedGraph.{NamedGraph}
use Rattle.fluxion_lines.specs.declared.commands.Form.TheVariants.{Rfc14}
use Rattle.fluxion_lines.specs.declared.commands.Verb.{Verb}
use Rattle.fluxion_lines.specs.declared.commands.Verb.TheVariants as verb
use Rattle.fluxion_lines.specs.Lines.{read_of}
use Rattle.fluxion_lines.specs.Inputs.{bars_in}
use Rattle.fluxion_lines.specs.Reasons.{spec_reason}
use Rattle.fluxion_lines.specs.Words.{skipped, first_word, after_word}
use Rattle.fluxion_lines.specs.Commands.{is_none, is_client, verb_of, invalid, asked, with_job, job_and_ask, ask_alone}
use Rattle.fluxion_lines.specs.Commands.{number_alone, made, command_by, command_or, command_of, bars_of_command}

-- what holds of a result, if there is one
abbrev Of : {A E : Type 0} → Result A E → (A → Type 0) → Type 0
Of (Ok x) P = P x
Of (Err e) P = Unit {0}

and_then : {A B E : Type 0} (r : Result A E) (f : A → Result B E) (P : B → Type 0) → ((x : A) → Of (f x) P) →
    Of (result_and_then r f) P
and_then (Ok x) f P each = each x
and_then (Err e) f P each = tt

module _ (g : NamedGraph) where
  abbrev FewBars : Ask → Type 0
  FewBars ask = length ask.barred ≤ length g.resources.vertices

  bars_few : (o : Option Data) → Of (jobspecs.bars_in g o) (λ bars. length bars ≤ length g.resources.vertices)
  bars_few None = omega arith
  bars_few (Some d) = by (fault_at root d)
    where
      few : length (barred_by g d) ≤ length g.resources.vertices
      few =
          let count = length-filter (is_barred g d) (range_with_len 0 (length g.resources.vertices)) in
          let le = count_by-le-length (is_barred g d) (range_with_len 0 (length g.resources.vertices)) in
          let all = length-range_with_len 0 (length g.resources.vertices) in omega (arith, count, le, all)

      by : (o : Option (List ℕ)) → Of (result_map_both (λ bars. bars) (λ path. Constraint path) (unless_fault
          (barred_by g d) o))
          (λ bars. length bars ≤ length g.resources.vertices)
      by None = few
      by (Some path) = tt

  shape_few : (duration : ℕ) (bars : List ℕ) (request : List RawNeed) → length bars ≤ length g.resources.vertices →
      Of (ask_for g.resources duration bars request) FewBars
  shape_few duration bars request few = by (list_fault (types_for g.resources request) outside request)
    where
      by : (o : Option ShapeFault) → Of (unless_shape g.resources duration bars request o) FewBars
      by None = few
      by (Some fault) = tt

  ask_few : (request : List RawNeed) (d : Data) → Of (ask_by g request d) FewBars
  ask_few request d = and_then (terms_of d) _ FewBars (λ terms. by terms.duration terms.constraint)
    where
      by : (duration : ℕ) (o : Option Data) →
          Of (result_and_then (jobspecs.bars_in g o) (λ bars. ask_for g.resources duration bars request)) FewBars
      by duration o = at (jobspecs.bars_in g o) (bars_few o)
        where
          at : (r : Result (List ℕ) SpecFault) → Of r (λ bars. length bars ≤ length g.resources.vertices) →
              Of (result_and_then r (λ bars. ask_for g.resources duration bars request)) FewBars
          at (Ok bars) few = shape_few duration bars request few
          at (Err e) few = tt

  canon_few : (bytes : List ℕ) → Of (canon_of g bytes) FewBars
  canon_few bytes = by (value_of bytes)
    where
      by : (o : Option Data) → Of (canon_or_no_json g o) FewBars
      by None = tt
      by (Some d) =
          and_then (at_path (codes ".") (object_value d)) _ FewBars (λ _.
          and_then (version_of d) _ FewBars (λ _.
          and_then (resources_of d) _ FewBars (λ requested.
          and_then (tasks_in requested.labels d) _ FewBars (λ _.
          ask_few requested.needs d))))

  -- a command bars no more nodes than the graph has vertices
  abbrev CommandBars : Command → Type 0
  CommandBars c = bars_of_command c ≤ length g.resources.vertices

  asked_few : (spec : List ℕ) → Of (asked g Rfc14 spec) FewBars
  asked_few spec = by (canon_of g spec) (canon_few spec)
    where
      by : (r : Result Ask SpecFault) → Of r FewBars → Of (result_map_both (λ (ask : Ask). ask) spec_reason r) FewBars
      by (Ok ask) few = few
      by (Err e) few = tt

  job_few : (o : Option ℕ) (r : Result Ask (List ℕ)) → Of r FewBars → Of (with_job o r) (λ p. FewBars p.1)
  job_few None r few = tt
  job_few (Some job) (Ok ask) few = few
  job_few (Some job) (Err why) few = tt

  words_few : (b : Bool) (r : Result (ℕ × Ask) (List ℕ)) → Of r (λ p. FewBars p.1) →
      Of (if b then Err (codes "words") else r) (λ p. FewBars p.1)
  words_few true r few = tt
  words_few false r few = few

  alone_few : (b : Bool) (r : Result Ask (List ℕ)) → Of r FewBars → Of (if b then Err (codes "words") else r) FewBars
  alone_few true r few = tt
  alone_few false r few = few

  made_few : {A : Type 0} (make : A → Command) (r : Result A (List ℕ)) → Of r (λ x. CommandBars (make x)) →
      CommandBars (made make r)
  made_few make (Ok x) few = few
  made_few make (Err why) few = omega arith

  none_few : {A : Type 0} (make : A → Command) (r : Result A (List ℕ)) → ((x : A) → bars_of_command (make x) ≡ 0) →
      CommandBars (made make r)
  none_few make (Ok x) none = let is = none x in omega (arith, is)
  none_few make (Err why) none = omega arith

  verb_few : (v : Verb) (words : List ℕ) → CommandBars (command_by g Rfc14 v words)
  verb_few verb.Allocate words = made_few (λ (p : ℕ × Ask). command.Allocate p.0 p.1) (job_and_ask g Rfc14 words)
      (words_few (is_none (first_word words) || is_none (skipped (after_word words))) (with_job (number_in
      (first_word words)) (asked g Rfc14 (skipped (after_word words))))
      (job_few (number_in (first_word words)) (asked g Rfc14 (skipped (after_word words))) (asked_few (skipped
      (after_word words)))))
  verb_few verb.Reserve words = made_few (λ (p : ℕ × Ask). command.Reserve p.0 p.1) (job_and_ask g Rfc14 words)
      (words_few (is_none (first_word words) || is_none (skipped (after_word words))) (with_job (number_in
      (first_word words)) (asked g Rfc14 (skipped (after_word words))))
      (job_few (number_in (first_word words)) (asked g Rfc14 (skipped (after_word words))) (asked_few (skipped
      (after_word words)))))
  verb_few verb.Satisfy words = made_few command.Satisfy (ask_alone g Rfc14 words)
      (alone_few (is_none (skipped words)) (asked g Rfc14 (skipped words)) (asked_few (skipped words)))
  verb_few verb.Cancel words = none_few command.Cancel (number_alone (codes "job") words) (λ x. refl)
  verb_few verb.Info words = none_few command.Info (number_alone (codes "job") words) (λ x. refl)
  verb_few verb.Advance words = none_few command.Advance (number_alone (codes "time") words) (λ x. refl)

  command_few : (line : List ℕ) → CommandBars (command_of g Rfc14 line)
  command_few line = by (is_client (first_word line)) (verb_of (first_word (after_word line)))
    where
      by : (b : Bool) (o : Option Verb) →
          CommandBars (if b then command_or g Rfc14 o (after_word (after_word line)) else invalid (codes "client"))
      by true None = omega arith
      by true (Some v) = verb_few v (after_word (after_word line))
      by false o = omega arith

  -- a line with jobspecs in the canonical form bars no more nodes than the graph has vertices
  pub bars_within : (raw : List ℕ) → bars_in g Rfc14 raw ≤ length g.resources.vertices
  bars_within raw = command_few (read_of raw)
