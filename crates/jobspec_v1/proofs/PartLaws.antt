-- Values that agree on what is wanted of a jobspec are read as the same jobspec.
use Rattle.std.proofs.Common.{◌≡◌, ◌==◌, ℕ, List, [], ◌∷◌, Bool, true, false, cond, not, Option, Some, None, refl, sym}
use Rattle.std.proofs.Common.{is_some, option_and_then, Result, Ok, Err, codes, subst, ap, ◌∙◌, ◌⊎◌, inl, inr}
use Rattle.std.specs.Prelude.{IsTrue, if◌then◌else◌}
use Rattle.serde_json.specs.Data.{Data, Items}
use Rattle.serde_json.specs.Find.{get, as_null, as_object}
use Rattle.json_whole.specs.declared.parts.Wanted.{Wanted}
use Rattle.json_whole.specs.declared.fields.FieldFault.TheVariants.{Kind}
use Rattle.json_whole.specs.Field.{u64_of}
use Rattle.json_whole.specs.Parts.{is_whole_key, AreAlike, AgreeOn, IsPartOf}
use Rattle.json_fields.specs.Values.{result_and_then, object_value, object_or_none, list_of, some_items}
use Rattle.flux_defs.specs.declared.limits.TheConstants.{GREATEST_NUMBER}
use Rattle.flux_defs.specs.declared.requests.Ask.{Ask}
use Rattle.resource_graph.specs.NamedGraph.{NamedGraph}
use Rattle.jobspec_v1.specs.declared.faults.SpecFault.{SpecFault}
use Rattle.jobspec_v1.specs.declared.faults.SpecFault.TheVariants.{NotJson, Version, Form, Task, Memory}
use Rattle.jobspec_v1.specs.declared.requests.Requested.{Requested}
use Rattle.jobspec_v1.specs.Faults.{IsFirstFault, at_path}
use Rattle.jobspec_v1.specs.Attributes.{Terms, terms_of, given_in, duration_in}
use Rattle.jobspec_v1.specs.Forms.{is_v1}
use Rattle.jobspec_v1.specs.Requests.{requests_of}
use Rattle.jobspec_v1.specs.Tasks.{task_list, tasks_fault}
use Rattle.jobspec_v1.specs.Jobspecs.{version_of, resources_of, unless, unless_fault, is_one, bars_in, ask_for, v1_in}
use Rattle.jobspec_v1.specs.Jobspecs.{v1_or_no_json}
use Rattle.jobspec_v1.specs.Parts.{AreSame, IsReadAs}

-- ---- the attributes

-- null counts as absent
abbrev not_null : Option Data → Option Data
not_null o = option_and_then (λ e. if is_some (as_null e) then None else Some e) o

-- what is read of the object at a key with a default
module _ (path : List ℕ) (inner : Option Data → Result Terms SpecFault) where
  abbrev read_at : Option Data → Result Terms SpecFault
  read_at o = result_and_then (at_path path (object_or_none (not_null o))) inner

  by_object : (b : Bool) (d e : Data) → inner (Some d) ≡ inner (Some e) →
      result_and_then (at_path path (cond b (Ok (Some d)) (Err Kind))) inner
      ≡ result_and_then (at_path path (cond b (Ok (Some e)) (Err Kind))) inner
  by_object true d e same = same
  by_object false d e same = refl

  by_null : (a : Bool) (d e : Data) → is_some (as_object d) ≡ is_some (as_object e) →
      inner (Some d) ≡ inner (Some e)
      → result_and_then (at_path path (object_or_none (cond a None (Some d)))) inner
      ≡ result_and_then (at_path path (object_or_none (cond a None (Some e)))) inner
  by_null true d e objects same = refl
  by_null false d e objects same =
      ap (λ b. result_and_then (at_path path (cond b (Ok (Some d)) (Err Kind))) inner) objects
      ∙ by_object (is_some (as_object e)) d e same

  read_alike : (w : Wanted) (ws : List Wanted) → ((d e : Data) → AgreeOn (w ∷ ws) d e → inner (Some d) ≡ inner (Some e))
      → (o p : Option Data) → AreAlike (AgreeOn (w ∷ ws)) o p → read_at o ≡ read_at p
  read_alike w ws same None None agree = refl
  read_alike w ws same None (Some e) agree = absurd agree
  read_alike w ws same (Some d) None agree = absurd agree
  read_alike w ws same (Some d) (Some e) agree =
      ap (λ n. result_and_then (at_path path (object_or_none (cond (is_some n) None (Some d)))) inner) agree.0
      ∙ by_null (is_some (as_null e)) d e agree.1 (same d e agree)

same_whole : (o p : Option Data) → AreAlike (AgreeOn []) o p → o ≡ p
same_whole None None agree = refl
same_whole None (Some e) agree = absurd agree
same_whole (Some d) None agree = absurd agree
same_whole (Some d) (Some e) agree = ap Some agree

-- by the duration and the constraint
abbrev held : Option Data → Option Data → Result Terms SpecFault
held duration constraint =
    result_and_then (at_path (codes "attributes.system.duration")
    (if is_some duration then u64_of 0 GREATEST_NUMBER duration else Ok 0)) (λ n.
    Ok (record { duration = n; constraint = not_null constraint }))

abbrev of_system : Option Data → Result Terms SpecFault
of_system o =
    result_and_then (at_path (codes "attributes.system.duration") (duration_in o)) (λ n.
    Ok (record { duration = n; constraint = given_in (codes "constraints") o }))

abbrev of_attributes : Option Data → Result Terms SpecFault
of_attributes o =
    result_and_then (at_path (codes "attributes.system") (object_or_none (given_in (codes "system") o))) of_system

-- ---- a jobspec

module _ (w0 w1 w2 : Wanted) (version : IsTrue (is_whole_key w0 (codes "version")))
    (resources : IsTrue (is_whole_key w0 (codes "resources"))) (tasks : IsTrue (is_whole_key w0 (codes "tasks")))
    (attributes : w0.part.now ≡ codes "attributes") (system : w1.part.now ≡ codes "system")
    (duration : IsTrue (is_whole_key w2 (codes "duration"))) (constraints : w2.part.now ≡ codes "constraints") where
  system_same : (d e : Data) → AgreeOn (w2 ∷ []) d e → of_system (Some d) ≡ of_system (Some e)
  system_same d e agree =
      let there = same_whole _ _ (subst
      (λ k. AreAlike (AgreeOn []) (get k d) (get k e)) constraints agree.3) in
      ap (λ o. held o (get (codes "constraints") d)) (agree.2 (codes "duration") duration)
      ∙ ap (held (get (codes "duration") e)) there

  attributes_same : (d e : Data) → AgreeOn (w1 ∷ w2 ∷ []) d e → of_attributes (Some d) ≡ of_attributes (Some e)
  attributes_same d e agree =
      read_alike (codes "attributes.system") of_system w2 [] system_same (get (codes "system") d)
      (get (codes "system") e)
      (subst (λ k. AreAlike (AgreeOn (w2 ∷ [])) (get k d) (get k e)) system agree.3)

  terms_same : (d e : Data) → AgreeOn (w0 ∷ w1 ∷ w2 ∷ []) d e → terms_of d ≡ terms_of e
  terms_same d e agree =
      read_alike (codes "attributes") of_attributes w1 (w2 ∷ []) attributes_same (get (codes "attributes") d)
      (get (codes "attributes") e)
      (subst (λ k. AreAlike (AgreeOn (w1 ∷ w2 ∷ [])) (get k d) (get k e)) attributes agree.3)

  are_same : (d e : Data) → AgreeOn (w0 ∷ w1 ∷ w2 ∷ []) d e → AreSame d e
  are_same d e agree = record {
    object = agree.1;
    version = ap (λ o. at_path (codes "version") (u64_of 1 GREATEST_NUMBER o)) (agree.2 (codes "version") version);
    resources = ap
        (λ o. result_and_then (at_path (codes "resources") (result_and_then (list_of o) some_items))
        (λ ds. requests_of ds false (codes "resources") 0 [])) (agree.2 (codes "resources") resources);
    tasks = ap
        (λ o. at_path (codes "tasks") (result_and_then (list_of o) some_items)) (agree.2 (codes "tasks") tasks);
    terms = terms_same d e agree;
  }

  pub is_read_as : (o : Option Data) (d : Data) → IsPartOf (w0 ∷ w1 ∷ w2 ∷ []) o d → IsReadAs o d
  is_read_as None d agree = agree
  is_read_as (Some e) d agree = are_same e d agree

-- ---- what the same jobspec gives

-- by its parts
abbrev Body : Type 0
Body = Result ℕ SpecFault → Result Requested SpecFault → Result Items SpecFault → Result Terms SpecFault
    → Result Ask SpecFault

abbrev pub by_parts : Body → Data → Result Ask SpecFault
by_parts body d = result_and_then (at_path (codes ".") (object_value d)) (λ _.
    body (version_of d) (resources_of d) (task_list d) (terms_of d))

whether_object : (b : Bool) (d e : Data) (rest : Result Ask SpecFault) →
    result_and_then (at_path (codes ".") (cond b (Ok d) (Err Kind))) (λ _. rest)
    ≡ result_and_then (at_path (codes ".") (cond b (Ok e) (Err Kind))) (λ _. rest)
whether_object true d e rest = refl
whether_object false d e rest = refl

pub same_by_parts : (body : Body) (d e : Data) → AreSame d e → by_parts body d ≡ by_parts body e
same_by_parts body d e same =
    let whole = λ (rest : Result Ask SpecFault).
    result_and_then (at_path (codes ".") (object_value d)) (λ _. rest) in
    ap (λ v. whole (body v (resources_of d) (task_list d) (terms_of d))) same.version
    ∙ ap (λ r. whole (body (version_of e) r (task_list d) (terms_of d))) same.resources
    ∙ ap (λ t. whole (body (version_of e) (resources_of e) t (terms_of d))) same.tasks
    ∙ ap (λ t. whole (body (version_of e) (resources_of e) (task_list e) t)) same.terms
    ∙ ap (λ b. result_and_then (at_path (codes ".") (cond b (Ok d) (Err Kind))) (λ _.
    body (version_of e) (resources_of e) (task_list e) (terms_of e))) same.object
    ∙ whether_object (is_some (as_object e)) d e (body (version_of e) (resources_of e) (task_list e) (terms_of e))

abbrev v1_body : NamedGraph → Body
v1_body g version resources tasks terms =
    result_and_then version (λ version.
    result_and_then (unless (not (version == 1)) Version) (λ _.
    result_and_then resources (λ requested.
    result_and_then (unless (not (is_v1 requested.needs)) Form) (λ _.
    result_and_then (result_and_then tasks (λ tasks.
    result_and_then (unless (not (is_one tasks)) (Task (codes "tasks"))) (λ _.
    unless_fault (tasks_fault requested.labels 0 tasks)))) (λ _.
    result_and_then terms (λ terms.
    result_and_then (bars_in g terms.constraint) (λ bars.
    ask_for g.resources terms.duration bars requested.needs)))))))

pub same_v1 : (g : NamedGraph) (o : Option Data) (d : Data) → IsReadAs o d → v1_or_no_json g o ≡ v1_in g d
same_v1 g None d same = absurd same
same_v1 g (Some e) d same = same_by_parts (v1_body g) e d same

-- ---- no value

-- the fault of bytes without a value
pub told_none : (read : Option Data → Result Ask SpecFault) → read None ≡ Err NotJson → (o : Option Data)
    (fault : SpecFault) → (fault ≡ Memory) ⊎ ((fault ≡ NotJson) × (o ≡ None)) → IsFirstFault (read o) fault
told_none read none o fault (inl memory) = inl memory
told_none read none o fault (inr told) = inr (ap read told.1 ∙ none ∙ ap Err (sym told.0))
