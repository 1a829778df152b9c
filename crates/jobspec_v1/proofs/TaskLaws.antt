-- The tasks of V1, by how many there are.
use Rattle.std.proofs.Common.{ℕ, ◌≡◌, ◌⊎◌, inl, inr, refl, ◌∙◌, ap, true, false, not, Some, None, List, [], ◌∷◌, length}
use Rattle.std.proofs.Common.{◌==◌, Ok, Err, Global, codes, arith}
use Rattle.std.proofs.lemmas.Bool.{ne_eqb}
use Rattle.json_fields.specs.Values.{result_and_then}
use Rattle.json.specs.declared.value.Value.{Value}
use Rattle.json_whole.specs.Values.{items_view}
use Rattle.serde_json.specs.Data.{Data, Items}
use Rattle.jobspec_v1.specs.declared.faults.SpecFault.{SpecFault}
use Rattle.jobspec_v1.specs.declared.faults.SpecFault.TheVariants.{Task, Memory}
use Rattle.jobspec_v1.specs.Faults.{IsFirstFault}
use Rattle.jobspec_v1.specs.Tasks.{task_list, tasks_fault}
use Rattle.jobspec_v1.specs.Jobspecs.{is_one, unless, unless_fault, v1_tasks}

-- one value
pub one_value : (vs : List (Value Global)) → (length vs == 1) ≡ is_one (items_view vs)
one_value [] = refl
one_value (v ∷ []) = refl
one_value (v ∷ w ∷ vs) = ne_eqb (length (v ∷ w ∷ vs)) 1 (λ one. omega (arith, one))

module _ (labels : List (List ℕ)) (d : Data) (ds : Items) (read : task_list d ≡ Ok ds) where
  by_list : v1_tasks labels d
      ≡ result_and_then (unless (not (is_one ds)) (Task (codes "tasks"))) (λ b. unless_fault (tasks_fault labels 0 ds))
  by_list = ap (λ r. result_and_then r (λ (tasks : Items). result_and_then
      (unless (not (is_one tasks)) (Task (codes "tasks"))) (λ b. unless_fault (tasks_fault labels 0 tasks)))) read

  pub not_one : is_one ds ≡ false → v1_tasks labels d ≡ Err (Task (codes "tasks"))
  not_one many = by_list ∙ ap
      (λ b. result_and_then (unless (not b) (Task (codes "tasks"))) (λ c. unless_fault (tasks_fault labels 0 ds))) many

  pub of_one : is_one ds ≡ true → v1_tasks labels d ≡ unless_fault (tasks_fault labels 0 ds)
  of_one one = by_list ∙ ap
      (λ b. result_and_then (unless (not b) (Task (codes "tasks"))) (λ c. unless_fault (tasks_fault labels 0 ds))) one

  pub one_fine : is_one ds ≡ true → tasks_fault labels 0 ds ≡ None → v1_tasks labels d ≡ Ok true
  one_fine one none = of_one one ∙ ap unless_fault none

  pub one_told : is_one ds ≡ true → (fault : SpecFault) → (fault ≡ Memory) ⊎ (tasks_fault labels 0 ds ≡ Some fault) →
      IsFirstFault (v1_tasks labels d) fault
  one_told one fault (inl memory) = inl memory
  one_told one fault (inr told) = inr (of_one one ∙ ap unless_fault told)
