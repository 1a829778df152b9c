use Rattle.std.proofs.Common.{◌∙◌, sym, ap, Err, inr}
use Rattle.std.proofs.lemmas.Result.{IfErr-weaker}
use Rattle.json_whole.specs.Values.{view, items_view}
use Rattle.jobspec_v1.specs.declared.faults.SpecFault.TheVariants.{Task}
use Rattle.jobspec_v1.proofs.TaskLaws.{not_one, one_fine, one_told}
use Rattle.jobspec_v1.proofs.jobspecs.check_v1_tasks.Goals as goal

pub returns-in_ok-of-in-Ok-clause-told : goal.returns-in_ok-of-in-Ok-clause-told
returns-in_ok-of-in-Ok-clause-told c =
    let many = sym c.is_one.ensures ∙ c.if-not-is_one.true in
    inr (not_one c.args.labels.now (view c.args.value.now) (items_view c.in-Ok.values.now) c.in-Ok.ensures.read many
    ∙ ap (λ p. Err (Task p)) (sym c.in_ok-of-in-Ok.ensures))

pub returns-in-Ok-2-clause-fine : goal.returns-in-Ok-2-clause-fine
returns-in-Ok-2-clause-fine c = λ ok.
    let one = sym c.is_one.ensures ∙ c.if-not-is_one.false in
    one_fine c.args.labels.now
    (view c.args.value.now) (items_view c.in-Ok.values.now) c.in-Ok.ensures.read one (c.check_tasks.ensures.fine ok)

pub returns-in-Ok-2-clause-told : goal.returns-in-Ok-2-clause-told
returns-in-Ok-2-clause-told c =
    let one = sym c.is_one.ensures ∙ c.if-not-is_one.false in
    IfErr-weaker c.check_tasks.result _ _
    (one_told c.args.labels.now (view c.args.value.now) (items_view c.in-Ok.values.now) c.in-Ok.ensures.read one)
    c.check_tasks.ensures.told
