use Rattle.std.proofs.Common.{◌∙◌, refl, sym, subst}
use Rattle.std.proofs.lemmas.Result.{IfOk-weaker, IfErr-weaker}
use Rattle.json_whole.specs.Values.{view}
use Rattle.json_whole.specs.Whole.{value_of}
use Rattle.jobspec_v1.specs.Faults.{IsFirstFault}
use Rattle.jobspec_canon.specs.Canonical.{canon_or_no_json}
use Rattle.jobspec_v1.proofs.PartLaws.{told_none}
use Rattle.jobspec_canon.proofs.Parts.{same_canon}
use Rattle.jobspec_canon.proofs.canonical.read_canon_in.Goals as goal

pub returns-in-Ok-clause-ask : goal.returns-in-Ok-clause-ask
returns-in-Ok-clause-ask c =
    let same = same_canon c.args.graph.now (value_of c.args.bytes.now) (view c.in-Ok.value) c.in-Ok.ensures.value in
    IfOk-weaker c.canon_in.result _ _ (λ ask is. same ∙ is) c.canon_in.ensures.ask

pub returns-in-Ok-clause-told : goal.returns-in-Ok-clause-told
returns-in-Ok-clause-told c =
    let same = same_canon c.args.graph.now (value_of c.args.bytes.now) (view c.in-Ok.value) c.in-Ok.ensures.value in
    IfErr-weaker c.canon_in.result _ _ (λ fault told. subst (λ meant. IsFirstFault meant fault) (sym same) told)
    c.canon_in.ensures.told

pub returns-in-Err-clause-told : goal.returns-in-Err-clause-told
returns-in-Err-clause-told c =
    told_none (canon_or_no_json c.args.graph.now) refl (value_of c.args.bytes.now) c.in-Err.fault c.in-Err.ensures.told
