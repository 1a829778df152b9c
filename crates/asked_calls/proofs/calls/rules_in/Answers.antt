use Rattle.std.proofs.Common.{ℕ, List, subst}
use Rattle.prune_filters.specs.Filters.{IsFaultOf, IsFirstFault}
use Rattle.prune_filters.proofs.RuleLaws.{no_list}
use Rattle.asked_calls.proofs.calls.rules_in.Goals as goal

pub returns-in-Err-Form : goal.returns-in-Err-Form
returns-in-Err-Form c = λ rules are.
    let fault = subst (IsFaultOf c.as_bytes.result.now) c.in-Err-Form.field-0-is c.in-Err-Form.ensures.fault in
    no_list c.args.text.now c.in-Err-Form.field-0-0 rules
    (subst (λ (text : List ℕ). IsFirstFault text c.in-Err-Form.field-0-0) c.as_bytes.ensures.value fault) are
