use Rattle.std.proofs.Common.{Some, ap, sym, ◌∙◌}
use Rattle.resource_set_r.specs.Rows.{rising}
use Rattle.resource_set_r.proofs.SetLaws.{already, added}
use Rattle.resource_set_r.proofs.sets.add.Goals as goal

pub returns-then-number-last : goal.returns-then-number-last
returns-then-number-last c =
    already c.as_slice.result.now c.args.numbers.now.items c.as_slice.ensures.value c.args.number
    (sym c.in-Some.ensures.value ∙ ap Some (sym c.if-number-last.true))

pub returns : goal.returns
returns c = ap rising c.in_ok-push.ensures.items ∙ added c.args.numbers.now.items c.args.number
