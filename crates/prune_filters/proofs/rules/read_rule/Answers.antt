use Rattle.std.proofs.Common.{◌≡◌, sym, ◌∙◌, false, true≢false}
use Rattle.prune_filters.specs.Names.{is_type_name}
use Rattle.prune_filters.proofs.TextLaws.{no_rule, rule_parts}
use Rattle.prune_filters.proofs.rules.read_rule.Goals as goal

pub returns-in_default : goal.returns-in_default
returns-in_default c = no_rule c.args.item.now c.in_default.ensures

pub returns-then-not-is_name : goal.returns-then-not-is_name
returns-then-not-is_name c = λ is.
    let parts = c.in-Some.ensures in
    let names = rule_parts c.args.item.now c.in-Some.high.now c.in-Some.low.now parts.0 parts.1 is in
    let no' : false ≡ is_type_name c.in-Some.high.now = c.if-not-is_name.ensures in
    true≢false (sym (no' ∙ names.0))

pub returns-then-not-is_name-2 : goal.returns-then-not-is_name-2
returns-then-not-is_name-2 c = λ is.
    let parts = c.in-Some.ensures in
    let names = rule_parts c.args.item.now c.in-Some.high.now c.in-Some.low.now parts.0 parts.1 is in
    let no' : false ≡ is_type_name c.in-Some.low.now = c.if-not-is_name-2.ensures in
    true≢false (sym (no' ∙ names.1))
