use Rattle.std.proofs.Common.{sym, ap, ◌∙◌, is_some}
use Rattle.node_constraints.specs.declared.listed.Listed.{Listed}
use Rattle.node_constraints.proofs.ListedLaws.{IsIndex, named_answer, numbered_answer}
use Rattle.node_constraints.proofs.listed.Listed.has.Goals as goal

index : (l : Listed) → IsIndex l.lists l.names l.prefixes l.covered
index l = record { named = l.named; prefixed = l.prefixed; told = l.told; small = l.small }

pub returns-then-is_some : goal.returns-then-is_some
returns-then-is_some c =
    let l = c.args.self.now in
    c.if-is_some.true ∙ named_answer l.lists l.names l.prefixes l.covered (index l) c.args.name.now
    (sym (c.if-is_some.ensures ∙ ap is_some c.number_of.ensures.value))

pub returns-else-is_some : goal.returns-else-is_some
returns-else-is_some c =
    let l = c.args.self.now in
    numbered_answer l.lists l.names l.prefixes l.covered (index l) c.args.name.now c.has_numbered.result
    (sym (c.if-is_some.ensures ∙ ap is_some c.number_of.ensures.value)) c.has_numbered.ensures.0
    c.has_numbered.ensures.1
