use Rattle.std.proofs.Common.{◌∙◌}
use Rattle.json_whole.proofs.Steps.{after_escape, at_quote, at_other, all_passed}
use Rattle.json_whole.proofs.plain_form.string_end.Goals as goal
use Rattle.json_whole.proofs.plain_form.string_end.Goals.{then-escaped, else-escaped+else-byte-eq34}

pub returns-then-byte-eq34-clause-same : goal.returns-then-byte-eq34-clause-same
returns-then-byte-eq34-clause-same c = (rw c.if-escaped.false at c.bytes.invariant)
    ∙ at_quote c.args.text.now c.bytes.at c.bytes-test.true c.if-byte-eq34.true

pub bytes-preserved : goal.bytes-preserved
bytes-preserved c = elim c.if-escaped.branch [
  | then-escaped w ↦ rw w.escaped-is
      ((rw w.if-escaped.true at c.bytes.invariant) ∙ after_escape c.args.text.now c.bytes.at c.bytes-test.true)
  | else-escaped+else-byte-eq34 w ↦ rw w.escaped-is ((rw w.if-escaped.false at c.bytes.invariant)
      ∙ at_other c.args.text.now c.bytes.at c.bytes-test.true w.if-byte-eq34.false)
]

pub returns-clause-same : goal.returns-clause-same
returns-clause-same c = c.bytes.invariant ∙ all_passed _ c.args.text.now c.bytes.at c.bytes-test.false
