use Rattle.std.proofs.Common.{◌∙◌, sym, arith}
use Rattle.json_whole.proofs.Steps.{before_string, between}
use Rattle.json_whole.proofs.plain_form.run_start.Goals as goal

pub bytes-preserved-then-byte-eq34 : goal.bytes-preserved-then-byte-eq34
bytes-preserved-then-byte-eq34 c = record {
  passed = omega arith;
  within = omega arith;
  same = c.bytes.invariant.same ∙ before_string c.args.text.now c.bytes.at c.bytes-test.true
      (sym c.begins_run.ensures ∙ c.if-begins_run.false) c.if-byte-eq34.true ∙ c.string_end-at.ensures.same;
}

pub bytes-preserved : goal.bytes-preserved
bytes-preserved c = record {
  passed = omega arith;
  within = omega arith;
  same = c.bytes.invariant.same ∙ between c.args.text.now c.bytes.at c.bytes-test.true
      (sym c.begins_run.ensures ∙ c.if-begins_run.false) c.if-byte-eq34.false;
}
