use Rattle.std.proofs.Common.{◌≡◌, ◌≤◌, ◌-◌, length}
use Rattle.json_whole.specs.Plain.{outside}
use Rattle.json_whole.specs.Forms.{plain_behind}
use Rattle.json_whole.proofs.plain_form.run_start.Given as goal

abbrev pub invariant-bytes : goal.invariant-bytes
invariant-bytes l = record {
  passed : l.from ≤ l.at;
  within : l.at ≤ length l.text;
  same : plain_behind outside l.from l.text ≡ plain_behind outside l.at l.text;
}

abbrev pub decreases-bytes : goal.decreases-bytes
decreases-bytes l = length l.text - l.at
