use Rattle.std.proofs.Common.{◌≡◌, ◌≤◌, ◌-◌, length}
use Rattle.json_whole.specs.Plain.{outside, plain_of}
use Rattle.json_whole.specs.Forms.{plain_behind}
use Rattle.json_whole.proofs.plain_form.kept_front.Given as goal

abbrev pub invariant-runs : goal.invariant-runs
invariant-runs l = record { within : l.at ≤ length l.text; same : plain_of l.text ≡ plain_behind outside l.at l.text }

abbrev pub decreases-runs : goal.decreases-runs
decreases-runs l = length l.text - l.at
