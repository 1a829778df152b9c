use Rattle.std.proofs.Common.{◌≡◌, ◌≤◌, ◌-◌, ◌++◌, length, drop}
use Rattle.json_whole.specs.Plain.{plain_of}
use Rattle.json_whole.proofs.plain_form.write_plain.Given as goal

abbrev pub invariant-pieces : goal.invariant-pieces
invariant-pieces l = record {
  within : l.at ≤ length l.text;
  so_far : l.out.items ++ plain_of (drop l.at l.text) ≡ l.initial.out.items ++ plain_of l.text;
}

abbrev pub decreases-pieces : goal.decreases-pieces
decreases-pieces l = length l.text - l.at
