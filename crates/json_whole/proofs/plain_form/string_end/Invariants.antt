use Rattle.std.proofs.Common.{◌≡◌, cond}
use Rattle.json_whole.specs.Plain.{in_string, escaped}
use Rattle.json_whole.specs.Forms.{plain_behind}
use Rattle.json_whole.proofs.plain_form.string_end.Given as goal

abbrev pub invariant-bytes : goal.invariant-bytes
invariant-bytes l = plain_behind in_string l.from l.text ≡ plain_behind (cond l.escaped escaped in_string) l.at l.text
