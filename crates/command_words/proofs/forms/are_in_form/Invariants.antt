use Rattle.std.proofs.Common.{◌≡◌, map, string_bytes, drop}
use Rattle.command_words.specs.Taken.{goes_on}
use Rattle.command_words.proofs.FormLaws.{start}
use Rattle.command_words.proofs.forms.are_in_form.Given as goal

abbrev pub invariant-loop-word : goal.invariant-loop-word
invariant-loop-word l = goes_on l.state (map string_bytes (drop l.word-index l.words)) ≡ goes_on start
    (map string_bytes l.words)
