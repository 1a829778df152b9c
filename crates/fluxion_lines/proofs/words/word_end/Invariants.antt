use Rattle.std.proofs.Common.{◌≡◌, ◌+◌, ◌==◌, drop}
use Rattle.std.specs.List.{position_or_len}
use Rattle.fluxion_lines.proofs.words.word_end.Given as goal

abbrev pub invariant-bytes : goal.invariant-bytes
invariant-bytes l = l.at + position_or_len (λ b. b == 32) (drop l.at l.bytes) ≡ position_or_len (λ b. b == 32) l.bytes
