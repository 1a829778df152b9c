use Rattle.std.proofs.Common.{◌≡◌, ◌+◌, ◌==◌, not, drop}
use Rattle.std.specs.List.{position_or_len}
use Rattle.fluxion_lines.proofs.words.spaces.Given as goal

abbrev pub invariant-bytes : goal.invariant-bytes
invariant-bytes l =
    l.at + position_or_len (λ b. not (b == 32)) (drop l.at l.bytes) ≡ position_or_len (λ b. not (b == 32)) l.bytes
